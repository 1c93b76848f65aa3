-- One more form gets the offset, if it isn't large.
use Rattle.std.proofs.Common.{◌≡◌, ℕ, ◌<◌, List, length, get_or, true, false, refl, ap, subst, ◌∙◌, arith, to_z, of_z}
use mir.Syntax.{w128}
use Rattle.std.proofs.lemmas.Int.{to_z-of_z}
use Rattle.std.proofs.lemmas.List.{get_or_read, length-set}
use Rattle.std.proofs.lemmas.List.Elements.{Contains-get_or}
use Rattle.rank_numbers.specs.Forms.{Forms}
use Rattle.rank_numbers.specs.Rows.{form_of, Became, Passes}
use Rattle.rank_numbers.proofs.Raising.{others_before, became_more, raise_others, others_stay, all_raised, limits_some, limits_none}
use Rattle.rank_numbers.proofs.shift.shift.Goals as goal

pub returns-in_default-clause-others : goal.returns-in_default-clause-others
returns-in_default-clause-others g c = others_stay _ (g.R.Ranks.forms c.args.ranks.now) c.args.part.now c.args.forms.now c.loop-key.forms c.loop-key.key-index (omega arith) c.loop-key.invariant.others

pub returns-in_default-clause-large : goal.returns-in_default-clause-large
returns-in_default-clause-large g c = λ _.
    let o : Forms g.row.R-Form.Denot = g.R.Ranks.forms c.args.ranks.now in
    let key : ℕ = get_or c.args.part.now c.loop-key.key-index 0 in
    let w = to_z-of_z w128 c.args.offset c.ranges.offset in
    let li : c.loop-key.key-index < length c.args.part.now = omega arith in
    let apart = others_before c.args.part.now c.loop-key.key-index c.requires.ascend li in
    let lk : key < length c.loop-key.forms = omega (arith, c.requires.keys c.loop-key.key-index 0 li, c.loop-key.invariant.len) in
    let read = get_or_read c.loop-key.forms key c.index-forms-key.result lk c.index-forms-key.is o.one in
    subst (λ x. Passes o (λ f. o.shift f x) c.args.part.now c.args.forms.now) w (
      key,
      Contains-get_or c.args.part.now c.loop-key.key-index 0 li,
      subst (λ x. o.small (o.shift x (to_z w128 (of_z w128 c.args.offset))) ≡ false) (read ∙ c.loop-key.invariant.others key apart)
          (limits_none o (o.shift c.index-forms-key.result (to_z w128 (of_z w128 c.args.offset))) c.in_default.ensures),
    )

pub loop-key-preserved : goal.loop-key-preserved
loop-key-preserved g c =
    let Form : Type 0 = g.row.R-Form.Denot in
    let o : Forms g.row.R-Form.Denot = g.R.Ranks.forms c.args.ranks.now in
    let part : List ℕ = c.args.part.now in
    let i : ℕ = c.loop-key.key-index in
    let key : ℕ = get_or c.args.part.now c.loop-key.key-index 0 in
    let shifted_by : g.row.R-Form.Denot → g.row.R-Form.Denot = λ f. (g.R.Ranks.forms c.args.ranks.now).shift f (to_z w128 (of_z w128 c.args.offset)) in
    let apart = others_before c.args.part.now c.loop-key.key-index c.requires.ascend (omega arith) in
    let lk : key < length c.loop-key.forms = omega (arith, c.requires.keys c.loop-key.key-index 0 (omega arith), c.loop-key.invariant.len) in
    let read = get_or_read c.loop-key.forms key c.index-forms-key.result lk c.index-forms-key.is o.one in
    let lim = limits_some o (shifted_by c.index-forms-key.result) c.in-Some.form c.in-Some.ensures in
    let is : c.in-Some.form ≡ shifted_by (form_of o c.args.forms.now key) = lim.0 ∙ ap shifted_by (read ∙ c.loop-key.invariant.others key apart) in
    record {
      shifted = became_more Form o c.args.forms.now c.loop-key.forms part i key c.in-Some.form shifted_by lk refl apart is lim.1 c.loop-key.invariant.shifted;
      others = raise_others Form o c.args.forms.now c.loop-key.forms part i key c.in-Some.form shifted_by lk refl apart is c.loop-key.invariant.others;
      len = length-set c.loop-key.forms key c.in-Some.form ∙ c.loop-key.invariant.len;
    }

pub returns-clause-shifted : goal.returns-clause-shifted
returns-clause-shifted g c = λ _.
    let o : Forms g.row.R-Form.Denot = g.R.Ranks.forms c.args.ranks.now in
    let w = to_z-of_z w128 c.args.offset c.ranges.offset in
    subst (λ x. Became o (λ f. o.shift f x) c.args.part.now c.args.forms.now c.loop-key.forms) w
    (all_raised (λ k. (form_of o c.loop-key.forms k ≡ o.shift (form_of o c.args.forms.now k) (to_z w128 (of_z w128 c.args.offset))) × (o.small (form_of o c.loop-key.forms k) ≡ true)) c.args.part.now
    (λ k lk. c.loop-key.invariant.shifted k (omega arith)))
