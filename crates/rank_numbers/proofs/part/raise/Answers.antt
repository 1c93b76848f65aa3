-- One more form is raised, if it isn't large.
use Rattle.std.proofs.Common.{◌≡◌, ℕ, ◌<◌, List, length, get_or, true, false, refl, ap, subst, ◌∙◌, arith, to_z, of_z}
use mir.Syntax.{w64, w128}
use Rattle.std.proofs.lemmas.Int.{to_z-of_z}
use Rattle.std.proofs.lemmas.List.{get_or_read, length-set}
use Rattle.std.proofs.lemmas.List.Elements.{Contains-get_or}
use Rattle.rank_numbers.specs.Forms.{Forms}
use Rattle.rank_numbers.specs.Rows.{form_of, Became, Passes}
use Rattle.rank_numbers.proofs.Raising.{others_before, became_more, raise_others, others_stay, all_raised, limits_some, limits_none}
use Rattle.rank_numbers.proofs.part.raise.Goals as goal

pub returns-in_default-clause-others : goal.returns-in_default-clause-others
returns-in_default-clause-others g c = others_stay _ (g.R.Ranks.forms c.args.ranks.now) c.args.part.now c.args.forms.now c.loop-key.forms c.loop-key.key-index (omega arith) c.loop-key.invariant.others

pub returns-in_default-clause-large : goal.returns-in_default-clause-large
returns-in_default-clause-large g c = λ _.
    let o : Forms g.row.R-Form.Denot = g.R.Ranks.forms c.args.ranks.now in
    let key : ℕ = get_or c.args.part.now c.loop-key.key-index 0 in
    let w = to_z-of_z w128 c.args.weight c.ranges.weight in
    let l = to_z-of_z w64 c.args.low c.ranges.low in
    let li : c.loop-key.key-index < length c.args.part.now = omega arith in
    let apart = others_before c.args.part.now c.loop-key.key-index c.requires.ascend li in
    let lk : key < length c.loop-key.forms = omega (arith, c.requires.keys c.loop-key.key-index 0 li, c.loop-key.invariant.len) in
    let read = get_or_read c.loop-key.forms key c.index-forms-key.result lk c.index-forms-key.is o.one in
    subst (λ x. Passes o (λ f. o.level x c.args.candidate c.args.low f) c.args.part.now c.args.forms.now) w
    (subst (λ x. Passes o (λ f. o.level (to_z w128 (of_z w128 c.args.weight)) c.args.candidate x f) c.args.part.now c.args.forms.now) l (
      key,
      Contains-get_or c.args.part.now c.loop-key.key-index 0 li,
      subst (λ x. o.small (o.level (to_z w128 (of_z w128 c.args.weight)) c.args.candidate (to_z w64 (of_z w64 c.args.low)) x) ≡ false) (read ∙ c.loop-key.invariant.others key apart)
          (limits_none o (o.level (to_z w128 (of_z w128 c.args.weight)) c.args.candidate (to_z w64 (of_z w64 c.args.low)) c.index-forms-key.result) c.in_default.ensures),
    ))

pub loop-key-preserved : goal.loop-key-preserved
loop-key-preserved g c =
    let Form : Type 0 = g.row.R-Form.Denot in
    let o : Forms g.row.R-Form.Denot = g.R.Ranks.forms c.args.ranks.now in
    let part : List ℕ = c.args.part.now in
    let i : ℕ = c.loop-key.key-index in
    let key : ℕ = get_or c.args.part.now c.loop-key.key-index 0 in
    let raised : g.row.R-Form.Denot → g.row.R-Form.Denot = λ f. (g.R.Ranks.forms c.args.ranks.now).level (to_z w128 (of_z w128 c.args.weight)) c.args.candidate (to_z w64 (of_z w64 c.args.low)) f in
    let apart = others_before c.args.part.now c.loop-key.key-index c.requires.ascend (omega arith) in
    let lk : key < length c.loop-key.forms = omega (arith, c.requires.keys c.loop-key.key-index 0 (omega arith), c.loop-key.invariant.len) in
    let read = get_or_read c.loop-key.forms key c.index-forms-key.result lk c.index-forms-key.is o.one in
    let lim = limits_some o (raised c.index-forms-key.result) c.in-Some.form c.in-Some.ensures in
    let is : c.in-Some.form ≡ raised (form_of o c.args.forms.now key) = lim.0 ∙ ap raised (read ∙ c.loop-key.invariant.others key apart) in
    record {
      raised = became_more Form o c.args.forms.now c.loop-key.forms part i key c.in-Some.form raised lk refl apart is lim.1 c.loop-key.invariant.raised;
      others = raise_others Form o c.args.forms.now c.loop-key.forms part i key c.in-Some.form raised lk refl apart is c.loop-key.invariant.others;
      len = length-set c.loop-key.forms key c.in-Some.form ∙ c.loop-key.invariant.len;
    }

pub returns-clause-raised : goal.returns-clause-raised
returns-clause-raised g c = λ _.
    let o : Forms g.row.R-Form.Denot = g.R.Ranks.forms c.args.ranks.now in
    let w = to_z-of_z w128 c.args.weight c.ranges.weight in
    let l = to_z-of_z w64 c.args.low c.ranges.low in
    subst (λ x. Became o (λ f. o.level x c.args.candidate c.args.low f) c.args.part.now c.args.forms.now c.loop-key.forms) w
    (subst (λ x. Became o (λ f. o.level (to_z w128 (of_z w128 c.args.weight)) c.args.candidate x f) c.args.part.now c.args.forms.now c.loop-key.forms) l
    (all_raised (λ k. (form_of o c.loop-key.forms k ≡ o.level (to_z w128 (of_z w128 c.args.weight)) c.args.candidate (to_z w64 (of_z w64 c.args.low)) (form_of o c.args.forms.now k)) × (o.small (form_of o c.loop-key.forms k) ≡ true)) c.args.part.now
    (λ k lk. c.loop-key.invariant.raised k (omega arith))))
