-- One more part has its offset, if none of its forms is large.
use Rattle.std.proofs.Common.{◌≡◌, ◌<◌, length, get_or, refl, sym, subst, ◌∙◌, arith, rules, to_z, of_z}
use mir.Syntax.{w128}
use mir.Val.{SFits}
use Rattle.std.specs.Prelude.{pos}
use Rattle.std.specs.List.{All, AllPairs}
use Rattle.std.proofs.lemmas.Int.{to_z-of_z}
use Rattle.strong_components.specs.Components.{part_at}
use Rattle.strong_components.specs.Groups.{lists_of}
use Rattle.rank_shape.proofs.Sorting.{part_read, lists_length}
use Rattle.rank_numbers.specs.Forms.{Forms}
use Rattle.rank_numbers.specs.Rows.{OthersStay, Became, Passes}
use Rattle.rank_numbers.proofs.Shifting.{shifted_more, left_more, away_more, shift_passes}
use Rattle.rank_numbers.proofs.shift.shift_parts.Goals as goal

pub shift-requires-clause-ascend : goal.shift-requires-clause-ascend
shift-requires-clause-ascend g c =
    let is-part : part_at (lists_of c.args.parts.now) c.loop-p.p ≡ c.deref.result.now = part_read c.args.parts.now c.loop-p.p c.index-parts-p.result (omega arith) c.index-parts-p.is ∙ sym c.deref.ensures.value in
    subst (λ x. AllPairs (λ a b. a < b) x) is-part (c.requires.ascend c.loop-p.p (omega (arith, lists_length c.args.parts.now)))

pub shift-requires-clause-keys : goal.shift-requires-clause-keys
shift-requires-clause-keys g c =
    let is-part : part_at (lists_of c.args.parts.now) c.loop-p.p ≡ c.deref.result.now = part_read c.args.parts.now c.loop-p.p c.index-parts-p.result (omega arith) c.index-parts-p.is ∙ sym c.deref.ensures.value in
    subst (λ n. All (λ k. k < n) c.deref.result.now) (sym c.loop-p.invariant.len) (subst (λ x. All (λ k. k < length c.args.forms.now) x) is-part (c.requires.below c.loop-p.p (omega (arith, lists_length c.args.parts.now))))

pub returns-then-not-shift-clause-large : goal.returns-then-not-shift-clause-large
returns-then-not-shift-clause-large g c = λ _.
    let o : Forms g.row.R-Form.Denot = g.R.Ranks.forms c.args.ranks.now in
    let lp : c.loop-p.p < length (lists_of c.args.parts.now) = omega (arith, lists_length c.args.parts.now) in
    let is-part : part_at (lists_of c.args.parts.now) c.loop-p.p ≡ c.deref.result.now = part_read c.args.parts.now c.loop-p.p c.index-parts-p.result (omega arith) c.index-parts-p.is ∙ sym c.deref.ensures.value in
    let f : SFits w128 (get_or c.args.offset.now c.loop-p.p (pos 0)) = search rules in
    let w = to_z-of_z w128 (get_or c.args.offset.now c.loop-p.p (pos 0)) f in
    shift_passes _ o (lists_of c.args.parts.now) c.requires.apart c.args.offset.now c.args.forms.now c.loop-p.forms c.loop-p.p lp c.loop-p.invariant.left
    (subst (λ x. Passes o (λ f. o.shift f x) (part_at (lists_of c.args.parts.now) c.loop-p.p) c.loop-p.forms) w
    (subst (λ x. Passes o (λ f. o.shift f (to_z w128 (of_z w128 (get_or c.args.offset.now c.loop-p.p (pos 0))))) x c.loop-p.forms) (sym is-part) (c.if-not-shift.ensures.large refl)))

pub returns-then-not-shift-clause-others : goal.returns-then-not-shift-clause-others
returns-then-not-shift-clause-others g c =
    let o : Forms g.row.R-Form.Denot = g.R.Ranks.forms c.args.ranks.now in
    let lp : c.loop-p.p < length (lists_of c.args.parts.now) = omega (arith, lists_length c.args.parts.now) in
    let is-part : part_at (lists_of c.args.parts.now) c.loop-p.p ≡ c.deref.result.now = part_read c.args.parts.now c.loop-p.p c.index-parts-p.result (omega arith) c.index-parts-p.is ∙ sym c.deref.ensures.value in
    away_more _ o (lists_of c.args.parts.now) c.requires.apart c.args.offset.now c.args.forms.now c.loop-p.forms c.loop-p.p lp c.loop-p.invariant.left c.shift.new.forms
    (subst (λ x. OthersStay o x c.loop-p.forms c.shift.new.forms) (sym is-part) c.shift.ensures.others) c.loop-p.invariant.others

pub loop-p-preserved : goal.loop-p-preserved
loop-p-preserved g c =
    let o : Forms g.row.R-Form.Denot = g.R.Ranks.forms c.args.ranks.now in
    let lp : c.loop-p.p < length (lists_of c.args.parts.now) = omega (arith, lists_length c.args.parts.now) in
    let is-part : part_at (lists_of c.args.parts.now) c.loop-p.p ≡ c.deref.result.now = part_read c.args.parts.now c.loop-p.p c.index-parts-p.result (omega arith) c.index-parts-p.is ∙ sym c.deref.ensures.value in
    let f : SFits w128 (get_or c.args.offset.now c.loop-p.p (pos 0)) = search rules in
    let w = to_z-of_z w128 (get_or c.args.offset.now c.loop-p.p (pos 0)) f in
    let stay : OthersStay o (part_at (lists_of c.args.parts.now) c.loop-p.p) c.loop-p.forms c.shift.new.forms =
    subst (λ x. OthersStay o x c.loop-p.forms c.shift.new.forms) (sym is-part) c.shift.ensures.others in
    let new : Became o (λ f. o.shift f (get_or c.args.offset.now c.loop-p.p (pos 0))) (part_at (lists_of c.args.parts.now) c.loop-p.p) c.loop-p.forms c.shift.new.forms =
    subst (λ x. Became o (λ f. o.shift f x) (part_at (lists_of c.args.parts.now) c.loop-p.p) c.loop-p.forms c.shift.new.forms) w
    (subst (λ x. Became o (λ f. o.shift f (to_z w128 (of_z w128 (get_or c.args.offset.now c.loop-p.p (pos 0))))) x c.loop-p.forms c.shift.new.forms) (sym is-part) (c.if-not-shift.ensures.shifted refl)) in
    record {
      shifted = shifted_more _ o (lists_of c.args.parts.now) c.requires.apart c.args.offset.now c.args.forms.now c.loop-p.forms c.loop-p.p lp c.loop-p.invariant.left c.shift.new.forms new stay c.loop-p.invariant.shifted;
      left = left_more _ o (lists_of c.args.parts.now) c.requires.apart c.args.offset.now c.args.forms.now c.loop-p.forms c.loop-p.p lp c.loop-p.invariant.left c.shift.new.forms stay;
      others = away_more _ o (lists_of c.args.parts.now) c.requires.apart c.args.offset.now c.args.forms.now c.loop-p.forms c.loop-p.p lp c.loop-p.invariant.left c.shift.new.forms stay c.loop-p.invariant.others;
      len = c.shift.ensures.len ∙ c.loop-p.invariant.len;
    }
