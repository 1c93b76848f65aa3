-- One more part's sum is looked at.
use Rattle.std.proofs.Common.{get_or, inl, inr, arith, rules, ◌∙◌, to_z, of_z}
use mir.Syntax.{w128}
use mir.Val.{SFits}
use Rattle.std.specs.Prelude.{pos}
use Rattle.std.proofs.lemmas.Int.{ints, to_z-of_z}
use Rattle.rank_numbers.proofs.Offsetting.{none_most, most_more, sum_read}
use Rattle.rank_numbers.proofs.offset.total.Goals as goal

pub loop-p-init : goal.loop-p-init
loop-p-init c =
    let fo : SFits w128 (get_or c.args.offset.now 0 (pos 0)) = search rules in
    let fg : SFits w128 (get_or c.args.greatest.now 0 (pos 0)) = search rules in
    none_most c.args.greatest.now c.args.offset.now _ c.requires.some (sum_read c.args.greatest.now c.args.offset.now 0 c.requires.bounded fg fo)

pub loop-p-preserved : goal.loop-p-preserved
loop-p-preserved c =
    let fo : SFits w128 (get_or c.args.offset.now c.loop-p.p (pos 0)) = search rules in
    let fg : SFits w128 (get_or c.args.greatest.now c.loop-p.p (pos 0)) = search rules in
    let fr : SFits w128 c.greater-most.result = search rules in
    let wr = to_z-of_z w128 c.greater-most.result fr in
    let sum = sum_read c.args.greatest.now c.args.offset.now c.loop-p.p c.requires.bounded fg fo in
    most_more c.args.greatest.now c.args.offset.now c.loop-p.p (to_z w128 c.loop-p.most-bits) _ (to_z w128 (of_z w128 c.greater-most.result)) (omega arith) sum
    (omega (arith, ints, wr, c.greater-most.ensures.left)) (omega (arith, ints, wr, c.greater-most.ensures.right))
    (elim c.greater-most.ensures.one [ inl e ↦ inl (wr ∙ e) | inr e ↦ inr (wr ∙ e) ]) c.loop-p.invariant
