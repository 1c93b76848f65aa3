-- One more part's sum is looked at.
use Rattle.std.proofs.Common.{ℕ, get_or, inl, inr, arith, rules, ◌∙◌, to_z, of_z}
use mir.Syntax.{w128}
use mir.Val.{SFits}
use Rattle.std.specs.Prelude.{pos}
use Rattle.std.proofs.lemmas.Int.{ints, to_z-of_z}
use Rattle.rank_numbers.proofs.Offsetting.{best_more, sum_read}
use Rattle.rank_numbers.proofs.offset.best.Goals as goal

pub loop-q-preserved : goal.loop-q-preserved
loop-q-preserved c =
    let q : ℕ = get_or c.args.leads.now c.loop-q.q-index 0 in
    let fo : SFits w128 (get_or c.args.offset.now (get_or c.args.leads.now c.loop-q.q-index 0) (pos 0)) = search rules in
    let fg : SFits w128 (get_or c.args.greatest.now (get_or c.args.leads.now c.loop-q.q-index 0) (pos 0)) = search rules in
    let fr : SFits w128 c.greater-best.result = search rules in
    let wr = to_z-of_z w128 c.greater-best.result fr in
    let sum = sum_read c.args.greatest.now c.args.offset.now q c.requires.bounded fg fo in
    best_more c.args.leads.now c.loop-q.q-index c.args.greatest.now c.args.offset.now (to_z w128 c.loop-q.best-bits) _ (to_z w128 (of_z w128 c.greater-best.result))
    (omega arith) sum (omega (arith, ints, wr, c.greater-best.ensures.left)) (omega (arith, ints, wr, c.greater-best.ensures.right))
    (elim c.greater-best.ensures.one [ inl e ↦ inl (wr ∙ e) | inr e ↦ inr (wr ∙ e) ]) c.loop-q.invariant
