use Rattle.std.proofs.Common.{arith, ◌≡◌, pos, slice_index_or, to_z, of_z, w64, ◌∙◌, ◌-◌, ◌/◌, ℕ}
use Rattle.std.proofs.lemmas.Int.{ints}
use Rattle.viper_word.proofs.Integers.{le_false}
use Rattle.num_domain.proofs.ThresholdLemmas.{threshold_signed, below_is}
use Rattle.num_domain.proofs.thresholds.last_below.Goals as goal

pub loop-low-preserved : goal.loop-low-preserved
loop-low-preserved c =
    let m : ℕ = c.loop-low.high - (c.loop-low.high - c.loop-low.low) / 2 in
    let h = c.requires.rising in
    let i = c.loop-low.invariant in
    let inside = c.loop-low.invariant.inside in
    let w = threshold_signed c.args.numbers.now m h (omega arith) in
    let n : to_z w64 (of_z w64 c.args.n) ≡ c.args.n = omega (arith, ints) in
    let e = le_false (to_z w64 (of_z w64 (slice_index_or c.args.numbers.now m (pos 0)))) (to_z w64 (of_z w64 c.args.n)) c.if-numbers-middle.false in
    record {
      ordered = omega arith;
      inside = omega arith;
      reached = i.reached;
      after = λ k a b. let r = h.rising m k (omega arith) b in omega (arith, ints);
    }

pub returns : goal.returns
returns c =
    let h = c.requires.rising in
    let i = c.loop-low.invariant in
    let inside = c.loop-low.invariant.inside in
    let ordered = c.loop-low.invariant.ordered in
    let reached = c.loop-low.invariant.reached in
    let l = c.loop-low-test.false in
    let w = threshold_signed c.args.numbers.now c.loop-low.low h (omega arith) in
    let e = below_is c.args.numbers.now c.args.n c.loop-low.low h (omega arith) (omega (arith, ints)) (λ k a b. let g = i.after k (omega arith) b in omega (arith, ints)) in
    let f : to_z w64 (of_z w64 (slice_index_or c.args.numbers.now c.loop-low.low (pos 0))) ≡ slice_index_or c.args.numbers.now c.loop-low.low (pos 0) = omega (arith, ints) in
    f ∙ e
