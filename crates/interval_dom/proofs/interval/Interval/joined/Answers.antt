use Rattle.std.proofs.Common.{arith}
use Rattle.std.proofs.lemmas.Int.{ints, clamps}
use Rattle.interval_dom.specs.Intervals.{join}
use Rattle.interval_dom.specs.evidence.IntervalOrder.{same_ends}
use Rattle.interval_dom.proofs.interval.Interval.joined.Goals as goal

pub invariant_of-result : goal.invariant_of-result
invariant_of-result c =
    let a = c.args.self.now.ends in
    let b = c.args.other.now.ends in
    record { ends = record { low = omega (arith, ints, clamps); ordered = omega (arith, ints, clamps); high = omega (arith, ints, clamps) } }

pub returns : goal.returns
returns c =
    let a = c.args.self.now.ends in
    let b = c.args.other.now.ends in
    same_ends _ (join c.args.self.now c.args.other.now) (omega (arith, ints, clamps)) (omega (arith, ints, clamps))
