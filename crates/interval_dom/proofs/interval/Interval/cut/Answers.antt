use Rattle.std.proofs.Common.{arith, to_z, of_z, w64}
use Rattle.std.proofs.lemmas.Int.{ints, clamps}
use Rattle.viper_word.proofs.Integers.{le_false}
use Rattle.interval_dom.specs.evidence.IntervalOrder.{cut_is, cut_none}
use Rattle.interval_dom.proofs.interval.Interval.cut.Goals as goal

pub returns-then-lo-hi : goal.returns-then-lo-hi
returns-then-lo-hi c = cut_is _ c.args.lo c.args.hi (omega (arith, ints, clamps)) (omega (arith, ints, clamps))

pub returns-else-lo-hi : goal.returns-else-lo-hi
returns-else-lo-hi c =
    let h = le_false (to_z w64 (of_z w64 c.max-lo.result)) (to_z w64 (of_z w64 c.min-hi.result)) c.if-lo-hi.false in
    cut_none c.args.lo c.args.hi (omega (arith, ints, clamps))
