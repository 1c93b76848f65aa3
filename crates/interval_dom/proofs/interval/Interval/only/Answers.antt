use Rattle.std.proofs.Common.{arith}
use Rattle.std.proofs.lemmas.Int.{ints}
use Rattle.interval_dom.specs.evidence.IntervalOrder.{constant_is}
use Rattle.interval_dom.proofs.interval.Interval.only.Goals as goal

pub returns : goal.returns
returns c = constant_is _ c.args.n (omega (arith, ints)) (omega (arith, ints))
