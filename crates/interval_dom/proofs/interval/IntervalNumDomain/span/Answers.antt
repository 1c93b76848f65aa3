use Rattle.std.proofs.Common.{arith}
use Rattle.std.proofs.lemmas.Int.{ints}
use Rattle.interval_dom.proofs.IntervalCode.{span_is}
use Rattle.interval_dom.proofs.interval.IntervalNumDomain.span.Goals as goal

pub returns : goal.returns
returns c = span_is _ c.args.lo c.args.hi (omega (arith, ints)) (omega (arith, ints))
