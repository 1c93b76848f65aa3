use Rattle.std.proofs.Common.{arith, ◌∙◌}
use Rattle.std.proofs.Math.Path.{ap₂}
use Rattle.std.proofs.lemmas.Int.{ints}
use Rattle.interval_dom.specs.Intervals.{cut}
use Rattle.interval_dom.proofs.interval.IntervalNumDomain.sub.Goals as goal

pub returns : goal.returns
returns c =
    let a = c.args.self.now.ends in
    let b = c.args.other.now.ends in
    c.cut.ensures ∙ ap₂ cut (omega (arith, ints)) (omega (arith, ints))
