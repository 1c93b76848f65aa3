use Rattle.std.proofs.Common.{◌-◌}
use Rattle.num_domain.specs.Rounding.{IsBetween_below}
use Rattle.num_domain.proofs.thresholds.last_below.Given as goal

abbrev pub invariant-loop-low : goal.invariant-loop-low
invariant-loop-low l = IsBetween_below l.numbers l.n l.low l.high

abbrev pub decreases-loop-low : goal.decreases-loop-low
decreases-loop-low l = l.high - l.low
