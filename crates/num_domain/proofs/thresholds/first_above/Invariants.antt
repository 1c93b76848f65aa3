use Rattle.std.proofs.Common.{◌-◌}
use Rattle.num_domain.specs.Rounding.{IsBetween_above}
use Rattle.num_domain.proofs.thresholds.first_above.Given as goal

abbrev pub invariant-loop-low : goal.invariant-loop-low
invariant-loop-low l = IsBetween_above l.numbers l.n l.low l.high

abbrev pub decreases-loop-low : goal.decreases-loop-low
decreases-loop-low l = l.high - l.low
