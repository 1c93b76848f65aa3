use Rattle.std.proofs.Common.{◌≡◌, ◌≤◌, ◌-◌, ◌+◌, ◌^◌, length}
use Rattle.abs_step.specs.Addresses.{passing}
use Rattle.abs_step.specs.Walks.{is_point_at}
use Rattle.abs_step.specs.declared.outcome.TheConstants.{MOST_TARGETS}
use Rattle.abs_step.proofs.conditions.has_few_points.Given as goal

abbrev pub invariant-loop-at : goal.invariant-loop-at
invariant-loop-at g l = record {
  counted : length (passing (is_point_at g.D.NumDomain.domain l.v) 0 (2 ^ 20)) ≡ l.count + length (passing (is_point_at g.D.NumDomain.domain l.v) l.at (2 ^ 20 - l.at));
  few : l.count ≤ MOST_TARGETS;
}

abbrev pub decreases-loop-at : goal.decreases-loop-at
decreases-loop-at g l = 2 ^ 20 - l.at
