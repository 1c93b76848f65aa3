use Rattle.std.proofs.Common.{◌≡◌, ◌≤◌, ◌-◌}
use Rattle.abs_step.specs.Walks.{first_from, is_moved_point}
use Rattle.abs_step.proofs.points.first_point.Given as goal

abbrev pub invariant-loop-at : goal.invariant-loop-at
invariant-loop-at g l = record {
  same : first_from (is_moved_point g.D.NumDomain.domain l.v l.base) l.at (l.to - l.at) ≡ first_from (is_moved_point g.D.NumDomain.domain l.v l.base) l.fn.from (l.to - l.fn.from);
  up : l.fn.from ≤ l.at;
}

abbrev pub decreases-loop-at : goal.decreases-loop-at
decreases-loop-at g l = l.to - l.at
