use Rattle.std.proofs.Common.{◌≡◌, ◌-◌}
use Rattle.flag_relation.specs.Facts.{values}
use Rattle.abs_step.specs.Addresses.{any_from}
use Rattle.abs_step.specs.Walks.{is_untracked}
use Rattle.abs_step.proofs.operands.may_meet_untracked.Given as goal

abbrev pub invariant-loop-at : goal.invariant-loop-at
invariant-loop-at g l =
    any_from (is_untracked g.D.NumDomain.domain l.cells l.place (values l.fact)) l.at (l.to - l.at) ≡ any_from (is_untracked g.D.NumDomain.domain l.cells l.place (values l.fact)) l.fn.from (l.to - l.fn.from)

abbrev pub decreases-loop-at : goal.decreases-loop-at
decreases-loop-at g l = l.to - l.at
