use Rattle.std.proofs.Common.{◌≡◌, ◌-◌, ◌^◌, ◌&&◌, not}
use Rattle.memory_plan.specs.Plans.{in_code}
use Rattle.abs_step.specs.Addresses.{any_from}
use Rattle.abs_step.specs.Walks.{is_point_at}
use Rattle.abs_step.proofs.conditions.points_are_in_code.Given as goal

abbrev pub invariant-loop-at : goal.invariant-loop-at
invariant-loop-at g l =
    any_from (λ n. is_point_at g.D.NumDomain.domain l.v n && not (in_code l.plan n)) l.at (2 ^ 20 - l.at) ≡ any_from (λ n. is_point_at g.D.NumDomain.domain l.v n && not (in_code l.plan n)) 0 (2 ^ 20)

abbrev pub decreases-loop-at : goal.decreases-loop-at
decreases-loop-at g l = 2 ^ 20 - l.at
