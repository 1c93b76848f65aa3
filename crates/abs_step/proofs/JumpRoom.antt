-- A jump whose targets are lawful has room for them.
use Rattle.std.specs.Prelude.{◌≡◌, ◌≤◌, ◌-◌, ◌^◌, pos, nat_le, true, ◌&&◌, not, length, Some}
use Rattle.std.proofs.lemmas.Bool.{and_parts, leb-true}
use Rattle.num_domain.specs.Domain.{Domain}
use Rattle.num_domain.specs.Ends.{ends}
use Rattle.memory_plan.specs.Plans.{PlanLines, in_code}
use Rattle.abs_step.specs.Addresses.{any_from, passing}
use Rattle.abs_step.specs.Results.{ends_within}
use Rattle.abs_step.specs.Conditions.{targets_lawful}
use Rattle.abs_step.specs.Walks.{is_point_at}
use Rattle.abs_step.specs.declared.outcome.TheConstants.{MOST_TARGETS}

pub few_targets : {T : Type 0} (d : Domain T) (plan : PlanLines) (v : T) → targets_lawful d plan (Some v) ≡ true → length (passing (is_point_at d v) 0 (2 ^ 20)) ≤ MOST_TARGETS
unfolding targets_lawful
few_targets d plan v h =
    let p = and_parts (ends_within (ends d v) (pos 0) (pos 0) (pos (2 ^ 20 - 1))) (nat_le (length (passing (is_point_at d v) 0 (2 ^ 20))) MOST_TARGETS && not (any_from (λ n. is_point_at d v n && not (in_code plan n)) 0 (2 ^ 20))) h in
    let q = and_parts (nat_le (length (passing (is_point_at d v) 0 (2 ^ 20))) MOST_TARGETS) (not (any_from (λ n. is_point_at d v n && not (in_code plan n)) 0 (2 ^ 20))) p.1 in
    leb-true (length (passing (is_point_at d v) 0 (2 ^ 20))) MOST_TARGETS q.0
