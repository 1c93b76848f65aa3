-- All laws of the abstract step together.
use Rattle.std.specs.Prelude.{ℕ, List}
use Rattle.num_domain.specs.Domain.{Domain}
use Rattle.num_domain.specs.Laws.{DomainLaws}
use Rattle.memory_plan.specs.Plans.{PlanLines}
use Rattle.abs_step.specs.StepLaws.{StepLaws}
use Rattle.abs_step.proofs.FaultLaws.{fault_fails}
use Rattle.abs_step.proofs.OutcomesGrow.{outcomes_grow}
use Rattle.abs_step.proofs.ConditionLaws.{keeps_falls}
use Rattle.abs_step.proofs.StepTheorem.{step_is_covered}
use Rattle.abs_step.proofs.StartMet.{start_met}

module _ {T : Type 0} (d : Domain T) (laws : DomainLaws d) where
  pub step_laws : (plan : PlanLines) (cells : List ℕ) → StepLaws d plan cells
  step_laws plan cells = record {
    cover = step_is_covered d laws plan cells;
    start = start_met d laws plan cells;
    outcomes_grow = outcomes_grow d laws plan cells;
    keeps_falls = keeps_falls d laws plan cells;
    fault_fails = fault_fails d plan cells;
  }
