-- The failing condition as code finds it, step by step, of which no public clause speaks.
use Rattle.std.specs.Prelude.{ℕ, List, Option, Some, None}
use Rattle.num_domain.specs.Domain.{Domain}
use Rattle.viper_word.specs.Options.{bind}
use Rattle.memory_plan.specs.Plans.{PlanLines}
use Rattle.flag_relation.specs.Facts.{FactOf}
use Rattle.viper_decode.specs.declared.instructions.Instruction.{Instruction}
use Rattle.abs_step.specs.Conditions.{side_keeps, unless}
use Rattle.abs_step.specs.OutcomeLists.{live}
use Rattle.abs_step.specs.Outcomes.{taken_side}
use Rattle.abs_step.specs.declared.outcome.Cond.{Cond}
use Rattle.abs_step.specs.declared.outcome.Cond.TheVariants.{C3, C4, C5, C6, C7}

module _ {T : Type 0} (d : Domain T) where
  -- the first of C3 to C7 that fails of the taken side
  unfoldable pub side_fault : PlanLines → List ℕ → ℕ → Instruction → FactOf T → Option Cond
  side_fault plan cells at instruction f =
      unless (side_keeps d plan cells at instruction C3 f) C3
      (unless (side_keeps d plan cells at instruction C4 f) C4
      (unless (side_keeps d plan cells at instruction C5 f) C5
      (unless (side_keeps d plan cells at instruction C6 f) C6
      (unless (side_keeps d plan cells at instruction C7 f) C7 None))))

  -- none where there is no side
  abbrev pub fault_of : PlanLines → List ℕ → ℕ → Instruction → Option (FactOf T) → Option Cond
  fault_of plan cells at instruction None = None
  fault_of plan cells at instruction (Some f) = side_fault plan cells at instruction f

  -- the taken side of a fact that isn't empty
  abbrev pub live_side : Instruction → FactOf T → Option (FactOf T)
  live_side instruction f = bind (live d f) (λ g. taken_side d instruction g)
