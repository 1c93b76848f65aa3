-- What holds of the abstract step over any numeric domain.
use Rattle.std.specs.Prelude.{◌≡◌, ℕ, ◌<◌, true, false, List, [], ◌∷◌, Some, None}
use Rattle.viper_word.specs.Machine.{State, next}
use Rattle.memory_plan.specs.Plans.{PlanLines, IsStart}
use Rattle.memory_plan.specs.Runs.{IsFair, IsTidy}
use Rattle.memory_plan.specs.WellFormed.{IsWellFormed}
use Rattle.num_domain.specs.Domain.{Domain}
use Rattle.flag_relation.specs.Facts.{FactOf}
use Rattle.flag_relation.specs.Order.{BelowFact}
use Rattle.abs_step.specs.declared.outcome.Cond.{Cond}
use Rattle.abs_step.specs.Conditions.{keeps, fault, outcomes}
use Rattle.abs_step.specs.Laws.{AllBelow}
use Rattle.abs_step.specs.States.{MeetsFact, IsKept, SomeOutcome}
use Rattle.abs_step.specs.Starts.{start_fact}

-- each is above the one before
abbrev pub Ascend : List ℕ → Type 0
Ascend [] = Unit {0}
Ascend (c ∷ []) = Unit {0}
Ascend (c ∷ c' ∷ cs) = (c < c') × Ascend (c' ∷ cs)

module _ {T : Type 0} (d : Domain T) (plan : PlanLines) (cells : List ℕ) where
  -- a step from s, where the fact f is met: it touches only what the plan declares, the state after
  -- it is kept, and one of the outcomes is its own
  pub record StepCovered (f : FactOf T) (s : State) (answer : ℕ) : Type 0 where
    pub tidy : IsTidy plan s answer
    pub kept : IsKept plan (next plan.profile s answer)
    pub outcome : SomeOutcome d plan cells s (next plan.profile s answer)
        (outcomes d plan cells s.p f)

  pub record StepLaws : Type 0 where
    -- a state that meets the fact at its address, where no condition fails, has a covered step
    pub cover : IsWellFormed plan → Ascend cells → (f : FactOf T) (s : State) (answer : ℕ)
        → MeetsFact d plan cells f s → IsFair plan s answer → fault d plan cells s.p f ≡ None
        → StepCovered f s answer
    -- a start state meets the start fact of its line
    pub start : IsWellFormed plan → (s : State) (h : IsStart plan s)
        → MeetsFact d plan cells (start_fact d plan cells h.line) s
    -- of larger facts each outcome of the smaller has a larger one with its target
    pub outcomes_grow : (at : ℕ) (f g : FactOf T) → BelowFact d f g
        → AllBelow d (outcomes d plan cells at f) (outcomes d plan cells at g)
    -- a condition that holds of a fact holds of each smaller one
    pub keeps_falls : (at : ℕ) (c : Cond) (f g : FactOf T) → BelowFact d f g
        → keeps d plan cells at c g ≡ true → keeps d plan cells at c f ≡ true
    -- the condition that is named fails
    pub fault_fails : (at : ℕ) (f : FactOf T) (c : Cond) → fault d plan cells at f ≡ Some c
        → keeps d plan cells at c f ≡ false
