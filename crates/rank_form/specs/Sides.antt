-- What an outcome knows before its step, of the fact that it comes of.
use Rattle.std.specs.Prelude.{ℕ, List}
use Rattle.std.specs.List.{AllByRecursion}
use Rattle.num_domain.specs.Domain.{Domain}
use Rattle.memory_plan.specs.Plans.{PlanLines}
use Rattle.flag_relation.specs.Facts.{FactOf}
use Rattle.abs_step.specs.Conditions.{outcomes}
use Rattle.rank_form.specs.Laws.{IsSideOf}

module _ {T : Type 0} (d : Domain T) where
  -- each outcome of a fact knows before its step one of the fact's sides
  abbrev pub SideLaws : Type 0
  SideLaws = (plan : PlanLines) (cells : List ℕ) (at : ℕ) (x : FactOf T)
      → AllByRecursion (λ o. IsSideOf d x o.pre) (outcomes d plan cells at x)
