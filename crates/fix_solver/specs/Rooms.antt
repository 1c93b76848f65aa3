-- Room for the outcomes of facts over so many cells.
use Rattle.std.specs.Prelude.{◌≡◌, ℕ, ℤ, ◌≤◌, List, length, Option, IsSomeAnd}
use Rattle.std.specs.List.{AllByRecursion}
use Rattle.num_domain.specs.Domain.{Domain}
use Rattle.flag_relation.specs.Facts.{FactOf}
use Rattle.flag_relation.specs.declared.fact.TheConstants.{MOST_CELLS}
use Rattle.abs_step.specs.OutcomeLists.{OutcomeOf}
use Rattle.fix_solver.specs.Solutions.{arriving}
use Rattle.fix_solver.specs.declared.plan_rules.Room.{Room}

-- the fact after the outcome has so many cells
abbrev pub HasSoMany : {T : Type 0} → ℕ → OutcomeOf T → Type 0
HasSoMany n o = length o.after.cells ≡ n

abbrev pub AllHave : {T : Type 0} → ℕ → List (OutcomeOf T) → Type 0
AllHave n os = AllByRecursion (HasSoMany n) os

-- the target and what arrives there are those of the outcome
abbrev pub Arrives : {T : Type 0} → Domain T → List ℤ → ℕ → Option (OutcomeOf T) → ℕ → FactOf T
    → Type 0
Arrives d t at o target f = IsSomeAnd o (λ o. (target ≡ o.target) × (f ≡ arriving d t at o))

-- all parts have so many cells
pub record HasRoom {T : Type 0} (n : ℕ) (r : Room T) : Type 0 where
  pub few : n ≤ MOST_CELLS
  pub outs : r.outs.cells ≡ n
  pub hand : length r.hand.fact.cells ≡ n
  pub spare : r.hand.spare ≡ n
  pub all : AllHave n r.outs.outcomes
