-- Outcomes in places that were made before.
use Rattle.std.specs.Prelude.{◌≡◌, ℕ, ◌≤◌, List, [], ◌∷◌, ◌++◌, length}
use Rattle.abs_step.specs.OutcomeLists.{OutcomeOf}

pub record PlacesOf (T : Type 0) : Type 0 where
  pub outcomes : List (OutcomeOf T)
  pub room : ℕ
  pub cells : ℕ

-- each part of the outcome has so many cells
pub record HasCells {T : Type 0} (count : ℕ) (o : OutcomeOf T) : Type 0 where
  pub pre : length o.pre.cells ≡ count
  pub after : length o.after.cells ≡ count
  pub posts : length o.posts.cells ≡ count

abbrev pub AllHaveCells : {T : Type 0} → ℕ → List (OutcomeOf T) → Type 0
AllHaveCells count [] = Unit {0}
AllHaveCells count (o ∷ os) = HasCells count o × AllHaveCells count os

pub record ArePlaces {T : Type 0} (items : List (OutcomeOf T)) (used cells : ℕ) : Type 0 where
  pub within : used ≤ length items
  pub counts : AllHaveCells cells items

abbrev pub pushed : {T : Type 0} → PlacesOf T → OutcomeOf T → PlacesOf T
pushed p o = record { outcomes = p.outcomes ++ o ∷ []; room = p.room; cells = p.cells }
