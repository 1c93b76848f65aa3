-- The room of a step as contracts see it.
use Rattle.std.specs.Prelude.{◌≡◌, ℕ, List}
use Rattle.abs_step.specs.OutcomeLists.{OutcomeOf}
use Rattle.abs_step.specs.Places.{PlacesOf}
use Rattle.abs_step.specs.declared.places.TheConstants.{MOST_OUTCOMES}

-- the outcomes that it holds, over so many cells
pub record ScratchOf (T : Type 0) : Type 0 where
  pub outcomes : List (OutcomeOf T)
  pub cells : ℕ

-- all its parts have as many cells, and it has room for each outcome of a step
pub record IsScratch {T : Type 0} (places : PlacesOf T) (side draft spare : ℕ) : Type 0 where
  pub side_cells : side ≡ places.cells
  pub draft_cells : draft ≡ places.cells
  pub spare_cells : spare ≡ places.cells
  pub room : places.room ≡ MOST_OUTCOMES
