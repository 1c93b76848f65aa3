-- What the numbers of a graph leave.
use Rattle.std.specs.Prelude.{◌≡◌, ℕ, List, ℤ, ◌≤ℤ◌}
use Rattle.std.specs.List.{Contains}
use Rattle.strong_components.specs.declared.edge.Edge.{Edge}
use Rattle.rank_shape.specs.declared.moves.Moves.{Moves}
use Rattle.rank_numbers.specs.declared.level.Numbered.{Numbered}
use Rattle.rank_numbers.specs.declared.level.Numbered.TheVariants.{Total, Large}
use Rattle.rank_numbers.specs.Forms.{Forms}
use Rattle.rank_numbers.specs.Levels.{LevelOf, levels_of}
use Rattle.rank_numbers.specs.Numbers.{HasNumbers, IsLarge, Ranked, limit}

-- No number is large, and then the forms rank the graph. There are no other numbers.
pub record AllSmall {Form : Type 0} (o : Forms Form) (m : Moves) (keys : List ℕ)
    (edges : List Edge) (form : ℕ → Form) (total : ℤ) : Type 0 where
  pub levels : List LevelOf
  pub numbers : HasNumbers Form o m keys edges form total levels
  pub ranked : Ranked o keys edges form total
  pub within : total ≤ℤ limit
  pub alone : (other : ℕ → Form) (t : ℤ) (made : List LevelOf)
      → HasNumbers Form o m keys edges other t made
      → ((k : ℕ) → Contains keys k → form k ≡ other k) × (total ≡ t) × (levels ≡ made)
  pub none_large : (made : List LevelOf) → IsLarge Form o m keys edges made → ⊥

-- These are the levels up to the first number that is large, and no others are.
pub record FirstLarge {Form : Type 0} (o : Forms Form) (m : Moves) (keys : List ℕ)
    (edges : List Edge) (levels : List LevelOf) : Type 0 where
  pub large : IsLarge Form o m keys edges levels
  pub alone : (made : List LevelOf) → IsLarge Form o m keys edges made → levels ≡ made
  pub not_small : (form : ℕ → Form) (t : ℤ) (made : List LevelOf)
      → HasNumbers Form o m keys edges form t made → ⊥

-- The answer is the total where no number is large, and else the levels up to the first that is.
abbrev pub AreNumbers : {Form : Type 0} → Forms Form → Moves → List ℕ → List Edge → (ℕ → Form)
    → Numbered → Type 0
AreNumbers o m keys edges form (Total t) = AllSmall o m keys edges form t
AreNumbers o m keys edges form (Large levels) =
    FirstLarge o m keys edges (levels_of levels.items)
