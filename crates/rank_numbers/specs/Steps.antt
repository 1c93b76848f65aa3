-- What is given for the graphs of a nest, and what their numbers leave.
use Rattle.std.specs.Prelude.{◌≡◌, ℕ, ◌<◌, ◌≤◌, ◌++◌, List, Option, MatchOption, length, ℤ}
use Rattle.std.specs.List.{All, AllPairs}
use Rattle.std.specs.declared.alloc.Global.{Global}
use Rattle.std.specs.declared.vec.Vec.{Vec}
use Rattle.strong_components.specs.declared.edge.Edge.{Edge}
use Rattle.strong_components.specs.declared.search.Mark.{Mark}
use Rattle.strong_components.specs.Components.{part_at}
use Rattle.strong_components.specs.Numbers.{Fresh}
use Rattle.strong_components.specs.Steps.{BySource}
use Rattle.rank_shape.specs.declared.moves.Moves.{Moves}
use Rattle.rank_shape.specs.Nests.{inside}
use Rattle.rank_shape.specs.Places.{EndsIn}
use Rattle.rank_shape.specs.Stuck.{Part}
use Rattle.rank_numbers.specs.declared.level.Level.{Level}
use Rattle.rank_numbers.specs.Forms.{Forms, MovesOf}
use Rattle.rank_numbers.specs.Levels.{LevelOf, all_levels, levels_of}
use Rattle.rank_numbers.specs.Numbers.{HasNumbers, PartNumbers, IsLarge, IsLargePart, IsGreatest, levels_at}
use Rattle.rank_numbers.specs.Offsets.{number_at}
use Rattle.rank_numbers.specs.Rows.{form_of, IntoKeys, OthersStay, Became, Passes}

-- what is the same for all graphs of a nest
pub record IsSetting {Form : Type 0} (o : Forms Form) (m : Moves)
    (into : List (Vec Edge Global)) : Type 0 where
  pub known : length into ≤ o.keys
  pub into_keys : IntoKeys o.edges into
  pub candidates : m.count ≤ o.candidates
  pub moves : MovesOf o m o.edges

-- a graph of some keys, along edges of the whole graph
pub record IsWithin {Form : Type 0} (o : Forms Form) (n : ℕ) (keys : List ℕ)
    (edges : List Edge) : Type 0 where
  pub some : 0 < length keys
  pub ascend : AllPairs (λ a b. a < b) keys
  pub below : All (λ k. k < n) keys
  pub by_source : BySource edges
  pub ends : EndsIn keys edges
  pub within : Part edges o.edges

-- a place for each key, and no key is marked
pub record HasPlaces {Form : Type 0} (n : ℕ) (marks : List Mark) (places : List ℕ)
    (forms : List Form) : Type 0 where
  pub marks_len : length marks ≡ n
  pub places_len : length places ≡ n
  pub forms_len : length forms ≡ n
  pub fresh : Fresh marks

-- the numbers of a graph: none where one is large
pub record GraphDone {Form : Type 0} (o : Forms Form) (m : Moves) (keys : List ℕ)
    (edges : List Edge) (before after : List Form) (levels levels' : List Level)
    (total : Option ℤ) : Type 0 where
  pub new : List LevelOf
  pub made : levels_of levels' ≡ levels_of levels ++ new
  pub numbers : MatchOption total (IsLarge Form o m keys edges new)
      (λ t. HasNumbers Form o m keys edges (form_of o after) t new)
  pub others : OthersStay o keys before after

-- the numbers of a part
pub record PartDone {Form : Type 0} (o : Forms Form) (m : Moves) (part : List ℕ)
    (edges : List Edge) (before after : List Form) (levels levels' : List Level)
    (greatest : Option ℤ) : Type 0 where
  pub new : List LevelOf
  pub made : levels_of levels' ≡ levels_of levels ++ new
  pub numbers : MatchOption greatest (IsLargePart Form o m part edges new)
      (λ g. PartNumbers Form o m part edges (form_of o after) g new)
  pub others : OthersStay o part before after

-- the numbers of the first `n` parts of a graph
pub record PartsDone {Form : Type 0} (o : Forms Form) (m : Moves) (edges : List Edge)
    (parts : List (List ℕ)) (forms : List Form) (greatest : List ℤ)
    (levels levels' : List Level) (n : ℕ) : Type 0 where
  pub made : List (List LevelOf)
  pub made_len : length made ≡ n
  pub greatest_len : length greatest ≡ n
  pub joined : levels_of levels' ≡ levels_of levels ++ all_levels made
  pub each : (p : ℕ) → p < n → PartNumbers Form o m (part_at parts p)
      (inside (part_at parts p) edges) (form_of o forms) (number_at greatest p) (levels_at made p)

-- the forms of a part with a level on them, and their greatest value
pub record IsRaised {Form : Type 0} (o : Forms Form) (f : Form → Form) (part : List ℕ)
    (before after : List Form) (greatest : ℤ) : Type 0 where
  pub became : Became o f part before after
  pub greatest_is : IsGreatest o part (form_of o after) greatest

-- the forms of all parts with their offsets
abbrev pub Shifted : {Form : Type 0} → Forms Form → List (List ℕ) → List ℤ → List Form
    → List Form → Type 0
Shifted o parts offset before after = (p : ℕ) → p < length parts
    → Became o (λ f. o.shift f (number_at offset p)) (part_at parts p) before after

-- a form with its offset passes a limit
abbrev pub ShiftPasses : {Form : Type 0} → Forms Form → List (List ℕ) → List ℤ → List Form
    → Type 0
ShiftPasses o parts offset before = (p : ℕ) × (p < length parts)
    × Passes o (λ f. o.shift f (number_at offset p)) (part_at parts p) before
