-- The strongly connected components of a graph.
use Rattle.std.specs.Prelude.{◌≡◌, ℕ, ◌<◌, ◌↔◌, List, [], length, slice_index, slice_index_or}
use Rattle.std.specs.List.{All, AllPairs, Contains}
use Rattle.strong_components.specs.declared.edge.Edge.{Edge}
use Rattle.strong_components.specs.Paths.{Path, Mutual}

-- the keys of a part
abbrev pub part_at : List (List ℕ) → ℕ → List ℕ
part_at parts p = slice_index_or parts p []

-- The parts are the components of the keys: two keys stand in one part exactly where each reaches
-- the other.
-- They stand in order of their least key, and each part's keys ascend.
pub record IsComponents (edges : List Edge) (keys : List ℕ) (parts : List (List ℕ)) : Type 0 where
  pub some : (p : ℕ) → p < length parts → 0 < length (part_at parts p)
  pub ascend : (p : ℕ) → p < length parts → AllPairs (λ u v. u < v) (part_at parts p)
  pub firsts : (p q : ℕ) → p < q → q < length parts
      → slice_index (part_at parts p) 0 < slice_index (part_at parts q) 0
  pub members : (p : ℕ) → p < length parts → All (λ u. Contains keys u) (part_at parts p)
  pub covered : All (λ u. (p : ℕ) × (p < length parts) × Contains (part_at parts p) u) keys
  pub together : (p q u v : ℕ) → p < length parts → q < length parts
      → Contains (part_at parts p) u → Contains (part_at parts q) v → (p ≡ q) ↔ Mutual edges u v

-- The places of all parts in an order in which no path leads from a part to a later one.
pub record IsOrder (edges : List Edge) (parts : List (List ℕ)) (order : List ℕ) : Type 0 where
  pub within : All (λ p. p < length parts) order
  pub each : (p : ℕ) → p < length parts → Contains order p
  pub no_later : AllPairs (λ p q. (u v : ℕ) → Contains (part_at parts p) u
      → Contains (part_at parts q) v → Path edges u v → ⊥) order

-- there is one list of components
abbrev pub HasOne : List Edge → List ℕ → Type 0
HasOne edges keys = (parts others : List (List ℕ)) → IsComponents edges keys parts
    → IsComponents edges keys others → parts ≡ others
