-- Where the keys of a graph stand among its parts.
use Rattle.std.specs.Prelude.{◌≡◌, ℕ, ◌<◌, List, [], length, map, slice_index, slice_index_or}
use Rattle.std.specs.List.{All, Contains}
use Rattle.std.specs.declared.alloc.Global.{Global}
use Rattle.std.specs.declared.vec.Vec.{Vec}
use Rattle.strong_components.specs.declared.edge.Edge.{Edge}
use Rattle.strong_components.specs.Components.{part_at}
use Rattle.rank_shape.specs.Nests.{inside}

-- both ends of each edge are keys
abbrev pub EndsIn : List ℕ → List Edge → Type 0
EndsIn keys edges = (e : Edge) → Contains edges e → Contains keys e.from × Contains keys e.to

-- no key stands in two parts
abbrev pub Apart : List (List ℕ) → Type 0
Apart parts = (p q u : ℕ) → p < length parts → q < length parts → Contains (part_at parts p) u
    → Contains (part_at parts q) u → p ≡ q

-- some part has the key
abbrev pub InSome : List (List ℕ) → ℕ → Type 0
InSome parts u = (p : ℕ) × (p < length parts) × Contains (part_at parts p) u

-- each part's keys are below `n`
abbrev pub PartsBelow : ℕ → List (List ℕ) → Type 0
PartsBelow n parts = (p : ℕ) → p < length parts → All (λ k. k < n) (part_at parts p)

-- each key's place among the parts
abbrev pub PlacesOf : List (List ℕ) → List ℕ → Type 0
PlacesOf parts places = (p u : ℕ) → p < length parts → Contains (part_at parts p) u
    → slice_index places u ≡ p

-- the lists of edges
abbrev pub edge_lists : List (Vec Edge Global) → List (List Edge)
edge_lists lists = map (λ v. v.items) lists

abbrev pub edges_at : List (List Edge) → ℕ → List Edge
edges_at lists p = slice_index_or lists p []

-- the edges inside each part
pub record AreInside (parts : List (List ℕ)) (edges : List Edge)
    (lists : List (List Edge)) : Type 0 where
  pub len : length lists ≡ length parts
  pub each : (p : ℕ) → p < length parts → edges_at lists p ≡ inside (part_at parts p) edges
