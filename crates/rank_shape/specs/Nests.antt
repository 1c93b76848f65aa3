-- The nest of a graph: its components, of each with an edge the first candidate that fits, and the
-- nest of what remains.
use Rattle.std.specs.Prelude.{◌≡◌, ℕ, ◌<◌, ◌⊎◌, Bool, true, false, not, ◌&&◌, nat_eq, List, length}
use Rattle.std.specs.List.{All, Any, filter, list_any}
use Rattle.strong_components.specs.declared.edge.Edge.{Edge}
use Rattle.strong_components.specs.Components.{IsComponents, part_at}
use Rattle.rank_shape.specs.declared.moves.Moves.{Moves}
use Rattle.rank_shape.specs.Moves.{may_grow, surely_falls, Fits}

-- is the key one of the list?
abbrev pub has : List ℕ → ℕ → Bool
has keys u = list_any (λ k. nat_eq k u) keys

-- the edges from a part into itself
abbrev pub inside : List ℕ → List Edge → List Edge
inside part edges = filter (λ e. has part e.from && has part e.to) edges

-- what remains where the edges are taken out on which a candidate surely falls
abbrev pub remaining : Moves → ℕ → List Edge → List Edge
remaining m c edges = filter (λ e. not (surely_falls m c e)) edges

-- the candidate is the first that fits
pub record IsFirst (m : Moves) (edges : List Edge) (c : ℕ) : Type 0 where
  pub fits : Fits m edges c
  pub before : (b : ℕ) → b < c → Any (λ e. may_grow m b e ≡ true) edges
      ⊎ All (λ e. surely_falls m b e ≡ false) edges

-- no candidate fits
abbrev pub NoneFits : Moves → List Edge → Type 0
NoneFits m edges = (c : ℕ) → c < m.count → Any (λ e. may_grow m c e ≡ true) edges
    ⊎ All (λ e. surely_falls m c e ≡ false) edges

mutual
  -- Each component has its nest.
  pub data HasNest : Moves → List ℕ → List Edge → Type 0 where
    parts_have : {m : Moves} {keys : List ℕ} {edges : List Edge} (parts : List (List ℕ))
        → IsComponents edges keys parts
        → ((p : ℕ) → p < length parts
        → HasPart m (part_at parts p) (inside (part_at parts p) edges))
        → HasNest m keys edges

  -- A component has no edge, or a candidate fits first, and what then remains has a nest.
  pub data HasPart : Moves → List ℕ → List Edge → Type 0 where
    bare : {m : Moves} {part : List ℕ} {edges : List Edge} → length edges ≡ 0 → HasPart m part edges
    ranked : {m : Moves} {part : List ℕ} {edges : List Edge} (c : ℕ) → IsFirst m edges c
        → HasNest m part (remaining m c edges) → HasPart m part edges

mutual
  -- The first component with no nest is stuck, or has the first stuck one within.
  pub data IsFirstStuck : Moves → List ℕ → List Edge → List Edge → Type 0 where
    in_part : {m : Moves} {keys : List ℕ} {edges stuck : List Edge}
        (parts : List (List ℕ)) (p : ℕ) → IsComponents edges keys parts → p < length parts
        → ((q : ℕ) → q < p → HasPart m (part_at parts q) (inside (part_at parts q) edges))
        → IsStuckIn m (part_at parts p) (inside (part_at parts p) edges) stuck
        → IsFirstStuck m keys edges stuck

  -- no candidate fits the component, or one does and what then remains has the first stuck one
  pub data IsStuckIn : Moves → List ℕ → List Edge → List Edge → Type 0 where
    unfit : {m : Moves} {part : List ℕ} {edges : List Edge} → 0 < length edges
        → NoneFits m edges → IsStuckIn m part edges edges
    deeper : {m : Moves} {part : List ℕ} {edges stuck : List Edge} (c : ℕ) → IsFirst m edges c
        → IsFirstStuck m part (remaining m c edges) stuck → IsStuckIn m part edges stuck
