-- Sets of edges that are stuck, and sets that can be ranked.
use Rattle.std.specs.Prelude.{◌≡◌, ℕ, ◌<◌, ◌↔◌, ◌⊎◌, true, false, List, Option, Some, None, length}
use Rattle.std.specs.List.{All, Any, Contains}
use Rattle.strong_components.specs.declared.edge.Edge.{Edge}
use Rattle.strong_components.specs.Paths.{Path}
use Rattle.rank_shape.specs.declared.moves.Moves.{Moves}
use Rattle.rank_shape.specs.Moves.{may_grow, surely_falls, Fits}

-- every edge of the first list is one of the second
abbrev pub Part : List Edge → List Edge → Type 0
Part xs ys = (e : Edge) → Contains xs e → Contains ys e

-- from the end of each edge a path along the edges leads to the beginning of each
abbrev pub StronglyConnected : List Edge → Type 0
StronglyConnected edges = (e f : Edge) → Contains edges e → Contains edges f
    → Path edges e.to f.from

-- Not empty, strongly connected, and each candidate may grow on one of the edges or surely falls
-- on none.
pub record Stuck (m : Moves) (edges : List Edge) : Type 0 where
  pub some : 0 < length edges
  pub connected : StronglyConnected edges
  pub no_fit : (c : ℕ) → c < m.count → Any (λ e. may_grow m c e ≡ true) edges
      ⊎ All (λ e. surely_falls m c e ≡ false) edges

-- not empty, and with an edge just those edges that it reaches and that reach it
pub record IsComponent (edges : List Edge) (part : List Edge) : Type 0 where
  pub some : 0 < length part
  pub within : Part part edges
  pub each : (e f : Edge) → Contains part e → Contains edges f
      → Contains part f ↔ (Path edges e.to f.from × Path edges f.to e.from)

-- A set of edges can be ranked by a choice where it has no cycle, or where a candidate fits one of
-- its components and what remains, when that component's edges on which it surely falls are taken
-- out, can be ranked by a choice.
pub data Rankable : Moves → List Edge → Type 0 where
  no_cycle : {m : Moves} {edges : List Edge} → ((e : Edge) → Contains edges e
      → Path edges e.to e.from → ⊥) → Rankable m edges
  choose : {m : Moves} {edges : List Edge} (part rest : List Edge) (c : ℕ)
      → IsComponent edges part → Fits m part c
      → ((e : Edge) → Contains rest e ↔ (Contains edges e × (Contains part e
      → surely_falls m c e ≡ false)))
      → Rankable m rest → Rankable m edges

-- What is said of a graph: it can be ranked by a choice, or these of its edges are stuck, and
-- neither they nor all can.
pub data IsRanked : Moves → List Edge → Option (List Edge) → Type 0 where
  can : {m : Moves} {edges : List Edge} → Rankable m edges → ((stuck : List Edge)
      → Stuck m stuck → Part stuck edges → ⊥) → IsRanked m edges None
  never : {m : Moves} {edges stuck : List Edge} → Stuck m stuck → Part stuck edges
      → (Rankable m stuck → ⊥) → (Rankable m edges → ⊥) → IsRanked m edges (Some stuck)
