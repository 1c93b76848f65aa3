-- How candidates move along edges.
use Rattle.std.specs.Prelude.{◌≡◌, ℕ, ◌<◌, ◌/◌, ◌%◌, ◌^◌, Bool, true, false, nat_eq, List, slice_index}
use Rattle.std.specs.List.{All, Any}
use Rattle.strong_components.specs.declared.edge.Edge.{Edge}
use Rattle.rank_shape.specs.declared.moves.Moves.{Moves}

-- the candidate may grow along the edge
unfoldable pub may_grow : Moves → ℕ → Edge → Bool
may_grow m c e = nat_eq ((slice_index m.grow.items e.name / 2 ^ c) % 2) 1

-- the candidate surely falls along the edge
unfoldable pub surely_falls : Moves → ℕ → Edge → Bool
surely_falls m c e = nat_eq ((slice_index m.fall.items e.name / 2 ^ c) % 2) 1

-- the candidate may grow on none of the edges, and surely falls on one
pub record Fits (m : Moves) (edges : List Edge) (c : ℕ) : Type 0 where
  pub in_count : c < m.count
  pub none_grows : All (λ e. may_grow m c e ≡ false) edges
  pub one_falls : Any (λ e. surely_falls m c e ≡ true) edges
