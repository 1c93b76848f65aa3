-- Paths along the edges of a graph, and keys that reach each other.
use Rattle.std.specs.Prelude.{◌≡◌, ℕ, List}
use Rattle.std.specs.List.{Any}
use Rattle.strong_components.specs.declared.edge.Edge.{Edge}

-- an edge of the list leads from `u` to `v`
abbrev pub Leads : List Edge → ℕ → ℕ → Type 0
Leads edges u v = Any (λ e. (e.from ≡ u) × (e.to ≡ v)) edges

-- `v` is `u`, or is met from `u` along edges of the list
pub data Path : List Edge → ℕ → ℕ → Type 0 where
  here : {edges : List Edge} {u : ℕ} → Path edges u u
  along : {edges : List Edge} {u v w : ℕ} → Leads edges u v → Path edges v w → Path edges u w

-- each reaches the other
abbrev pub Mutual : List Edge → ℕ → ℕ → Type 0
Mutual edges u v = Path edges u v × Path edges v u
