-- Forms in a list, by key, and edges by where they end.
use Rattle.std.specs.Prelude.{◌≡◌, ℕ, ◌↔◌, true, false, List, slice_index_or}
use Rattle.std.specs.List.{All, Contains}
use Rattle.std.specs.declared.alloc.Global.{Global}
use Rattle.std.specs.declared.vec.Vec.{Vec}
use Rattle.strong_components.specs.declared.edge.Edge.{Edge}
use Rattle.rank_shape.specs.Places.{edge_lists, edges_at}
use Rattle.rank_numbers.specs.Forms.{Forms}

-- the form of a key
abbrev pub form_of : {Form : Type 0} → Forms Form → List Form → ℕ → Form
form_of o forms k = slice_index_or forms k o.one

-- the edges that end at each key
abbrev pub IntoKeys : List Edge → List (Vec Edge Global) → Type 0
IntoKeys all into = (k : ℕ) (e : Edge) → Contains (edges_at (edge_lists into) k) e
    ↔ (Contains all e × (e.to ≡ k))

-- the forms of other keys are what they were
abbrev pub OthersStay : {Form : Type 0} → Forms Form → List ℕ → List Form → List Form → Type 0
OthersStay o part before after = (k : ℕ) → (Contains part k → ⊥)
    → form_of o after k ≡ form_of o before k

-- the forms of these keys have become what the function says, and none passes a limit
abbrev pub Became : {Form : Type 0} → Forms Form → (Form → Form) → List ℕ → List Form
    → List Form → Type 0
Became o f part before after = All (λ k. (form_of o after k ≡ f (form_of o before k))
    × (o.small (form_of o after k) ≡ true)) part

-- what the function says of one of these keys passes a limit
abbrev pub Passes : {Form : Type 0} → Forms Form → (Form → Form) → List ℕ → List Form → Type 0
Passes o f part before = (k : ℕ) × Contains part k × (o.small (f (form_of o before k)) ≡ false)
