-- Which parts lead into which.
use Rattle.std.specs.Prelude.{◌≡◌, ℕ, ◌<◌, List, length}
use Rattle.std.specs.List.{Contains}
use Rattle.std.specs.declared.alloc.Global.{Global}
use Rattle.std.specs.declared.vec.Vec.{Vec}
use Rattle.strong_components.specs.declared.edge.Edge.{Edge}
use Rattle.strong_components.specs.Components.{part_at}
use Rattle.rank_numbers.specs.Offsets.{leads_at}

-- an edge leads from one part to another
abbrev pub LeadsInto : List (List ℕ) → List Edge → ℕ → ℕ → Type 0
LeadsInto parts edges p q = (q < length parts) × (q ≡ p → ⊥) × ((e : Edge) × Contains edges e
    × Contains (part_at parts p) e.from × Contains (part_at parts q) e.to)

-- the lists of the parts that each part leads into
pub record AreLeads (parts : List (List ℕ)) (edges : List Edge)
    (leads : List (Vec ℕ Global)) : Type 0 where
  pub len : length leads ≡ length parts
  pub sound : (p q : ℕ) → Contains (leads_at leads p) q → LeadsInto parts edges p q
  pub complete : (p q : ℕ) → p < length parts → LeadsInto parts edges p q
      → Contains (leads_at leads p) q
