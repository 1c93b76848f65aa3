-- The nodes that a node lists.
use Rattle.std.specs.Prelude.{ℕ, Bool, true, false, not, ◌&&◌, ◌==◌, if◌then◌else◌, List, [], ◌∷◌}
use Rattle.std.specs.Prelude.{Option, Some, None, slice_get}
use Rattle.std.specs.List.{list_any}
use Rattle.cert_format.specs.Certificates.{NodeOf}

-- does a node stand at the address?
abbrev pub stands_at : {T : Type 0} → Option (NodeOf T) → ℕ → Bool
stands_at None at = false
stands_at (Some n) at = n.addr == at

-- the node if it stands at the address, else the other
abbrev pub pick : {T : Type 0} → ℕ → Option (NodeOf T) → Option (NodeOf T) → Option (NodeOf T)
pick at None other = other
pick at (Some n) other = if n.addr == at then Some n else other

-- the first of the listed nodes that stands at the address
abbrev pub successor : {T : Type 0} → List (NodeOf T) → List ℕ → ℕ → Option (NodeOf T)
successor nodes [] at = None
successor nodes (j ∷ js) at = pick at (slice_get nodes j) (successor nodes js at)

-- does one of the listed nodes stand at the address?
abbrev pub is_listed_at : {T : Type 0} → List (NodeOf T) → List ℕ → ℕ → Bool
is_listed_at nodes js at = list_any (λ j. stands_at (slice_get nodes j) at) js

-- does one of the listed nodes stand where the node does?
abbrev pub is_repeated : {T : Type 0} → List (NodeOf T) → Option (NodeOf T) → List ℕ → Bool
is_repeated nodes None js = false
is_repeated nodes (Some n) js = is_listed_at nodes js n.addr

-- the listed nodes stand at distinct addresses
abbrev pub are_distinct : {T : Type 0} → List (NodeOf T) → List ℕ → Bool
are_distinct nodes [] = true
are_distinct nodes (j ∷ js) =
    not (is_repeated nodes (slice_get nodes j) js) && are_distinct nodes js
