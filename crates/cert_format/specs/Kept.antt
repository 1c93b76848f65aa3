-- The facts that a certificate keeps: each distinct fact once, in the order of first use.
use Rattle.std.specs.Prelude.{ℕ, Bool, if◌then◌else◌, List, [], ◌∷◌, ◌++◌, Option, Some, None, bytes_eq}
use Rattle.std.specs.List.{list_any}
use Rattle.flag_relation.specs.Facts.{FactOf}
use Rattle.cert_format.specs.Certificates.{NodeOf}
use Rattle.cert_format.specs.Spelling.{fact_bytes}

module _ {T : Type 0} (bytes : T → List ℕ) where
  -- facts are told apart by their bytes, which are equal for equal facts alone
  abbrev pub has_fact : List (FactOf T) → FactOf T → Bool
  has_fact kept f = list_any (λ g. bytes_eq (fact_bytes bytes f) (fact_bytes bytes g)) kept

  -- one more fact, unless an equal one is there
  abbrev pub with_fact : List (FactOf T) → Option (FactOf T) → List (FactOf T)
  with_fact kept None = kept
  with_fact kept (Some f) = (if has_fact kept f then kept else kept ++ f ∷ [])

  abbrev pub kept_from : List (FactOf T) → List (NodeOf T) → List (FactOf T)
  kept_from kept [] = kept
  kept_from kept (n ∷ nodes) = kept_from (with_fact kept n.fact) nodes

  -- the facts of the nodes
  abbrev pub kept_facts : List (NodeOf T) → List (FactOf T)
  kept_facts nodes = kept_from [] nodes
