-- How a certificate is kept: equal facts once, found by a set of their bytes.
use Rattle.std.specs.Prelude.{◌≡◌, ℕ, ◌<◌, ◌≤◌, ◌^◌, false, List, [], ◌∷◌, ◌++◌, length, map, Option, Some, None, IfSome, bytes_eq}
use Rattle.std.specs.List.{AllByRecursion, list_any, slice_get}
use Rattle.flag_relation.specs.Facts.{FactOf}
use Rattle.cert_format.specs.declared.cert.Node.{Node}
use Rattle.cert_format.specs.declared.fact_bytes.FactBytes.{FactBytes}
use Rattle.cert_format.specs.declared.given.Given.{Given}
use Rattle.cert_format.specs.declared.given.Given.TheVariants.{Lent, Owned}
use Rattle.cert_format.specs.declared.limits.TheConstants.{MOST_NODES}
use Rattle.cert_format.specs.Certificates.{NodeOf}
use Rattle.cert_format.specs.Limits.{IsFact}
use Rattle.cert_format.specs.Spelling.{fact_bytes}
use Rattle.cert_format.specs.Kept.{kept_facts}

abbrev pub spelled : List FactBytes → List (List ℕ)
spelled keys = map (λ k. k.bytes.items) keys

-- the bytes have that number, or went in last
abbrev pub Enters : List FactBytes → List FactBytes → List ℕ → Option ℕ → Type 0
Enters old new q (Some i) = (slice_get (spelled old) i ≡ Some q) × (spelled new ≡ spelled old)
Enters old new q None = (list_any (bytes_eq q) (spelled old) ≡ false) × (spelled new ≡ spelled old ++ q ∷ [])

-- the bytes that went in last are out again
abbrev pub LeavesLast : List FactBytes → List FactBytes → Type 0
LeavesLast old new = (keys : List (List ℕ)) (q : List ℕ) → spelled old ≡ keys ++ q ∷ [] → spelled new ≡ keys

abbrev pub HasNumber : ℕ → Node → Type 0
HasNumber count n = IfSome n.fact (λ i. i < count)

abbrev pub HasAddress : Node → Type 0
HasAddress n = n.addr < 2 ^ 20

module _ {T : Type 0} where
  abbrev pub given : Given T → FactOf T
  given (Lent f) = f.now
  given (Owned f) = f

  abbrev pub fact_of : List (FactOf T) → Option ℕ → Option (FactOf T)
  fact_of kept None = None
  fact_of kept (Some i) = slice_get kept i

  abbrev pub node_view : List (FactOf T) → Node → NodeOf T
  node_view kept n = record {
    addr = n.addr;
    fact = fact_of kept n.fact;
    succ = n.succ.items;
    rank = n.rank;
  }

  abbrev pub nodes_view : List (FactOf T) → List Node → List (NodeOf T)
  nodes_view kept nodes = map (node_view kept) nodes

  abbrev pub keys_of : (T → List ℕ) → List (FactOf T) → List (List ℕ)
  keys_of bytes kept = map (fact_bytes bytes) kept

  pub record IsKeeping (bytes : T → List ℕ) (cells : ℕ) (nodes : List Node)
      (kept : List (FactOf T)) (keys : List FactBytes) : Type 0 where
    pub few : length nodes ≤ MOST_NODES
    pub fewer : length kept ≤ length nodes
    pub addresses : AllByRecursion HasAddress nodes
    pub numbers : AllByRecursion (HasNumber (length kept)) nodes
    pub facts : AllByRecursion (IsFact cells) kept
    pub once : kept ≡ kept_facts bytes (nodes_view kept nodes)
    pub places : spelled keys ≡ keys_of bytes kept
