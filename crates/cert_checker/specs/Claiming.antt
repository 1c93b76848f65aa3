-- The first listers of nodes, as a list is filled with them, of which no public clause speaks.
use Rattle.std.specs.Prelude.{◌≡◌, ℕ, ◌<◌, nat_lt, if◌then◌else◌, List, [], ◌∷◌, length, Option}
use Rattle.std.specs.Prelude.{Some, None}
use Rattle.std.proofs.Common.{get_or, set}
use Rattle.cert_format.specs.Certificates.{NodeOf}
use Rattle.cert_checker.specs.Filling.{lister}

-- the first of both
abbrev pub or_first : Option ℕ → ℕ → Option ℕ
or_first None k = Some k
or_first (Some j) k = Some j

-- node k lists the number
abbrev pub claimed : ℕ → List (Option ℕ) → ℕ → List (Option ℕ)
claimed k ls s = set ls s (or_first (get_or ls s None) k)

-- node k lists these
unfoldable pub claimed_all : ℕ → List (Option ℕ) → List ℕ → List (Option ℕ)
claimed_all k ls [] = ls
claimed_all k ls (s ∷ ss) = claimed_all k (claimed k ls s) ss

-- the number of a node, if it stands before node i
abbrev pub before : ℕ → Option ℕ → Option ℕ
before i None = None
before i (Some j) = if nat_lt j i then Some j else None

-- each node's first lister, or none
pub record AreListers {T : Type 0} (n : ℕ) (nodes : List (NodeOf T)) (ls : List (Option ℕ))
    : Type 0 where
  pub count : length ls ≡ n
  pub each : (i : ℕ) → i < n → get_or ls i None ≡ lister i 0 nodes
