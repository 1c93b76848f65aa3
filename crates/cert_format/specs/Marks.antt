-- How the rule Bare is told in one pass: each node has a mark, raised where its number is listed.
use Rattle.std.specs.Prelude.{◌≡◌, ℕ, suc, ◌+◌, ◌<◌, min, nat_lt, ◌==◌, if◌then◌else◌, List, [], ◌∷◌, length, get_or}
use Rattle.cert_format.specs.Certificates.{NodeOf, CertificateOf}
use Rattle.cert_format.specs.Bare.{times, may_be_bare}

-- a listing counts once at a node above the one that lists it, and else twice
abbrev pub weight : ℕ → ℕ → ℕ → ℕ
weight from i n = (if nat_lt from i then n else n + n)

abbrev pub weights : {T : Type 0} → ℕ → ℕ → List (NodeOf T) → ℕ
weights from i [] = 0
weights from i (n ∷ nodes) = weight from i (times i n.succ) + weights (suc from) i nodes

-- each mark is raised by so much, to 255 at the most
pub record AreRaised (old new : List ℕ) (by : ℕ → ℕ) : Type 0 where
  pub len : length new ≡ length old
  pub marks : (i : ℕ) → i < length old → get_or new i 0 ≡ min (get_or old i 0 + by i) 255

-- the marks of 1 are those of the nodes that may be bare
pub record AreMarks {T : Type 0} (marks : List ℕ) (c : CertificateOf T) : Type 0 where
  pub len : length marks ≡ length c.nodes
  pub ones : (i : ℕ) → i < length c.nodes → (get_or marks i 0 == 1) ≡ may_be_bare c i
