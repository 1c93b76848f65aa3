-- Which nodes may be bare.
use Rattle.std.specs.Prelude.{◌≡◌, ℕ, suc, ◌+◌, ◌==◌, Bool, not, ◌&&◌, ◌||◌, if◌then◌else◌, List, [], ◌∷◌, take, count_by, Option, Some, None}
use Rattle.cert_format.specs.Certificates.{NodeOf, CertificateOf, is_bare}

-- how often the list has the number
abbrev pub times : ℕ → List ℕ → ℕ
times i xs = count_by (λ x. x == i) xs

module _ {T : Type 0} where
  -- how often the number stands in the lists of successors
  abbrev pub listed : ℕ → List (NodeOf T) → ℕ
  listed i [] = 0
  listed i (n ∷ nodes) = times i n.succ + listed i nodes

  -- it is no start node, and all lists of successors together have it once: that of a node before it
  abbrev pub may_be_bare : CertificateOf T → ℕ → Bool
  may_be_bare c i = (times i c.starts == 0)
      && ((listed i c.nodes == 1) && (listed i (take i c.nodes) == 1))

  -- is it full, or may it be bare?
  abbrev pub is_rightly_bare : CertificateOf T → ℕ → NodeOf T → Bool
  is_rightly_bare c i n = not (is_bare n) || may_be_bare c i

  -- the first node, from that number on, which is bare and may not be
  unfoldable pub first_bare_from : CertificateOf T → ℕ → List (NodeOf T) → Option ℕ
  first_bare_from c i [] = None
  first_bare_from c i (n ∷ nodes) = (
      if is_rightly_bare c i n then first_bare_from c (suc i) nodes else Some i)

  abbrev pub first_bare : CertificateOf T → Option ℕ
  first_bare c = first_bare_from c 0 c.nodes

  -- each bare node may be bare
  abbrev pub AreRightlyBare : CertificateOf T → Type 0
  AreRightlyBare c = first_bare c ≡ None
