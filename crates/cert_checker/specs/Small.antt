-- Which bounds fit a number of the machine that checks, of which no public clause speaks.
use Rattle.std.specs.Prelude.{◌≡◌, ℕ, ◌<◌, ◌^◌, false, List, unsigned_abs}
use Rattle.std.specs.List.{AllByRecursion}
use Rattle.num_domain.specs.Domain.{Domain}
use Rattle.flag_relation.specs.Emptiness.{is_empty}
use Rattle.rank_form.specs.Bounds.{upper}
use Rattle.cert_format.specs.Certificates.{NodeOf}
use Rattle.cert_checker.specs.Conditions.{known}

module _ {T : Type 0} (d : Domain T) (cells : List ℕ) where
  -- the greatest rank of a node has at most 64 bits, if it stands at the address and isn't empty
  abbrev pub IsSmallAt : ℕ → NodeOf T → Type 0
  IsSmallAt at n = n.addr ≡ at → is_empty d (known d cells n) ≡ false
      → unsigned_abs (upper d n.rank (known d cells n)) < 2 ^ 64

  abbrev pub AreSmallAt : List (NodeOf T) → ℕ → Type 0
  AreSmallAt nodes at = AllByRecursion (IsSmallAt at) nodes
