-- The greatest bound, as a loop finds it.
use Rattle.std.proofs.Common.{◌≡◌, ℕ, max, refl, ap, arith}
use Rattle.cert_checker.specs.declared.verdict.Bound.{Bound}
use Rattle.cert_checker.specs.declared.verdict.Bound.TheVariants.{Within, Unreached}
use Rattle.cert_checker.specs.Verdicts.{raised}

-- the greater of two bounds
abbrev pub greater : Bound → Bound → Bound
greater Unreached b = b
greater (Within n) b = raised n b

max_swap : (r n m : ℕ) → max (max r n) m ≡ max n (max r m)
max_swap r n m = omega arith

max_comm : (r n : ℕ) → max r n ≡ max n r
max_comm r n = omega arith

-- a rank that raises the first may as well raise the second
pub greater-raised : (rank : ℕ) (a b : Bound) → greater (raised rank a) b ≡ greater a (raised rank b)
greater-raised rank Unreached b = refl
greater-raised rank (Within n) Unreached = ap Within (max_comm rank n)
greater-raised rank (Within n) (Within m) = ap Within (max_swap rank n m)
