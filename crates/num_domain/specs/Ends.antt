-- The ends and the points of a value, by the least and the greatest number that it may have.
use Rattle.std.specs.Prelude.{◌≡◌, ℤ, ◌≤ℤ◌, int_le, Bool, true, false, ◌&&◌, Option, Some, None}
use Rattle.std.specs.Ordering.{int_eq}
use Rattle.std.proofs.Common.{refl}
use Rattle.viper_word.specs.Words.{least_signed, greatest_signed}
use Rattle.num_domain.specs.Domain.{Domain}
use Rattle.viper_word.specs.Options.{bind}
use Rattle.viper_word.proofs.Integers.{le_true}

-- the least and the greatest number that a value may have
pub record Ends : Type 0 where
  pub lo : ℤ
  pub hi : ℤ
  pub order : lo ≤ℤ hi

-- both ends, where the first is at most the second
unfoldable pub ends_when : (lo hi : ℤ) (b : Bool) → int_le lo hi ≡ b → Option Ends
ends_when lo hi true e = Some (record { lo = lo; hi = hi; order = le_true lo hi e })
ends_when lo hi false e = None

-- the wider contain the narrower
pub record Within (r r' : Ends) : Type 0 where
  pub lo : r'.lo ≤ℤ r.lo
  pub hi : r.hi ≤ℤ r'.hi

pub record Between (r : Ends) (n : ℤ) : Type 0 where
  pub lo : r.lo ≤ℤ n
  pub hi : n ≤ℤ r.hi

-- is the number the one that was found?
abbrev pub same_as : ℤ → Option ℤ → Bool
same_as n None = false
same_as n (Some k) = int_eq k n

-- does the number lie between the ends?
abbrev pub is_between : ℤ → Option Ends → Bool
is_between n None = false
is_between n (Some r) = int_le r.lo n && int_le n r.hi

module _ {T : Type 0} (d : Domain T) where
  -- the least and the greatest number that a value may have, if it may have one
  unfoldable pub ends : T → Option Ends
  ends v =
      bind (d.least_from v least_signed)
      (λ lo. bind (d.greatest_to v greatest_signed) (λ hi. ends_when lo hi (int_le lo hi) refl))

  -- whether n is between the ends and the least from n on
  unfoldable pub is_point : T → ℤ → Bool
  is_point v n = is_between n (ends v) && same_as n (d.least_from v n)
