-- Divisors of whole numbers, and the greatest common one.
use Rattle.std.specs.Prelude.{ℕ, zero, suc, ◌%◌, ℤ, nat_abs, Bool, nat_eq, cond}
use Rattle.std.specs.Int.{◌∣◌}

-- m divides z
pub record Divides (m : ℕ) (z : ℤ) : Type 0 where
  pub holds : m ∣ nat_abs z

-- does m divide n?
abbrev pub divides : ℕ → ℕ → Bool
divides m n = nat_eq (n % m) 0

-- at most so many of Euclid's steps
unfoldable pub gcd_within : ℕ → ℕ → ℕ → ℕ
gcd_within zero a b = a
gcd_within (suc k) a b = cond (nat_eq b 0) a (gcd_within k b (a % b))

-- the greatest common divisor
unfoldable pub gcd : ℕ → ℕ → ℕ
gcd a b = gcd_within (suc b) a b
