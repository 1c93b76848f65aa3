-- Numbers whose bits are answers of a test.
use Rattle.std.specs.Prelude.{ℕ, zero, suc, ◌+◌, ◌*◌, cond, Bool}

-- the answers at so many numbers from k on, as the bits of a number, the lowest first
unfoldable pub bits : (ℕ → Bool) → ℕ → ℕ → ℕ
bits p k zero = 0
bits p k (suc n) = cond (p k) 1 0 + 2 * bits p (suc k) n
