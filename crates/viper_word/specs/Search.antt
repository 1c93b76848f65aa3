-- The first number that passes a test.
use Rattle.std.specs.Prelude.{ℕ, zero, suc, ℤ, pos, ◌+ℤ◌, Bool, cond, Option, Some, None}

-- the first number from n on, of k numbers, that passes
unfoldable pub find_from : (ℤ → Bool) → ℕ → ℤ → Option ℤ
find_from t zero n = None
find_from t (suc k) n = cond (t n) (Some n) (find_from t k (n +ℤ pos 1))
