-- Numbers to round to.
use Rattle.std.specs.Prelude.{◌≡◌, ℕ, ◌<◌, ◌≤◌, ◌-◌, ℤ, pos, ◌≤ℤ◌, ◌<ℤ◌, int_le, cond, List, [], ◌∷◌, ◌++◌, length, filter, slice_index_or}
use Rattle.std.specs.Int.{int_min, int_max}
use Rattle.viper_word.specs.Words.{least_signed, greatest_signed, is_signed}

-- the numbers that words can hold, and both ends of them
abbrev pub with_ends : List ℤ → List ℤ
with_ends ns = filter is_signed ns ++ least_signed ∷ greatest_signed ∷ []

-- the greatest listed number that is at most n, or the least signed value
unfoldable pub below : List ℤ → ℤ → ℤ
below [] n = least_signed
below (t ∷ ts) n = cond (int_le t n) (int_max t (below ts n)) (below ts n)

-- the least listed number that is at least n, or the greatest signed value
unfoldable pub above : List ℤ → ℤ → ℤ
above [] n = greatest_signed
above (t ∷ ts) n = cond (int_le n t) (int_min t (above ts n)) (above ts n)

-- the numbers rise, from the least signed value to the greatest
pub record IsThresholds (ts : List ℤ) : Type 0 where
  pub some : 0 < length ts
  pub first : slice_index_or ts 0 (pos 0) ≡ least_signed
  pub last : slice_index_or ts (length ts - 1) (pos 0) ≡ greatest_signed
  pub rising : (i j : ℕ) → i ≤ j → j < length ts
      → slice_index_or ts i (pos 0) ≤ℤ slice_index_or ts j (pos 0)

-- the last number up to n stands from low to high
pub record IsBetween_below (ts : List ℤ) (n : ℤ) (low high : ℕ) : Type 0 where
  pub ordered : low ≤ high
  pub inside : high < length ts
  pub reached : slice_index_or ts low (pos 0) ≤ℤ n
  pub after : (k : ℕ) → high < k → k < length ts → n <ℤ slice_index_or ts k (pos 0)

-- the first number from n on stands from low to high
pub record IsBetween_above (ts : List ℤ) (n : ℤ) (low high : ℕ) : Type 0 where
  pub ordered : low ≤ high
  pub inside : high < length ts
  pub reached : n ≤ℤ slice_index_or ts high (pos 0)
  pub before : (k : ℕ) → k < low → slice_index_or ts k (pos 0) <ℤ n
