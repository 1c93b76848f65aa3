-- What holds of the two ends of an interval.
use Rattle.std.specs.Prelude.{ℤ, ◌≤ℤ◌}
use Rattle.viper_word.specs.Words.{least_signed, greatest_signed}

-- the two ends are in order and stand for words
pub record AreEnds (lo hi : ℤ) : Type 0 where
  pub low : least_signed ≤ℤ lo
  pub ordered : lo ≤ℤ hi
  pub high : hi ≤ℤ greatest_signed
