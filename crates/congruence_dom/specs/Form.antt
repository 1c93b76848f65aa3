-- What holds of a modulus and its residue.
use Rattle.std.specs.Prelude.{◌-◌, ◌^◌, ℤ, pos, ◌≤ℤ◌, ◌<ℤ◌}
use Rattle.viper_word.specs.Words.{least_signed, IsSigned}

-- with the modulus 0 the residue is the one member, a signed value; else it is reduced
pub record IsForm (modulus residue : ℤ) : Type 0 where
  pub not_negative : pos 0 ≤ℤ modulus
  pub fits : modulus ≤ℤ pos (2 ^ 32 - 1)
  pub low : least_signed ≤ℤ residue
  pub high : residue ≤ℤ pos (2 ^ 32 - 2)
  pub single : modulus ≤ℤ pos 0 → IsSigned residue
  pub reduced : pos 0 <ℤ modulus → (pos 0 ≤ℤ residue) × (residue <ℤ modulus)
