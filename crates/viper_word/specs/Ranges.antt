-- Ranges: evenly spaced numbers from a least one to a greatest one.
use Rattle.std.specs.Prelude.{◌≡◌, ◌%◌, ℤ, pos, nat_abs, ◌+ℤ◌, ◌-ℤ◌, ◌*ℤ◌, ◌<ℤ◌, ◌≤ℤ◌, ◌⊎◌}
use Rattle.viper_word.specs.Words.{IsSigned, least_signed, greatest_signed}

-- n is t plus a multiple of q
pub record OnStep (q t n : ℤ) : Type 0 where
  pub steps : ℤ
  pub holds : n ≡ t +ℤ (steps *ℤ q)

-- the numbers from lo to hi in steps of the modulus, all of one residue; modulus 0 is for a single
-- number
pub record NumberRange : Type 0 where
  pub lo : ℤ
  pub hi : ℤ
  pub modulus : ℤ
  pub residue : ℤ

-- a number of the range
pub record IsIn (r : NumberRange) (n : ℤ) : Type 0 where
  pub low : r.lo ≤ℤ n
  pub high : n ≤ℤ r.hi
  pub step : OnStep r.modulus r.residue n

-- one number
pub record IsSingle (r : NumberRange) : Type 0 where
  pub ends : r.lo ≡ r.hi
  pub modulus : r.modulus ≡ pos 0
  pub residue : r.residue ≡ r.lo

-- several: both ends have the residue, which is the least that there is
pub record IsSeveral (r : NumberRange) : Type 0 where
  pub ends : r.lo <ℤ r.hi
  pub modulus : pos 1 ≤ℤ r.modulus
  pub low : pos 0 ≤ℤ r.residue
  pub high : r.residue <ℤ r.modulus
  pub from : OnStep r.modulus r.residue r.lo
  pub to : OnStep r.modulus r.residue r.hi

-- the one form of each range of signed words that isn't empty
pub record IsNormal (r : NumberRange) : Type 0 where
  pub lo : IsSigned r.lo
  pub hi : IsSigned r.hi
  pub form : IsSingle r ⊎ IsSeveral r

-- all signed words
abbrev pub any_word : NumberRange
any_word = record { lo = least_signed; hi = greatest_signed; modulus = pos 1; residue = pos 0 }

-- the three numbers are the ends and the modulus of a range in normal form, as tests say it: its
-- residue is known from them, and a single number has the modulus 0, which divides only 0
pub record IsRange (lo hi modulus : ℤ) : Type 0 where
  pub low : IsSigned lo
  pub high : IsSigned hi
  pub ordered : lo ≤ℤ hi
  pub not_negative : pos 0 ≤ℤ modulus
  pub spaced : nat_abs (hi -ℤ lo) % nat_abs modulus ≡ 0
  pub single : lo ≡ hi → modulus ≡ pos 0

-- n is a number of that range
pub record InRange (lo hi modulus n : ℤ) : Type 0 where
  pub low : lo ≤ℤ n
  pub high : n ≤ℤ hi
  pub step : OnStep modulus lo n
