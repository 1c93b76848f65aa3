-- Ranges in normal form: steps from the residue are steps from the least number.
use Rattle.std.specs.Prelude.{◌≡◌, ◌-◌, ◌^◌, ◌≤◌, ◌<◌, ℤ, pos, ◌-ℤ◌, nat_abs, nat_eq, true, false}
use Rattle.std.proofs.Common.{arith, refl, inl, inr, ⊎_elim, ◌⊎◌}
use Rattle.std.proofs.Math.Nat.{le_of_dvd, dvd_of_mod-eq-zero, mod-eq-zero_of_dvd}
use Rattle.std.proofs.lemmas.Int.{ints}
use Rattle.std.proofs.lemmas.Bool.{cases_Bool, eqb-true, eqb-false}
use Rattle.viper_word.specs.Words.{IsSigned}
use Rattle.viper_word.specs.Ranges.{OnStep, NumberRange, IsIn, IsSingle, IsSeveral, IsNormal, IsRange, InRange}
use Rattle.viper_word.proofs.Steps.{step_divides, steps_between, steps_onward}

-- a range begins on its own steps
pub low_step : (r : NumberRange) → IsSingle r ⊎ IsSeveral r → OnStep r.modulus r.residue r.lo
low_step r (inl one) = let m = one.modulus in let e = one.residue in record { steps = pos 0; holds = omega (arith, ints) }
low_step r (inr many) = many.from

-- a number of a range in normal form is so many steps above its least one, and the other way round
pub in_range : (r : NumberRange) (n : ℤ) → IsNormal r → IsIn r n → InRange r.lo r.hi r.modulus n
in_range r n normal inside = record {
  low = inside.low;
  high = inside.high;
  step = steps_between r.modulus r.residue r.lo n (low_step r normal.form) inside.step;
}

pub range_in : (r : NumberRange) (n : ℤ) → IsNormal r → InRange r.lo r.hi r.modulus n → IsIn r n
range_in r n normal inside = record {
  low = inside.low;
  high = inside.high;
  step = steps_onward r.modulus r.residue r.lo n (low_step r normal.form) inside.step;
}

-- the ends and the modulus of a range in normal form
range_by : (r : NumberRange) → IsSigned r.lo → IsSigned r.hi → IsSingle r ⊎ IsSeveral r → IsRange r.lo r.hi r.modulus
range_by r lo hi (inl one) =
    let e = one.ends in
    let m : nat_abs r.modulus ≡ 0 = let z = one.modulus in omega (arith, ints) in
    let gap : nat_abs (r.hi -ℤ r.lo) ≡ 0 = omega (arith, ints) in
    record {
      low = lo;
      high = hi;
      ordered = omega (arith, ints);
      not_negative = let z = one.modulus in omega (arith, ints);
      spaced = rw (gap, m) refl;
      single = λ _. one.modulus;
    }
range_by r lo hi (inr many) =
    let between = steps_between r.modulus r.residue r.lo r.hi many.from many.to in
    let ordered = many.ends in
    let some = many.modulus in
    record {
      low = lo;
      high = hi;
      ordered = omega (arith, ints);
      not_negative = omega (arith, ints);
      spaced = mod-eq-zero_of_dvd (nat_abs r.modulus) (step_divides r.modulus r.lo r.hi between);
      single = λ e. absurd (omega (arith, ints));
    }

pub normal_range : (r : NumberRange) → IsNormal r → IsRange r.lo r.hi r.modulus
normal_range r h = range_by r h.lo h.hi h.form

-- a modulus is at most the distance of the ends
pub range_small : (lo hi m : ℤ) → IsRange lo hi m → nat_abs m ≤ 2 ^ 32 - 1
range_small lo hi m r =
    let l = r.low.low in
    let h = r.high.high in
    let o = r.ordered in
    ⊎_elim
    (λ (e : nat_eq (nat_abs (hi -ℤ lo)) 0 ≡ true). let f = eqb-true (nat_abs (hi -ℤ lo)) 0 e in let z = r.single (omega (arith, ints)) in omega (arith, ints))
    (λ (e : nat_eq (nat_abs (hi -ℤ lo)) 0 ≡ false).
    let p : 0 < nat_abs (hi -ℤ lo) = grind (arith, eqb-false (nat_abs (hi -ℤ lo)) 0 e) in
    let d = le_of_dvd p (dvd_of_mod-eq-zero (nat_abs m) r.spaced) in
    omega (arith, ints))
    (cases_Bool (nat_eq (nat_abs (hi -ℤ lo)) 0))
