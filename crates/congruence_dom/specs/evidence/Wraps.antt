-- Wrapping and halving, by divisors.
use Rattle.std.specs.Prelude.{◌≡◌, ℕ, ◌*◌, ◌/◌, ◌%◌, ◌<◌, ◌^◌, ℤ, pos, ◌+ℤ◌, ◌-ℤ◌, true, false, nat_lt, nat_abs}
use Rattle.std.specs.Int.{◌∣◌, w32, cast_signed, int_wrap, int_rem_euclid}
use Rattle.std.proofs.Common.{subst, arith, ⊎_elim}
use Rattle.std.proofs.Math.Nat.{dvd_refl, dvd_trans, mul-dvd-mul_left, dvd_of_mul-dvd-mul_left, mod-eq-zero_of_dvd, dvd_of_mod-eq-zero}
use Rattle.std.proofs.lemmas.Int.{ints, to_z_pos}
use Rattle.std.proofs.lemmas.Bool.{cases_Bool, ltb-true, ltb-false}
use Rattle.viper_word.specs.Signed.{wrapped, halved}
use Rattle.viper_word.proofs.SignedLemmas.{high_word, halved_twice}
use Rattle.viper_word.specs.Divisors.{Divides}
use Rattle.viper_word.proofs.Multiples.{Divides-difference, Divides-neg_is, Divides_is, rem_divides, rem_bounds}

cast_off : (z r : ℤ) (n : ℕ) → r ≡ pos n → n < 2 ^ 32 → Divides (2 ^ 32) (z -ℤ r) → Divides (2 ^ 32) (cast_signed w32 n -ℤ z)
cast_off z r n e h d =
    ⊎_elim (λ (t : nat_lt n (2 ^ 31) ≡ true). let f = to_z_pos w32 n (ltb-true n (2 ^ 31) t) in Divides-neg_is (2 ^ 32) (z -ℤ r) (cast_signed w32 n -ℤ z) d (omega (arith, ints)))
    (λ (t : nat_lt n (2 ^ 31) ≡ false).
    let l = ltb-false n (2 ^ 31) t in
    let f = high_word n l h in
    let one : Divides (2 ^ 32) (pos (2 ^ 32)) = record { holds = dvd_refl (2 ^ 32) } in
    let back = Divides-neg_is (2 ^ 32) (z -ℤ r) (r -ℤ z) d (omega (arith, ints)) in
    Divides-difference (2 ^ 32) (r -ℤ z) (pos (2 ^ 32)) (cast_signed w32 n -ℤ z) back one (omega (arith, ints))) (cases_Bool (nat_lt n (2 ^ 31)))

pub wrapped_divides : (z : ℤ) → Divides (2 ^ 32) (wrapped z -ℤ z)
unfolding wrapped int_wrap
wrapped_divides z =
    let b = rem_bounds z (2 ^ 32) (omega arith) in
    let b0 = b.0 in
    let b1 = b.1 in
    cast_off z (int_rem_euclid z (pos (2 ^ 32))) (nat_abs (int_rem_euclid z (pos (2 ^ 32)))) (omega (arith, ints)) (omega (arith, ints)) (rem_divides z (2 ^ 32) (omega arith))

-- doubling
twice_abs : (z : ℤ) → nat_abs (z +ℤ z) ≡ 2 * nat_abs z
twice_abs z = omega (arith, ints)

pub Divides-twice : (m : ℕ) (z : ℤ) → Divides m z → Divides (2 * m) (z +ℤ z)
Divides-twice m z h = record { holds = rw (twice_abs z) (mul-dvd-mul_left m 2 h.holds) }

Divides-half : (m : ℕ) (z : ℤ) → Divides (2 * m) (z +ℤ z) → Divides m z
Divides-half m z h = record { holds = dvd_of_mul-dvd-mul_left m {n = nat_abs z} (two_pos) (rw (twice_abs z) at h.holds) }
  where
    two_pos : 0 < 2
    two_pos = omega arith

-- halving, at an even modulus
pub Divides-halved : (m : ℕ) (x y : ℤ) → m % 2 ≡ 0 → Divides m (x -ℤ y) → Divides (m / 2) (halved x -ℤ halved y)
Divides-halved m x y e d =
    let two : 2 ∣ m = dvd_of_mod-eq-zero 2 e in
    let p = halved_twice x in
    let q = halved_twice y in
    let even : nat_abs (x -ℤ y) % 2 ≡ 0 = mod-eq-zero_of_dvd 2 (dvd_trans 2 two d.holds) in
    let same : halved x -ℤ halved y +ℤ (halved x -ℤ halved y) ≡ x -ℤ y = omega (arith, ints) in
    let m2 : m ≡ 2 * (m / 2) = omega arith in
    Divides-half (m / 2) (halved x -ℤ halved y) (subst (λ (k : ℕ). Divides k (halved x -ℤ halved y +ℤ (halved x -ℤ halved y))) m2 (Divides_is m (x -ℤ y) (halved x -ℤ halved y +ℤ (halved x -ℤ halved y)) d same))
