-- Whole numbers that are multiples of a natural one.
use Rattle.std.specs.Prelude.{◌≡◌, ℕ, suc, ◌+◌, ◌-◌, ◌*◌, ◌/◌, ◌%◌, ◌<◌, ℤ, pos, negsuc, neg_ℤ, ◌+ℤ◌, ◌-ℤ◌, ◌≤ℤ◌, ◌<ℤ◌, nat_abs, true, false, nat_eq}
use Rattle.std.specs.Int.{◌∣◌, int_rem_euclid}
use Rattle.std.proofs.Common.{arith, ⊎_elim}
use Rattle.viper_word.specs.Divisors.{Divides, divides}
use Rattle.std.proofs.Math.Nat.{dvd-add, dvd-sub, dvd_trans, dvd-zero, le_of_dvd, dvd_of_mod-eq-zero, mod-eq-zero_of_dvd, dvd-mul_right, dvd_refl, div-add-mod}
use Rattle.std.proofs.lemmas.Nat.{mod_below}
use Rattle.std.proofs.lemmas.Int.{ints}
use Rattle.std.proofs.lemmas.Bool.{eqb-true, eqb-false, eq-eqb, cases_Bool}

abs_mixed : (a b : ℕ) → nat_abs (pos a +ℤ negsuc b) ≡ (a - suc b) + (suc b - a)
abs_mixed a b = omega (arith, ints)

abs_mixed' : (a b : ℕ) → nat_abs (negsuc a +ℤ pos b) ≡ (b - suc a) + (suc a - b)
abs_mixed' a b = omega (arith, ints)

pub Divides-add : (m : ℕ) (y z : ℤ) → Divides m y → Divides m z → Divides m (y +ℤ z)
Divides-add m (pos a) (pos b) h k = record { holds = dvd-add m h.holds k.holds }
Divides-add m (pos a) (negsuc b) h k = record { holds = rw (abs_mixed a b) (dvd-add m (dvd-sub m h.holds k.holds) (dvd-sub m k.holds h.holds)) }
Divides-add m (negsuc a) (pos b) h k = record { holds = rw (abs_mixed' a b) (dvd-add m (dvd-sub m k.holds h.holds) (dvd-sub m h.holds k.holds)) }
Divides-add m (negsuc a) (negsuc b) h k =
    let e : suc a + suc b ≡ nat_abs (negsuc a +ℤ negsuc b) = omega (arith, ints) in
    record { holds = rw e at (dvd-add m h.holds k.holds) }

pub Divides-neg : (m : ℕ) (z : ℤ) → Divides m z → Divides m (neg_ℤ z)
Divides-neg m z h =
    let e : nat_abs z ≡ nat_abs (neg_ℤ z) = omega (arith, ints) in
    record { holds = rw e at h.holds }

-- the same, where equations say which numbers are meant
pub Divides-sum : (m : ℕ) (x y z : ℤ) → Divides m x → Divides m y → z ≡ x +ℤ y → Divides m z
Divides-sum m x y z h k e = rw e (Divides-add m x y h k)

pub Divides-difference : (m : ℕ) (x y z : ℤ) → Divides m x → Divides m y → z ≡ x -ℤ y → Divides m z
Divides-difference m x y z h k e = Divides-sum m x (neg_ℤ y) z h (Divides-neg m y k) (omega (arith, ints))

pub Divides_is : (m : ℕ) (y z : ℤ) → Divides m y → z ≡ y → Divides m z
Divides_is m y z h e = rw e h

pub Divides-neg_is : (m : ℕ) (y z : ℤ) → Divides m y → z ≡ neg_ℤ y → Divides m z
Divides-neg_is m y z h e = rw e (Divides-neg m y h)

pub Divides-zero : (m : ℕ) → Divides m (pos 0)
Divides-zero m = record { holds = dvd-zero m }

pub Divides_trans : (m n : ℕ) (z : ℤ) → m ∣ n → Divides n z → Divides m z
Divides_trans m n z h k = record { holds = dvd_trans m h k.holds }

pub divides_true : (m n : ℕ) → divides m n ≡ true → m ∣ n
divides_true m n h = dvd_of_mod-eq-zero m (eqb-true (n % m) 0 h)

pub true_divides : (m n : ℕ) → m ∣ n → divides m n ≡ true
true_divides m n h = eq-eqb (n % m) 0 (mod-eq-zero_of_dvd m h)

-- what is left over
pub rem_bounds : (z : ℤ) (m : ℕ) → 0 < m → (pos 0 ≤ℤ int_rem_euclid z (pos m)) × (int_rem_euclid z (pos m) <ℤ pos m)
rem_bounds (pos a) m h = let q = mod_below a m h in (omega (arith, ints), omega (arith, ints))
rem_bounds (negsuc a) m h = let q = mod_below a m h in (omega (arith, ints), omega (arith, ints))

pub rem_divides : (z : ℤ) (m : ℕ) → 0 < m → Divides m (z -ℤ int_rem_euclid z (pos m))
rem_divides (pos a) m h =
    let d = div-add-mod a m in
    let e : m * (a / m) ≡ nat_abs (pos a -ℤ pos (a % m)) = omega (arith, ints) in
    record { holds = rw e at (dvd-mul_right m (a / m)) }
rem_divides (negsuc a) m h =
    let d = div-add-mod a m in
    let q = mod_below a m h in
    let e : m + m * (a / m) ≡ nat_abs (negsuc a -ℤ pos (m - 1 - a % m)) = omega (arith, ints) in
    record { holds = rw e at (dvd-add m (dvd_refl m) (dvd-mul_right m (a / m))) }

-- a small multiple is 0
pub small_multiple : (m : ℕ) (z : ℤ) → Divides m z → nat_abs z < m → z ≡ pos 0
small_multiple m z h k =
    ⊎_elim (λ (e : nat_eq (nat_abs z) 0 ≡ true). let f = eqb-true (nat_abs z) 0 e in omega (arith, ints))
    (λ (e : nat_eq (nat_abs z) 0 ≡ false). let f : 0 < nat_abs z = grind (arith, eqb-false (nat_abs z) 0 e) in let l = le_of_dvd f h.holds in absurd (omega arith)) (cases_Bool (nat_eq (nat_abs z) 0))
