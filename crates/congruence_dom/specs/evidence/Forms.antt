-- Residues, and the congruences that are made, keep their form.
use Rattle.std.specs.Prelude.{◌≡◌, ℕ, ◌<◌, ◌≤◌, ◌-◌, ◌^◌, ℤ, pos, ◌-ℤ◌, ◌≤ℤ◌, ◌<ℤ◌, ◌⊎◌, true, false, nat_abs, nat_eq, nat_le, nat_lt}
use Rattle.std.specs.Int.{◌∣◌, int_rem_euclid}
use Rattle.std.proofs.Common.{refl, arith, ⊎_elim, inl, inr}
use Rattle.std.proofs.Math.Nat.{dvd_trans, le_of_dvd, dvd_refl, eq-zero_of_zero-dvd}
use Rattle.std.proofs.lemmas.Int.{ints}
use Rattle.std.proofs.lemmas.Bool.{and_parts, and_from, and_cases, cases_Bool, eqb-true, eqb-false, leb-true, leb-false, ltb-true, ltb-false, lt-ltb, le-leb, cond_both}
use Rattle.viper_word.specs.Words.{IsSigned}
use Rattle.viper_word.specs.Divisors.{Divides, gcd}
use Rattle.viper_word.proofs.Gcd.{gcd_left, gcd_right, gcd_greatest}
use Rattle.viper_word.proofs.Multiples.{Divides-zero, rem_bounds, rem_divides}
use Rattle.congruence_dom.specs.Form.{IsForm}
use Rattle.congruence_dom.specs.Residues.{mod_of, reduce, is_small, join_modulus}
use Rattle.congruence_dom.specs.declared.congruence.Congruence.{Congruence}

pub positive : (m : ℕ) → nat_eq m 0 ≡ false → 0 < m
positive m e = grind (arith, eqb-false m 0 e)

pub reduce_divides : (m : ℕ) (z : ℤ) → Divides m (z -ℤ reduce m z)
unfolding reduce
reduce_divides m z =
    cond_both (nat_eq m 0) z (int_rem_euclid z (pos m)) (λ r. Divides m (z -ℤ r))
    (λ e. let f : pos 0 ≡ z -ℤ z = omega (arith, ints) in rw f at (Divides-zero m))
    (λ e. rem_divides z m (positive m e))

pub reduce_bounds : (m : ℕ) (z : ℤ) → 0 < m → (pos 0 ≤ℤ reduce m z) × (reduce m z <ℤ pos m)
unfolding reduce
reduce_bounds m z h =
    cond_both (nat_eq m 0) z (int_rem_euclid z (pos m)) (λ r. (pos 0 ≤ℤ r) × (r <ℤ pos m))
    (λ e. let f = eqb-true m 0 e in absurd (omega arith))
    (λ e. rem_bounds z m h)

pub reduce_zero : (m : ℕ) (z : ℤ) → m ≡ 0 → reduce m z ≡ z
unfolding reduce
reduce_zero m z e = cond_both (nat_eq m 0) z (int_rem_euclid z (pos m)) (λ r. r ≡ z) (λ _. refl) (λ f. absurd (eqb-false m 0 f e))

pub reduce_else : (m : ℕ) (z : ℤ) → (m ≡ 0 → ⊥) → reduce m z ≡ int_rem_euclid z (pos m)
unfolding reduce
reduce_else m z h = cond_both (nat_eq m 0) z (int_rem_euclid z (pos m)) (λ r. r ≡ int_rem_euclid z (pos m)) (λ e. absurd (h (eqb-true m 0 e))) (λ _. refl)

pub single_form : (z : ℤ) → IsSigned z → IsForm (pos 0) z
single_form z h = record { not_negative = omega (arith, ints); fits = omega (arith, ints); low = h.low; high = omega (arith, ints); single = λ _. h; reduced = λ l. absurd (omega (arith, ints)) }

pub reduced_form : (m : ℕ) (z : ℤ) → 0 < m → m ≤ 2 ^ 32 - 1 → IsForm (pos m) (reduce m z)
reduced_form m z h k = let b = reduce_bounds m z h in record { not_negative = omega (arith, ints); fits = omega (arith, ints); low = omega (arith, ints); high = omega (arith, ints); single = λ l. absurd (omega (arith, ints)); reduced = λ _. reduce_bounds m z h }

pub small_parts : (m : ℕ) → is_small m ≡ true → (0 < m) × (m ≤ 2 ^ 32 - 1)
small_parts m h = let p = and_parts (nat_lt 0 m) (nat_le m (2 ^ 32 - 1)) h in (ltb-true 0 m p.0, leb-true m (2 ^ 32 - 1) p.1)

pub small_from : (m : ℕ) → 0 < m → m ≤ 2 ^ 32 - 1 → is_small m ≡ true
small_from m h k = and_from (nat_lt 0 m) (nat_le m (2 ^ 32 - 1)) (lt-ltb 0 m h) (le-leb m (2 ^ 32 - 1) k)

pub large_cases : (m : ℕ) → is_small m ≡ false → (m ≡ 0) ⊎ (2 ^ 32 - 1 < m)
large_cases m h = ⊎_elim (λ (e : nat_lt 0 m ≡ false). let f = ltb-false 0 m e in inl (omega arith)) (λ (e : nat_le m (2 ^ 32 - 1) ≡ false). inr (leb-false m (2 ^ 32 - 1) e)) (and_cases (nat_lt 0 m) (nat_le m (2 ^ 32 - 1)) h)

pub top_form : IsForm (pos 1) (pos 0)
top_form = record { not_negative = omega (arith, ints); fits = omega (arith, ints); low = omega (arith, ints); high = omega (arith, ints); single = λ l. absurd (omega (arith, ints)); reduced = λ _. (omega (arith, ints), omega (arith, ints)) }

pub join_divides : (a b : Congruence) → (join_modulus a b ∣ mod_of a) × (join_modulus a b ∣ mod_of b) × (join_modulus a b ∣ nat_abs (a.residue -ℤ b.residue))
join_divides a b =
    let x = mod_of a in
    let y = mod_of b in
    let d = nat_abs (a.residue -ℤ b.residue) in
    (dvd_trans (gcd (gcd x y) d) (gcd_left (gcd x y) d) (gcd_left x y), dvd_trans (gcd (gcd x y) d) (gcd_left (gcd x y) d) (gcd_right x y), gcd_right (gcd x y) d)

pub dvd_zero_is : (m : ℕ) → m ≡ 0 → 0 ∣ m
dvd_zero_is m e = rw e (dvd_refl 0)

pub join_modulus_le : (a b : Congruence) → join_modulus a b ≤ 2 ^ 32 - 1
join_modulus_le a b =
    let x = mod_of a in
    let y = mod_of b in
    let d = nat_abs (a.residue -ℤ b.residue) in
    let g = join_modulus a b in
    let p = join_divides a b in
    let fa = a.form.fits in
    let na = a.form.not_negative in
    let fb = b.form.fits in
    let nb = b.form.not_negative in
    ⊎_elim
    (λ (ex : nat_eq (mod_of a) 0 ≡ true).
    ⊎_elim
    (λ (ey : nat_eq (mod_of b) 0 ≡ true).
    let zx = eqb-true (mod_of a) 0 ex in
    let zy = eqb-true (mod_of b) 0 ey in
    let wa : IsSigned a.residue = a.form.single (omega (arith, ints)) in
    let wb : IsSigned b.residue = b.form.single (omega (arith, ints)) in
    ⊎_elim
    (λ (ed : nat_eq (nat_abs (a.residue -ℤ b.residue)) 0 ≡ true).
    let zd = eqb-true (nat_abs (a.residue -ℤ b.residue)) 0 ed in
    let z = eq-zero_of_zero-dvd (gcd_greatest (gcd x y) d 0 (gcd_greatest x y 0 (dvd_zero_is x zx) (dvd_zero_is y zy)) (dvd_zero_is d zd)) in
    omega arith)
    (λ (ed : nat_eq (nat_abs (a.residue -ℤ b.residue)) 0 ≡ false). let l = le_of_dvd (positive d ed) p.2 in omega (arith, ints))
    (cases_Bool (nat_eq (nat_abs (a.residue -ℤ b.residue)) 0)))
    (λ (ey : nat_eq (mod_of b) 0 ≡ false). let l = le_of_dvd (positive y ey) p.1 in omega (arith, ints))
    (cases_Bool (nat_eq (mod_of b) 0)))
    (λ (ex : nat_eq (mod_of a) 0 ≡ false). let l = le_of_dvd (positive x ex) p.0 in omega (arith, ints))
    (cases_Bool (nat_eq (mod_of a) 0))

pub join_form : (a b : Congruence) → IsForm (pos (join_modulus a b)) (reduce (join_modulus a b) a.residue)
join_form a b =
    let g = join_modulus a b in
    let na = a.form.not_negative in
    ⊎_elim
    (λ (e : nat_eq (join_modulus a b) 0 ≡ true).
    let z = eqb-true (join_modulus a b) 0 e in
    let y : mod_of a ≡ 0 = eq-zero_of_zero-dvd (rw z at (join_divides a b).0) in
    let w : IsSigned a.residue = a.form.single (omega (arith, ints)) in
    rw (z, reduce_zero 0 a.residue refl) (single_form a.residue w))
    (λ (e : nat_eq (join_modulus a b) 0 ≡ false). reduced_form (join_modulus a b) a.residue (positive (join_modulus a b) e) (join_modulus_le a b))
    (cases_Bool (nat_eq (join_modulus a b) 0))
