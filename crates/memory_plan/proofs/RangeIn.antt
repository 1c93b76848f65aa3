-- The test of a range's numbers is the range.
use Rattle.std.proofs.Common.{◌≡◌, ◌∙◌, ℕ, ◌+◌, ◌*◌, ◌<◌, Bool, true, false, pos, negsuc, ◌+ℤ◌, ◌-ℤ◌, ◌*ℤ◌, ◌≤ℤ◌, eqb, suc, refl, sym, ap, ◌⊎◌, inl, inr, arith}
use Rattle.std.specs.Prelude.{ℤ, unsigned_abs, ◌&&◌, ◌||◌, int_le}
use Rattle.std.specs.Int.{int_rem_euclid}
use Rattle.std.proofs.lemmas.Int.{int_rem_euclid_is}
use Rattle.std.proofs.lemmas.Bool.Decides.{Decides-int_eq}
use Rattle.std.proofs.Math.Nat.{mul-mod_left}
use Rattle.std.specs.Ordering.{int_eq}
use Rattle.std.proofs.lemmas.Int.{ints}
use Rattle.std.proofs.lemmas.Bool.{or_cases, and_parts}
use Rattle.viper_word.specs.Ranges.{NumberRange, OnStep, IsIn, IsSingle, IsSeveral, IsNormal}
use Rattle.memory_plan.specs.Numbers.{leads, range_has}
use Rattle.viper_word.proofs.Integers.{le_true, true_le, eq_true}
use Rattle.viper_word.proofs.Products.{plus_times}
use Rattle.memory_plan.proofs.RangeLemmas.{quotient, is_pos, zero_size, both_steps}
use Rattle.viper_word.proofs.RangeLemmas.{low_step}

-- a number that steps from the lower end lead to is in the range
step_there : (r : NumberRange) (n : ℤ) → IsSingle r ⊎ IsSeveral r → r.lo ≤ℤ n → n ≤ℤ r.hi → (int_eq n r.lo ≡ true) ⊎ (leads r.lo n r.modulus ≡ true) → OnStep r.modulus r.residue n
step_there r n form low high (inl e) = let there = low_step r form in record { steps = there.steps; holds = eq_true n r.lo e ∙ there.holds }
step_there r n (inl one) low high (inr e) =
    let there = low_step r (inl one) in
    let same : n ≡ r.lo = omega (arith, ints, one.ends, low, high) in
    record { steps = there.steps; holds = same ∙ there.holds }
step_there r n (inr many) low high (inr e) =
    let s = is_pos r.modulus many.modulus in
    let even : int_rem_euclid (n -ℤ r.lo) (pos s.0) ≡ pos 0 = zero_size (int_rem_euclid (n -ℤ r.lo) (pos s.0)) (rw s.1 at e) in
    let gap = quotient (n -ℤ r.lo) s.0 s.2 in
    let from = rw s.1 at many.from.holds in
    let there = both_steps r.lo n r.residue (int_rem_euclid (n -ℤ r.lo) (pos s.0)) many.from.steps gap.0 s.0 from gap.1 even in
    record { steps = many.from.steps +ℤ gap.0; holds = there ∙ ap (λ (m : ℤ). r.residue +ℤ ((many.from.steps +ℤ gap.0) *ℤ m)) (sym s.1) }

pub test_is_in : (r : NumberRange) (n : ℤ) → IsNormal r → range_has r n ≡ true → IsIn r n
test_is_in r n normal h =
    let all = and_parts (int_le r.lo n && int_le n r.hi) (int_eq n r.lo || leads r.lo n r.modulus) h in
    let ends = and_parts (int_le r.lo n) (int_le n r.hi) all.0 in
    let low = le_true r.lo n ends.0 in
    let high = le_true n r.hi ends.1 in
    record { low = low; high = high; step = step_there r n normal.form low high (or_cases (int_eq n r.lo) (leads r.lo n r.modulus) all.1) }

-- ---- and the other way round

multiple : (z : ℤ) (d : ℤ) (m : ℕ) → 0 < m → z ≡ d *ℤ pos m → pos 0 ≤ℤ z → int_rem_euclid z (pos m) ≡ pos 0
multiple z (pos a) m some e low =
    let p : z +ℤ pos (0 * m) ≡ pos (a * m) = omega (arith, ints, e) in
    int_rem_euclid_is z (pos m) m 0 (a * m) some refl p ∙ ap pos (mul-mod_left a m)
multiple z (negsuc b) m some e low =
    let p : suc b * m ≡ b * m + m = omega arith in
    absurd (omega (arith, ints, e, p, low))

leads_there : (r : NumberRange) (n : ℤ) → IsSeveral r → r.lo ≤ℤ n → (k : ℤ) → n ≡ r.residue +ℤ (k *ℤ r.modulus) → leads r.lo n r.modulus ≡ true
leads_there r n many low k e =
    let s = is_pos r.modulus many.modulus in
    let j = many.from.steps in
    let from = rw s.1 at many.from.holds in
    let to = rw s.1 at e in
    let d : ℤ = k -ℤ j in
    let split : k ≡ j +ℤ d = omega (arith, ints) in
    let both = ap (λ (q : ℤ). q *ℤ pos s.0) split ∙ plus_times j d (pos s.0) in
    let gap : n -ℤ r.lo ≡ d *ℤ pos s.0 = omega (arith, ints, from, to, both) in
    let even = multiple (n -ℤ r.lo) d s.0 s.2 gap (omega (arith, ints, low)) in
    rw s.1 (ap (λ (z : ℤ). eqb (unsigned_abs z) 0) even)

pub in_is_test : (r : NumberRange) (n : ℤ) → IsNormal r → IsIn r n → range_has r n ≡ true
in_is_test r n normal h =
    all_true (int_le r.lo n) (int_le n r.hi) (int_eq n r.lo) (leads r.lo n r.modulus) (true_le r.lo n h.low) (true_le n r.hi h.high) (by_form normal.form)
  where
    all_true : (a b c d : Bool) → a ≡ true → b ≡ true → (c ≡ true) ⊎ (d ≡ true) → (a && b && (c || d)) ≡ true
    all_true a b c d e f (inl g) = rw (e, f, g) refl
    all_true a b true d e f (inr g) = rw (e, f) refl
    all_true a b false d e f (inr g) = rw (e, f, g) refl

    by_form : IsSingle r ⊎ IsSeveral r → (int_eq n r.lo ≡ true) ⊎ (leads r.lo n r.modulus ≡ true)
    by_form (inl one) = let low = h.low in let high = h.high in let same : n ≡ r.lo = omega (arith, ints, one.ends, low, high) in inl ((Decides-int_eq n r.lo).1 same)
    by_form (inr many) = inr (leads_there r n many h.low h.step.steps h.step.holds)

-- the lower end of a range is in it
pub low_is_in : (r : NumberRange) → IsNormal r → IsIn r r.lo
low_is_in r normal = record { low = omega (arith, ints); high = ends normal.form; step = low_step r normal.form }
  where
    ends : IsSingle r ⊎ IsSeveral r → r.lo ≤ℤ r.hi
    ends (inl one) = omega (arith, ints, one.ends)
    ends (inr many) = omega (arith, ints, many.ends)
