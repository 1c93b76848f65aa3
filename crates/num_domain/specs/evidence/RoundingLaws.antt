-- Rounding goes outward, and keeps the order.
use Rattle.std.specs.Prelude.{ℤ, ◌≤ℤ◌, int_le, cond, List, [], ◌∷◌}
use Rattle.std.specs.Int.{int_min, int_max}
use Rattle.std.proofs.Common.{arith}
use Rattle.std.proofs.lemmas.Int.{ints, clamps}
use Rattle.std.proofs.lemmas.Bool.{cond_both}
use Rattle.viper_word.specs.Words.{least_signed, greatest_signed}
use Rattle.num_domain.specs.Rounding.{below, above}
use Rattle.viper_word.proofs.Integers.{le_true, le_false}

pub below_low : (ts : List ℤ) (n : ℤ) → least_signed ≤ℤ below ts n
unfolding below
below_low [] n = omega (arith, ints)
below_low (t ∷ ts) n =
    let h = below_low ts n in
    cond_both (int_le t n) (int_max t (below ts n)) (below ts n) (λ r. least_signed ≤ℤ r) (λ e. omega (arith, ints, clamps)) (λ e. h)

pub below_le_self : (ts : List ℤ) (n : ℤ) → least_signed ≤ℤ n → below ts n ≤ℤ n
unfolding below
below_le_self [] n l = l
below_le_self (t ∷ ts) n l =
    let h = below_le_self ts n l in
    cond_both (int_le t n) (int_max t (below ts n)) (below ts n) (λ r. r ≤ℤ n) (λ e. let f = le_true t n e in omega (arith, ints, clamps)) (λ e. h)

pub below_mono : (ts : List ℤ) (n n' : ℤ) → n ≤ℤ n' → below ts n ≤ℤ below ts n'
unfolding below
below_mono [] n n' l = omega (arith, ints)
below_mono (t ∷ ts) n n' l =
    let h = below_mono ts n n' l in
    cond_both (int_le t n) (int_max t (below ts n)) (below ts n) (λ r. r ≤ℤ cond (int_le t n') (int_max t (below ts n')) (below ts n'))
    (λ e. let f = le_true t n e in
    cond_both (int_le t n') (int_max t (below ts n')) (below ts n') (λ r. int_max t (below ts n) ≤ℤ r) (λ g. omega (arith, ints, clamps)) (λ g. let i = le_false t n' g in absurd (omega (arith, ints))))
    (λ e. cond_both (int_le t n') (int_max t (below ts n')) (below ts n') (λ r. below ts n ≤ℤ r) (λ g. omega (arith, ints, clamps)) (λ g. h))

pub above_high : (ts : List ℤ) (n : ℤ) → above ts n ≤ℤ greatest_signed
unfolding above
above_high [] n = omega (arith, ints)
above_high (t ∷ ts) n =
    let h = above_high ts n in
    cond_both (int_le n t) (int_min t (above ts n)) (above ts n) (λ r. r ≤ℤ greatest_signed) (λ e. omega (arith, ints, clamps)) (λ e. h)

pub above_ge_self : (ts : List ℤ) (n : ℤ) → n ≤ℤ greatest_signed → n ≤ℤ above ts n
unfolding above
above_ge_self [] n l = l
above_ge_self (t ∷ ts) n l =
    let h = above_ge_self ts n l in
    cond_both (int_le n t) (int_min t (above ts n)) (above ts n) (λ r. n ≤ℤ r) (λ e. let f = le_true n t e in omega (arith, ints, clamps)) (λ e. h)

pub above_mono : (ts : List ℤ) (n n' : ℤ) → n ≤ℤ n' → above ts n ≤ℤ above ts n'
unfolding above
above_mono [] n n' l = omega (arith, ints)
above_mono (t ∷ ts) n n' l =
    let h = above_mono ts n n' l in
    cond_both (int_le n' t) (int_min t (above ts n')) (above ts n') (λ r. cond (int_le n t) (int_min t (above ts n)) (above ts n) ≤ℤ r)
    (λ e. let f = le_true n' t e in
    cond_both (int_le n t) (int_min t (above ts n)) (above ts n) (λ r. r ≤ℤ int_min t (above ts n')) (λ g. omega (arith, ints, clamps)) (λ g. let i = le_false n t g in absurd (omega (arith, ints))))
    (λ e. cond_both (int_le n t) (int_min t (above ts n)) (above ts n) (λ r. r ≤ℤ above ts n') (λ g. omega (arith, ints, clamps)) (λ g. h))
