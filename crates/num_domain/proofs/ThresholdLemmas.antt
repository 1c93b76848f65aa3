-- What halving finds among thresholds is what rounding means.
use Rattle.std.specs.Prelude.{◌≡◌, ℕ, ◌<◌, ◌≤◌, ◌-◌, ℤ, pos, ◌≤ℤ◌, ◌<ℤ◌, int_le, int_lt, nat_le, ◌⊎◌, true, false, List, [], ◌∷◌, length, filter, slice_index_or}
use Rattle.std.specs.Int.{int_min, int_max}
use Rattle.std.proofs.Common.{refl, sym, ◌∙◌, arith, zero, suc, ⊎_elim, inl, inr}
use Rattle.std.proofs.lemmas.Int.{ints, clamps}
use Rattle.std.proofs.lemmas.Bool.{cond_both, cases_Bool, leb-true, leb-false, false≢true}
use Rattle.viper_word.specs.Words.{IsSigned, least_signed, greatest_signed, is_signed}
use Rattle.std.specs.List.{All}
use Rattle.std.specs.List.Sorted.{IsPermutation, IsSorted}
use Rattle.std.specs.Ordering.{is_lt, int_cmp}
use Rattle.std.proofs.lemmas.Cmp.{int_cmp_total}
use Rattle.std.proofs.lemmas.List.Elements.{All-nil, All-cons, All-append, All-weaker, All-get_or, Contains-append_right, Contains-get_or, at_from_Contains, filter_passes}
use Rattle.std.proofs.lemmas.List.Sorted.{All-permutation, Contains-permutation, ranks_by, sorted_far}
use Rattle.num_domain.specs.Rounding.{with_ends, below, above, IsThresholds}
use Rattle.viper_word.proofs.Integers.{le_true, le_false, is_signed_true, less_false}

le-or-lt : (a b : ℕ) → (a ≤ b) ⊎ (b < a)
le-or-lt a b = ⊎_elim (λ (e : nat_le a b ≡ true). inl (leb-true a b e)) (λ (e : nat_le a b ≡ false). inr (leb-false a b e)) (cases_Bool (nat_le a b))

pub int_same : (x y : ℤ) → x ≤ℤ y → y ≤ℤ x → x ≡ y
int_same x y h k = omega (arith, ints)

-- each threshold is the signed value of a word
pub threshold_signed : (ts : List ℤ) (k : ℕ) → IsThresholds ts → k < length ts → IsSigned (slice_index_or ts k (pos 0))
threshold_signed ts k h l =
    let a = h.rising 0 k (omega arith) l in
    let b = h.rising k (length ts - 1) (omega arith) (omega arith) in
    let f = h.first in
    let g = h.last in
    record { low = omega (arith, ints); high = omega (arith, ints) }

-- ---- rounding down

pub below_at : (ts : List ℤ) (n : ℤ) (k : ℕ) → k < length ts → slice_index_or ts k (pos 0) ≤ℤ n → slice_index_or ts k (pos 0) ≤ℤ below ts n
unfolding below
below_at [] n k h l = absurd (omega arith)
below_at (t ∷ ts) n zero h l =
    cond_both (int_le t n) (int_max t (below ts n)) (below ts n) (λ r. t ≤ℤ r) (λ e. omega (arith, ints, clamps)) (λ e. let f = le_false t n e in absurd (omega (arith, ints)))
below_at (t ∷ ts) n (suc k) h l =
    let i = below_at ts n k (omega arith) l in
    cond_both (int_le t n) (int_max t (below ts n)) (below ts n) (λ r. slice_index_or ts k (pos 0) ≤ℤ r) (λ e. omega (arith, ints, clamps)) (λ e. i)

pub below_le : (ts : List ℤ) (n r : ℤ) → least_signed ≤ℤ r → ((k : ℕ) → k < length ts → slice_index_or ts k (pos 0) ≤ℤ n → slice_index_or ts k (pos 0) ≤ℤ r) → below ts n ≤ℤ r
unfolding below
below_le [] n r h f = h
below_le (t ∷ ts) n r h f =
    let i = below_le ts n r h (λ k l m. f (suc k) (omega arith) m) in
    cond_both (int_le t n) (int_max t (below ts n)) (below ts n) (λ x. x ≤ℤ r)
    (λ e. let g : t ≤ℤ r = f 0 (omega arith) (le_true t n e) in omega (arith, ints, clamps))
    (λ e. i)

-- the last number up to n
pub below_is : (ts : List ℤ) (n : ℤ) (low : ℕ) → IsThresholds ts → low < length ts → slice_index_or ts low (pos 0) ≤ℤ n → ((k : ℕ) → low < k → k < length ts → n <ℤ slice_index_or ts k (pos 0)) → slice_index_or ts low (pos 0) ≡ below ts n
below_is ts n low h l m f =
    let w = (threshold_signed ts low h l).low in
    int_same (slice_index_or ts low (pos 0)) (below ts n) (below_at ts n low l m)
    (below_le ts n (slice_index_or ts low (pos 0)) w (λ k p q. last ts n low h l f k p q))
  where
    last : (ts : List ℤ) (n : ℤ) (low : ℕ) → IsThresholds ts → low < length ts → ((k : ℕ) → low < k → k < length ts → n <ℤ slice_index_or ts k (pos 0)) → (k : ℕ) → k < length ts → slice_index_or ts k (pos 0) ≤ℤ n → slice_index_or ts k (pos 0) ≤ℤ slice_index_or ts low (pos 0)
    last ts n low h l f k p q =
        ⊎_elim (λ (e : k ≤ low). h.rising k low e l) (λ (e : low < k). let g = f k e p in absurd (omega (arith, ints))) (le-or-lt k low)

-- ---- rounding up

pub above_at : (ts : List ℤ) (n : ℤ) (k : ℕ) → k < length ts → n ≤ℤ slice_index_or ts k (pos 0) → above ts n ≤ℤ slice_index_or ts k (pos 0)
unfolding above
above_at [] n k h l = absurd (omega arith)
above_at (t ∷ ts) n zero h l =
    cond_both (int_le n t) (int_min t (above ts n)) (above ts n) (λ r. r ≤ℤ t) (λ e. omega (arith, ints, clamps)) (λ e. let f = le_false n t e in absurd (omega (arith, ints)))
above_at (t ∷ ts) n (suc k) h l =
    let i = above_at ts n k (omega arith) l in
    cond_both (int_le n t) (int_min t (above ts n)) (above ts n) (λ r. r ≤ℤ slice_index_or ts k (pos 0)) (λ e. omega (arith, ints, clamps)) (λ e. i)

pub above_ge : (ts : List ℤ) (n r : ℤ) → r ≤ℤ greatest_signed → ((k : ℕ) → k < length ts → n ≤ℤ slice_index_or ts k (pos 0) → r ≤ℤ slice_index_or ts k (pos 0)) → r ≤ℤ above ts n
unfolding above
above_ge [] n r h f = h
above_ge (t ∷ ts) n r h f =
    let i = above_ge ts n r h (λ k l m. f (suc k) (omega arith) m) in
    cond_both (int_le n t) (int_min t (above ts n)) (above ts n) (λ x. r ≤ℤ x)
    (λ e. let g : r ≤ℤ t = f 0 (omega arith) (le_true n t e) in omega (arith, ints, clamps))
    (λ e. i)

-- the first number from n on
pub above_is : (ts : List ℤ) (n : ℤ) (high : ℕ) → IsThresholds ts → high < length ts → n ≤ℤ slice_index_or ts high (pos 0) → ((k : ℕ) → k < high → slice_index_or ts k (pos 0) <ℤ n) → slice_index_or ts high (pos 0) ≡ above ts n
above_is ts n high h l m f =
    let w = (threshold_signed ts high h l).high in
    int_same (slice_index_or ts high (pos 0)) (above ts n)
    (above_ge ts n (slice_index_or ts high (pos 0)) w (λ k p q. first ts n high h l f k p q)) (above_at ts n high l m)
  where
    first : (ts : List ℤ) (n : ℤ) (high : ℕ) → IsThresholds ts → high < length ts → ((k : ℕ) → k < high → slice_index_or ts k (pos 0) <ℤ n) → (k : ℕ) → k < length ts → n ≤ℤ slice_index_or ts k (pos 0) → slice_index_or ts high (pos 0) ≤ℤ slice_index_or ts k (pos 0)
    first ts n high h l f k p q =
        ⊎_elim (λ (e : high ≤ k). h.rising high k e p) (λ (e : k < high). let g = f k e in absurd (omega (arith, ints))) (le-or-lt high k)

-- ---- sorting

pub not_under : (x y : ℤ) → is_lt (int_cmp x y) ≡ false → y ≤ℤ x
not_under x y h =
    ⊎_elim (λ (e : int_lt x y ≡ true). let f : is_lt (int_cmp x y) ≡ true = rw e refl in absurd (false≢true (sym h ∙ f)))
    (λ (e : int_lt x y ≡ false). less_false x y e) (cases_Bool (int_lt x y))

sorted_rises : (ts : List ℤ) → IsSorted int_cmp ts → (i j : ℕ) → i ≤ j → j < length ts → slice_index_or ts i (pos 0) ≤ℤ slice_index_or ts j (pos 0)
sorted_rises ts h i j e l = not_under (slice_index_or ts j (pos 0)) (slice_index_or ts i (pos 0)) (sorted_far (λ x y. is_lt (int_cmp x y)) (ranks_by int_cmp_total (λ (x : ℤ). x)) ts h i j (pos 0) e l)

with_ends_signed : (ns : List ℤ) → All IsSigned (with_ends ns)
with_ends_signed ns =
    All-append IsSigned (filter is_signed ns) (least_signed ∷ greatest_signed ∷ [])
    (All-weaker (λ x. is_signed x ≡ true) IsSigned (λ x e. is_signed_true x e) (filter is_signed ns) (filter_passes is_signed ns))
    (All-cons IsSigned least_signed (greatest_signed ∷ []) (record { low = omega (arith, ints); high = omega (arith, ints) })
    (All-cons IsSigned greatest_signed [] (record { low = omega (arith, ints); high = omega (arith, ints) }) (All-nil IsSigned)))

pub sorted_thresholds : (ns ts : List ℤ) → IsPermutation (with_ends ns) ts → IsSorted int_cmp ts → IsThresholds ts
sorted_thresholds ns ts p h =
    let rises = sorted_rises ts h in
    let all = All-permutation IsSigned (with_ends ns) ts p (with_ends_signed ns) in
    let low = at_from_Contains ts least_signed (Contains-permutation (with_ends ns) ts least_signed p (Contains-append_right (filter is_signed ns) (least_signed ∷ greatest_signed ∷ []) least_signed (Contains-get_or (least_signed ∷ greatest_signed ∷ []) 0 (pos 0) (omega arith)))) in
    let high = at_from_Contains ts greatest_signed (Contains-permutation (with_ends ns) ts greatest_signed p (Contains-append_right (filter is_signed ns) (least_signed ∷ greatest_signed ∷ []) greatest_signed (Contains-get_or (least_signed ∷ greatest_signed ∷ []) 1 (pos 0) (omega arith)))) in
    let low_in = low.1 in
    let high_in = high.1 in
    let low_is : slice_index_or ts low.0 (pos 0) ≡ least_signed = low.2 (pos 0) in
    let high_is : slice_index_or ts high.0 (pos 0) ≡ greatest_signed = high.2 (pos 0) in
    let first = All-get_or IsSigned ts 0 (pos 0) (omega arith) all in
    let last = All-get_or IsSigned ts (length ts - 1) (pos 0) (omega arith) all in
    let under = rises 0 low.0 (omega arith) low_in in
    let over = rises high.0 (length ts - 1) (omega arith) (omega arith) in
    record { some = omega arith; first = omega (arith, ints); last = omega (arith, ints); rising = rises }
