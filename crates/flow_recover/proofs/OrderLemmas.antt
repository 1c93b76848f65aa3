-- A list has one order in which it ascends.
use Rattle.std.proofs.Common.{◌≡◌, ℕ, suc, ◌+◌, ◌<◌, ◌≤◌, ℤ, pos, ◌≤ℤ◌, ◌<ℤ◌, int_le, int_lt, true, false, cond, List, [], ◌∷◌, length, get_or, refl, sym, ap, ap₂, ◌∙◌, ⊎_elim, arith}
use Rattle.std.proofs.lemmas.Bool.{cases_Bool, cond_both}
use Rattle.std.proofs.lemmas.Int.{ints}
use Rattle.std.proofs.lemmas.Cmp.{int_cmp_total}
use Rattle.std.proofs.lemmas.List.Sorted.{ranks_by, sorted_far, sum_by-IsPermutation}
use Rattle.std.proofs.lemmas.List.Sums.{sum_by-cons}
use Rattle.std.specs.List.{AllByRecursion, sum_by}
use Rattle.std.specs.List.Sorted.{IsPermutation, IsSorted}
use Rattle.std.specs.Ordering.{int_cmp, int_eq, is_lt}
use Rattle.viper_word.proofs.Integers.{le_true, le_false, less_true}
use Rattle.flow_recover.specs.Thresholds.{placed, in_order}
use Rattle.num_domain.proofs.ThresholdLemmas.{not_under}

-- each number is at most those after it
abbrev pub Rises : List ℤ → Type 0
Rises [] = Unit {0}
Rises (x ∷ xs) = AllByRecursion (λ y. x ≤ℤ y) xs × Rises xs

-- how often the number is in the list
once : ℤ → ℤ → ℕ
once q x = cond (int_eq q x) 1 0

abbrev count : ℤ → List ℤ → ℕ
count q [] = 0
count q (x ∷ xs) = once q x + count q xs

count_is : (q : ℤ) (xs : List ℤ) → sum_by (once q) xs ≡ count q xs
count_is q [] = refl
count_is q (x ∷ xs) = sum_by-cons (once q) x xs ∙ ap (λ n. once q x + n) (count_is q xs)

equal_test : (q : ℤ) → int_eq q q ≡ true
equal_test q = grind (arith, ints)

apart_test : (q x : ℤ) → q <ℤ x → int_eq q x ≡ false
apart_test q x h = grind (arith, ints)

once_same : (q : ℤ) → once q q ≡ 1
unfolding once
once_same q = ap (λ b. cond b 1 0) (equal_test q)

once_apart : (q x : ℤ) → q <ℤ x → once q x ≡ 0
unfolding once
once_apart q x h = ap (λ b. cond b 1 0) (apart_test q x h)

none_above : (q x : ℤ) (xs : List ℤ) → q <ℤ x → AllByRecursion (λ y. x ≤ℤ y) xs → count q xs ≡ 0
none_above q x [] h a = refl
none_above q x (y ∷ ys) h a =
    let l = a.0 in
    ap₂ ◌+◌ (once_apart q y (omega (arith, ints))) (none_above q x ys h a.1)

neither : (x y : ℤ) → int_lt x y ≡ false → int_lt y x ≡ false → x ≡ y
neither x y h k = grind (arith, ints)

not_below : (x : ℤ) (xs : List ℤ) (y : ℤ) (ys : List ℤ) → AllByRecursion (λ z. y ≤ℤ z) ys
    → once x x + count x xs ≡ once x y + count x ys → x <ℤ y → ⊥
not_below x xs y ys s e l =
    let one = once_same x in
    let here = once_apart x y l in
    let rest = none_above x y ys l s in
    absurd (omega arith)

cancelled : (a b c d : ℕ) → a + b ≡ c + d → a ≡ c → b ≡ d
cancelled a b c d h e = omega arith

some_not_none : (a b : ℕ) → a ≡ 1 → 0 ≡ a + b → ⊥
some_not_none a b h e = absurd (omega arith)

one_order : (xs ys : List ℤ) → Rises xs → Rises ys → ((q : ℤ) → count q xs ≡ count q ys) → xs ≡ ys
one_order [] [] r s c = refl
one_order [] (y ∷ ys) r s c = absurd (some_not_none (once y y) (count y ys) (once_same y) (c y))
one_order (x ∷ xs) [] r s c = absurd (some_not_none (once x x) (count x xs) (once_same x) (sym (c x)))
one_order (x ∷ xs) (y ∷ ys) r s c =
    let same : x ≡ y = ⊎_elim (λ (l : int_lt x y ≡ true). absurd (not_below x xs y ys s.0 (c x) (less_true x y l)))
    (λ (l : int_lt x y ≡ false). ⊎_elim (λ (m : int_lt y x ≡ true). absurd (not_below y ys x xs r.0 (sym (c y)) (less_true y x m))) (λ (m : int_lt y x ≡ false). neither x y l m) (cases_Bool (int_lt y x)))
    (cases_Bool (int_lt x y)) in
    let rest : xs ≡ ys = one_order xs ys r.1 s.1 (λ q. cancelled (once q x) (count q xs) (once q y) (count q ys) (c q) (ap (once q) same)) in
    λ i. same i ∷ rest i

-- ---- putting numbers in their places

all_placed : (P : ℤ → Type 0) (n : ℤ) (ms : List ℤ) → P n → AllByRecursion P ms → AllByRecursion P (placed n ms)
all_placed P n [] h a = (h, tt)
all_placed P n (m ∷ ms) h a =
    cond_both (int_le n m) (n ∷ m ∷ ms) (m ∷ placed n ms) (AllByRecursion P) (λ e. (h, a)) (λ e. (a.0, all_placed P n ms h a.1))

all_from : (n m : ℤ) (ms : List ℤ) → n ≤ℤ m → AllByRecursion (λ y. m ≤ℤ y) ms → AllByRecursion (λ y. n ≤ℤ y) ms
all_from n m [] h a = tt
all_from n m (y ∷ ys) h a =
    let l = a.0 in
    (omega (arith, ints), all_from n m ys h a.1)

placed_rises : (n : ℤ) (ms : List ℤ) → Rises ms → Rises (placed n ms)
placed_rises n [] r = (tt, tt)
placed_rises n (m ∷ ms) r =
    cond_both (int_le n m) (n ∷ m ∷ ms) (m ∷ placed n ms) Rises
    (λ e. let l = le_true n m e in ((l, all_from n m ms l r.0), r))
    (λ e. let l = le_false n m e in (all_placed (λ y. m ≤ℤ y) n ms (omega (arith, ints)) r.0, placed_rises n ms r.1))

in_order_rises : (ns : List ℤ) → Rises (in_order ns)
in_order_rises [] = tt
in_order_rises (n ∷ ns) = placed_rises n (in_order ns) (in_order_rises ns)

count_placed : (q n : ℤ) (ms : List ℤ) → count q (placed n ms) ≡ once q n + count q ms
count_placed q n [] = refl
count_placed q n (m ∷ ms) =
    cond_both (int_le n m) (n ∷ m ∷ ms) (m ∷ placed n ms) (λ l. count q l ≡ once q n + (once q m + count q ms))
    (λ e. refl) (λ e. swapped (once q m) (count q (placed n ms)) (once q n) (count q ms) (count_placed q n ms))
  where
    swapped : (a b c d : ℕ) → b ≡ c + d → a + b ≡ c + (a + d)
    swapped a b c d h = omega arith

count_in_order : (q : ℤ) (ns : List ℤ) → count q (in_order ns) ≡ count q ns
count_in_order q [] = refl
count_in_order q (n ∷ ns) = count_placed q n (in_order ns) ∙ ap (λ c. once q n + c) (count_in_order q ns)

-- ---- what a sort gives

rises_from : (ts : List ℤ) → ((i j : ℕ) → i ≤ j → j < length ts → get_or ts i (pos 0) ≤ℤ get_or ts j (pos 0)) → Rises ts
rises_from [] h = tt
rises_from (t ∷ ts) h = (above ts (λ j l. h 0 (suc j) (omega arith) (omega arith)), rises_from ts (λ i j l m. h (suc i) (suc j) (omega arith) (omega arith)))
  where
    above : (us : List ℤ) → ((j : ℕ) → j < length us → t ≤ℤ get_or us j (pos 0)) → AllByRecursion (λ y. t ≤ℤ y) us
    above [] h = tt
    above (u ∷ us) h = (h 0 (omega arith), above us (λ j l. h (suc j) (omega arith)))

sorted_rises : (ts : List ℤ) → IsSorted int_cmp ts → Rises ts
sorted_rises ts h = rises_from ts (λ i j l m. not_under (get_or ts j (pos 0)) (get_or ts i (pos 0)) (sorted_far (λ x y. is_lt (int_cmp x y)) (ranks_by int_cmp_total (λ (x : ℤ). x)) ts h i j (pos 0) l m))

pub sorted_is : (ns ts : List ℤ) → IsPermutation ns ts → IsSorted int_cmp ts → ts ≡ in_order ns
sorted_is ns ts p h =
    one_order ts (in_order ns) (sorted_rises ts h) (in_order_rises ns)
    (λ q. sym (count_is q ts) ∙ sum_by-IsPermutation (once q) ns ts p ∙ count_is q ns ∙ sym (count_in_order q ns))
