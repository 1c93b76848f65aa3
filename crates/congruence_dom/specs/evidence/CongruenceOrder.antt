-- Congruences by divisors: the order, the members, and what is made.
use Rattle.std.specs.Prelude.{◌≡◌, ℕ, ◌<◌, ◌≤◌, ◌-◌, ◌^◌, ℤ, pos, ◌-ℤ◌, ◌≤ℤ◌, ◌<ℤ◌, ◌⊎◌, Bool, true, false, ◌&&◌, cond, int_le, nat_abs, nat_eq, Option, Some, IsSomeAnd, IfSome}
use Rattle.std.specs.Int.{◌∣◌, int_min, int_max}
use Rattle.std.proofs.Common.{refl, sym, subst, arith, ⊎_elim, inl, inr, ◌∙◌}
use Rattle.std.proofs.Math.Dec.{T_prop}
use Rattle.std.proofs.Math.Nat.{dvd_trans, dvd-zero, dvd_antisymm, le_of_dvd, dvd_refl, eq-zero_of_zero-dvd, pos_of_dvd_of_pos}
use Rattle.std.proofs.lemmas.Int.{ints, clamps}
use Rattle.std.proofs.lemmas.Bool.{and_parts, and_from, cases_Bool, false≢true, eqb-true, cond_both}
use Rattle.std.proofs.lemmas.Bool.Decides.{nat_tests}
use Rattle.viper_word.specs.Words.{least_signed, greatest_signed, IsSigned, is_signed}
use Rattle.num_domain.specs.Domain.{Has, Below, BelowOption}
use Rattle.viper_word.proofs.Options.{some_bind, all_bind, some_when, all_when, some_some}
use Rattle.viper_word.proofs.Integers.{le_true, le_false, true_le, lt_false, is_signed_true, true_is_signed}
use Rattle.viper_word.specs.Divisors.{gcd}
use Rattle.viper_word.proofs.Gcd.{gcd_greatest}
use Rattle.viper_word.specs.Divisors.{Divides, divides}
use Rattle.viper_word.proofs.Multiples.{Divides-sum, Divides-difference, Divides-zero, Divides-neg_is, Divides_is, Divides_trans, divides_true, true_divides, small_multiple}
use Rattle.congruence_dom.specs.Form.{IsForm}
use Rattle.congruence_dom.specs.Residues.{mod_of, reduce, is_small, next_from, next_to, join_modulus}
use Rattle.congruence_dom.specs.evidence.Forms.{positive, reduce_divides, reduce_bounds, reduce_zero, reduced_form, small_parts, small_from, large_cases}
use Rattle.congruence_dom.specs.Congruences.{congruence, congruence_if, make_when, make, join, least_from, greatest_to, narrow, congruences}
use Rattle.congruence_dom.specs.declared.congruence.Congruence.{Congruence}

-- ---- the order and the members, by divisors

pub has_parts : (a : Congruence) (n : ℤ) → Has congruences a n → IsSigned n × Divides (mod_of a) (n -ℤ a.residue)
has_parts a n h =
    let p = and_parts (is_signed n) (divides (mod_of a) (nat_abs (n -ℤ a.residue))) h.holds in
    (is_signed_true n p.0, record { holds = divides_true (mod_of a) (nat_abs (n -ℤ a.residue)) p.1 })

pub parts_has : (a : Congruence) (n : ℤ) → IsSigned n → Divides (mod_of a) (n -ℤ a.residue) → Has congruences a n
parts_has a n w d = record { holds = and_from (is_signed n) (divides (mod_of a) (nat_abs (n -ℤ a.residue))) (true_is_signed n w) (true_divides (mod_of a) (nat_abs (n -ℤ a.residue)) d.holds) }

-- all members of a are members of b, by moduli and residues
pub record Contained (a b : Congruence) : Type 0 where
  pub modulus : mod_of b ∣ mod_of a
  pub residue : Divides (mod_of b) (a.residue -ℤ b.residue)

pub below_parts : (a b : Congruence) → Below congruences a b → Contained a b
below_parts a b h =
    let p = and_parts (divides (mod_of b) (mod_of a)) (divides (mod_of b) (nat_abs (a.residue -ℤ b.residue))) h.holds in
    record { modulus = divides_true (mod_of b) (mod_of a) p.0; residue = record { holds = divides_true (mod_of b) (nat_abs (a.residue -ℤ b.residue)) p.1 } }

pub parts_below : (a b : Congruence) → mod_of b ∣ mod_of a → Divides (mod_of b) (a.residue -ℤ b.residue) → Below congruences a b
parts_below a b h d = record { holds = and_from (divides (mod_of b) (mod_of a)) (divides (mod_of b) (nat_abs (a.residue -ℤ b.residue))) (true_divides (mod_of b) (mod_of a) h) (true_divides (mod_of b) (nat_abs (a.residue -ℤ b.residue)) d.holds) }

-- a single value is below each value that has it
pub single_below : (z : ℤ) (h : IsForm (pos 0) z) (b : Congruence) → Has congruences b z → Below congruences (congruence (pos 0) z h) b
single_below z h b k = parts_below (congruence (pos 0) z h) b (dvd-zero (mod_of b)) (has_parts b z k).1

-- two congruences with the same fields are the same
pub form_prop : (m r : ℤ) → IsProp (IsForm m r)
form_prop m r = hlevel T_prop

pub same_from : (a : Congruence) (m r : ℤ) → a.modulus ≡ m → a.residue ≡ r → (e : IsForm m r) → a ≡ congruence m r e
same_from a m r p q =
    subst (λ (y : ℤ). (e : IsForm m y) → a ≡ congruence m y e) q
    (subst (λ (x : ℤ). (e : IsForm x a.residue) → a ≡ congruence x a.residue e) p (λ e i. congruence a.modulus a.residue (form_prop a.modulus a.residue a.form e i)))

pub same_parts : (a b : Congruence) → a.modulus ≡ b.modulus → a.residue ≡ b.residue → a ≡ b
same_parts a b h k = same_from a b.modulus b.residue h k b.form

-- ---- what is made

pub next_divides : (m : ℕ) (z n : ℤ) → Divides m (next_from m z n -ℤ z)
next_divides m z n = Divides-neg_is m (z -ℤ n -ℤ reduce m (z -ℤ n)) (next_from m z n -ℤ z) (reduce_divides m (z -ℤ n)) (omega (arith, ints))

pub next_to_divides : (m : ℕ) (z n : ℤ) → Divides m (next_to m z n -ℤ z)
next_to_divides m z n = Divides_is m (n -ℤ z -ℤ reduce m (n -ℤ z)) (next_to m z n -ℤ z) (reduce_divides m (n -ℤ z)) (omega (arith, ints))

pub reduced_below : (m : ℕ) (y z : ℤ) → Divides m (y -ℤ z) → Divides m (y -ℤ reduce m z)
reduced_below m y z h = Divides-sum m (y -ℤ z) (z -ℤ reduce m z) (y -ℤ reduce m z) h (reduce_divides m z) (omega (arith, ints))

-- at a large modulus, or at 0, there is at most one member that a word can hold
pub alone : (m : ℕ) (z n : ℤ) → is_small m ≡ false → IsSigned n → Divides m (n -ℤ z) → next_from m z least_signed ≡ n
alone m z n e w d =
    let k = next_from m z least_signed in
    let f : Divides m (k -ℤ n) = Divides-difference m (k -ℤ z) (n -ℤ z) (k -ℤ n) (next_divides m z least_signed) d (omega (arith, ints)) in
    let lo = w.low in
    let hi = w.high in
    ⊎_elim
    (λ (o : m ≡ 0). let g = eq-zero_of_zero-dvd (subst (λ (x : ℕ). x ∣ nat_abs (next_from m z least_signed -ℤ n)) o f.holds) in omega (arith, ints))
    (λ (o : 2 ^ 32 - 1 < m).
    let b = reduce_bounds m (z -ℤ least_signed) (omega arith) in
    let g = small_multiple m (k -ℤ n) f (omega (arith, ints)) in
    omega (arith, ints))
    (large_cases m e)

pub congruence_if_has : (m r : ℤ) (b : Bool) (h : b ≡ true → IsForm m r) (n : ℤ) → b ≡ true → IsSigned n → Divides (nat_abs m) (n -ℤ r) → IsSomeAnd (congruence_if m r b h) (λ c. Has congruences c n)
congruence_if_has m r true h n e w d = parts_has (congruence m r (h refl)) n w d
congruence_if_has m r false h n e w d = absurd (false≢true e)

pub make_when_has : (m : ℕ) (z : ℤ) (b : Bool) (e : is_small m ≡ b) (n : ℤ) → IsSigned n → Divides m (n -ℤ z) → IsSomeAnd (make_when m z b e) (λ c. Has congruences c n)
make_when_has m z true e n w d = parts_has (congruence (pos m) (reduce m z) (reduced_form m z (small_parts m e).0 (small_parts m e).1)) n w (reduced_below m n z d)
make_when_has m z false e n w d =
    let same = alone m z n e w d in
    congruence_if_has (pos 0) (next_from m z least_signed) (is_signed (next_from m z least_signed)) _ n (rw same (true_is_signed n w)) w (rw same (let f : pos 0 ≡ n -ℤ n = omega (arith, ints) in rw f at (Divides-zero 0)))

pub make_has : (m : ℕ) (z n : ℤ) → IsSigned n → Divides m (n -ℤ z) → IsSomeAnd (make m z) (λ c. Has congruences c n)
unfolding make
make_has m z n w d = make_when_has m z (is_small m) refl n w d

pub congruence_if_single : (z : ℤ) (b : Bool) (h : b ≡ true → IsForm (pos 0) z) (o : Option Congruence) → (b ≡ true → IsSomeAnd o (λ c. Has congruences c z)) → BelowOption congruences (congruence_if (pos 0) z b h) o
congruence_if_single z true h o k = some_some (λ c. Has congruences c z) (λ c. Below congruences (congruence (pos 0) z (h refl)) c) o (k refl) (λ c p. single_below z (h refl) c p)
congruence_if_single z false h o k = tt

pub make_when_mono : (m m' : ℕ) (z z' : ℤ) (b b' : Bool) (e : is_small m ≡ b) (e' : is_small m' ≡ b') → m' ∣ m → Divides m' (z -ℤ z') → BelowOption congruences (make_when m z b e) (make_when m' z' b' e')
make_when_mono m m' z z' true true e e' h d =
    parts_below (congruence (pos m) (reduce m z) (reduced_form m z (small_parts m e).0 (small_parts m e).1)) (congruence (pos m') (reduce m' z') (reduced_form m' z' (small_parts m' e').0 (small_parts m' e').1)) h
    (reduced_below m' (reduce m z) z' (Divides-difference m' (z -ℤ z') (z -ℤ reduce m z) (reduce m z -ℤ z') d (Divides_trans m' m (z -ℤ reduce m z) h (reduce_divides m z)) (omega (arith, ints))))
make_when_mono m m' z z' true false e e' h d =
    let p = small_parts m e in
    let l = le_of_dvd p.0 h in
    absurd (false≢true (sym e' ∙ small_from m' (pos_of_dvd_of_pos h p.0) (omega arith)))
make_when_mono m m' z z' false b' e e' h d =
    let k = next_from m z least_signed in
    congruence_if_single (next_from m z least_signed) (is_signed (next_from m z least_signed)) _ (make_when m' z' b' e')
    (λ t. make_when_has m' z' b' e' (next_from m z least_signed) (is_signed_true (next_from m z least_signed) t)
    (Divides-sum m' (next_from m z least_signed -ℤ z) (z -ℤ z') (next_from m z least_signed -ℤ z') (Divides_trans m' m (next_from m z least_signed -ℤ z) h (next_divides m z least_signed)) d (omega (arith, ints))))

pub make_mono : (m m' : ℕ) (z z' : ℤ) → m' ∣ m → Divides m' (z -ℤ z') → BelowOption congruences (make m z) (make m' z')
unfolding make
make_mono m m' z z' h d = make_when_mono m m' z z' (is_small m) (is_small m') refl refl h d

-- what is made lies below a congruence that divides it
make_when_below : (m : ℕ) (z : ℤ) (b : Bool) (e : is_small m ≡ b) (a : Congruence) → mod_of a ∣ m → Divides (mod_of a) (z -ℤ a.residue) → BelowOption congruences (make_when m z b e) (Some a)
make_when_below m z true e a h d =
    parts_below (congruence (pos m) (reduce m z) (reduced_form m z (small_parts m e).0 (small_parts m e).1)) a h
    (Divides-difference (mod_of a) (z -ℤ a.residue) (z -ℤ reduce m z) (reduce m z -ℤ a.residue) d (Divides_trans (mod_of a) m (z -ℤ reduce m z) h (reduce_divides m z)) (omega (arith, ints)))
make_when_below m z false e a h d =
    congruence_if_single (next_from m z least_signed) (is_signed (next_from m z least_signed)) _ (Some a)
    (λ t. parts_has a (next_from m z least_signed) (is_signed_true (next_from m z least_signed) t)
    (Divides-sum (mod_of a) (next_from m z least_signed -ℤ z) (z -ℤ a.residue) (next_from m z least_signed -ℤ a.residue) (Divides_trans (mod_of a) m (next_from m z least_signed -ℤ z) h (next_divides m z least_signed)) d (omega (arith, ints))))

pub make_below : (m : ℕ) (z : ℤ) (a : Congruence) → mod_of a ∣ m → Divides (mod_of a) (z -ℤ a.residue) → BelowOption congruences (make m z) (Some a)
unfolding make
make_below m z a h d = make_when_below m z (is_small m) refl a h d

-- ---- the least member from a number on, and the greatest up to one

-- no member is passed over
pub next_first : (m : ℕ) (z n x : ℤ) → n ≤ℤ x → Divides m (x -ℤ z) → next_from m z n ≤ℤ x
next_first m z n x h d =
    let k = next_from m z n in
    let f : Divides m (k -ℤ x) = Divides-difference m (k -ℤ z) (x -ℤ z) (k -ℤ x) (next_divides m z n) d (omega (arith, ints)) in
    ⊎_elim
    (λ (e : nat_eq m 0 ≡ true).
    let g = eq-zero_of_zero-dvd (subst (λ (y : ℕ). y ∣ nat_abs (next_from m z n -ℤ x)) (eqb-true m 0 e) f.holds) in omega (arith, ints))
    (λ (e : nat_eq m 0 ≡ false).
    let b = reduce_bounds m (z -ℤ n) (positive m e) in
    ⊎_elim
    (λ (t : int_le (next_from m z n) x ≡ true). le_true (next_from m z n) x t)
    (λ (t : int_le (next_from m z n) x ≡ false).
    let l = le_false (next_from m z n) x t in
    let g = small_multiple m (k -ℤ x) f (omega (arith, ints)) in
    omega (arith, ints))
    (cases_Bool (int_le (next_from m z n) x)))
    (cases_Bool (nat_eq m 0))

pub next_to_first : (m : ℕ) (z n x : ℤ) → x ≤ℤ n → Divides m (x -ℤ z) → x ≤ℤ next_to m z n
next_to_first m z n x h d =
    let k = next_to m z n in
    let f : Divides m (k -ℤ x) = Divides-difference m (k -ℤ z) (x -ℤ z) (k -ℤ x) (next_to_divides m z n) d (omega (arith, ints)) in
    ⊎_elim
    (λ (e : nat_eq m 0 ≡ true).
    let g = eq-zero_of_zero-dvd (subst (λ (y : ℕ). y ∣ nat_abs (next_to m z n -ℤ x)) (eqb-true m 0 e) f.holds) in omega (arith, ints))
    (λ (e : nat_eq m 0 ≡ false).
    let b = reduce_bounds m (n -ℤ z) (positive m e) in
    ⊎_elim
    (λ (t : int_le x (next_to m z n) ≡ true). le_true x (next_to m z n) t)
    (λ (t : int_le x (next_to m z n) ≡ false).
    let l = le_false x (next_to m z n) t in
    let g = small_multiple m (k -ℤ x) f (omega (arith, ints)) in
    omega (arith, ints))
    (cases_Bool (int_le x (next_to m z n))))
    (cases_Bool (nat_eq m 0))

-- not below y: at the modulus 0 the one member, and else the start
pub next_at_least : (m : ℕ) (z n y : ℤ) → y ≤ℤ n → (m ≡ 0 → y ≤ℤ z) → y ≤ℤ next_from m z n
next_at_least m z n y h k =
    ⊎_elim
    (λ (e : nat_eq m 0 ≡ true). let f = eqb-true m 0 e in let g = reduce_zero m (z -ℤ n) f in let l = k f in omega (arith, ints))
    (λ (e : nat_eq m 0 ≡ false). let b = reduce_bounds m (z -ℤ n) (positive m e) in omega (arith, ints))
    (cases_Bool (nat_eq m 0))

pub next_at_most : (m : ℕ) (z n y : ℤ) → n ≤ℤ y → (m ≡ 0 → z ≤ℤ y) → next_to m z n ≤ℤ y
next_at_most m z n y h k =
    ⊎_elim
    (λ (e : nat_eq m 0 ≡ true). let f = eqb-true m 0 e in let g = reduce_zero m (n -ℤ z) f in let l = k f in omega (arith, ints))
    (λ (e : nat_eq m 0 ≡ false). let b = reduce_bounds m (n -ℤ z) (positive m e) in omega (arith, ints))
    (cases_Bool (nat_eq m 0))

-- at the modulus 0 the residue is a word, and the only member
pub single_in_w : (a : Congruence) → mod_of a ≡ 0 → IsSigned a.residue
single_in_w a e = a.form.single (omega (arith, ints))

pub only_member : (m : ℕ) (x z : ℤ) → Divides m (x -ℤ z) → m ≡ 0 → x ≡ z
only_member m x z d e =
    let g = eq-zero_of_zero-dvd (subst (λ (y : ℕ). y ∣ nat_abs (x -ℤ z)) e d.holds) in
    omega (arith, ints)

-- what the two give are members
pub least_is : (a : Congruence) (n : ℤ) → IfSome (least_from a n) (λ k. Has congruences a k × (n ≤ℤ k))
least_is a n =
    let k = next_from (mod_of a) a.residue (int_max n least_signed) in
    all_when (int_le n k && int_le k greatest_signed) (Some k) (λ k. Has congruences a k × (n ≤ℤ k))
    (λ e.
    let p = and_parts (int_le n k) (int_le k greatest_signed) e in
    let lo = le_true n k p.0 in
    let hi = le_true k greatest_signed p.1 in
    (parts_has a k (record { low = next_at_least (mod_of a) a.residue (int_max n least_signed) least_signed (omega (arith, ints, clamps)) (λ z. (single_in_w a z).low); high = hi }) (next_divides (mod_of a) a.residue (int_max n least_signed)), lo))

pub greatest_is : (a : Congruence) (n : ℤ) → IfSome (greatest_to a n) (λ k. Has congruences a k × (k ≤ℤ n))
greatest_is a n =
    let k = next_to (mod_of a) a.residue (int_min n greatest_signed) in
    all_when (int_le least_signed k && int_le k n) (Some k) (λ k. Has congruences a k × (k ≤ℤ n))
    (λ e.
    let p = and_parts (int_le least_signed k) (int_le k n) e in
    let lo = le_true least_signed k p.0 in
    let hi = le_true k n p.1 in
    (parts_has a k (record { low = lo; high = next_at_most (mod_of a) a.residue (int_min n greatest_signed) greatest_signed (omega (arith, ints, clamps)) (λ z. (single_in_w a z).high) }) (next_to_divides (mod_of a) a.residue (int_min n greatest_signed)), hi))

pub least_first : (a : Congruence) (n x : ℤ) → Has congruences a x → n ≤ℤ x → IsSomeAnd (least_from a n) (λ k. k ≤ℤ x)
least_first a n x h l =
    let q = has_parts a x h in
    let k = next_from (mod_of a) a.residue (int_max n least_signed) in
    let f = next_first (mod_of a) a.residue (int_max n least_signed) x (omega (arith, ints, clamps, q.0.low)) q.1 in
    let g : n ≤ℤ k = next_at_least (mod_of a) a.residue (int_max n least_signed) n (omega (arith, ints, clamps)) (λ z. let o = only_member (mod_of a) x a.residue q.1 z in omega (arith, ints)) in
    some_when (int_le n k && int_le k greatest_signed) (Some k) (λ k. k ≤ℤ x)
    (and_from (int_le n k) (int_le k greatest_signed) (true_le n k g) (true_le k greatest_signed (omega (arith, ints, q.0.high)))) f

pub greatest_first : (a : Congruence) (n x : ℤ) → Has congruences a x → x ≤ℤ n → IsSomeAnd (greatest_to a n) (λ k. x ≤ℤ k)
greatest_first a n x h l =
    let q = has_parts a x h in
    let k = next_to (mod_of a) a.residue (int_min n greatest_signed) in
    let f = next_to_first (mod_of a) a.residue (int_min n greatest_signed) x (omega (arith, ints, clamps, q.0.high)) q.1 in
    let g : k ≤ℤ n = next_at_most (mod_of a) a.residue (int_min n greatest_signed) n (omega (arith, ints, clamps)) (λ z. let o = only_member (mod_of a) x a.residue q.1 z in omega (arith, ints)) in
    some_when (int_le least_signed k && int_le k n) (Some k) (λ k. x ≤ℤ k)
    (and_from (int_le least_signed k) (int_le k n) (true_le least_signed k (omega (arith, ints, q.0.low))) (true_le k n g)) f

-- ---- the laws

pub below_has : (a b : Congruence) (n : ℤ) → Below congruences a b → Has congruences a n → Has congruences b n
below_has a b n h k =
    let p = below_parts a b h in
    let q = has_parts a n k in
    parts_has b n q.0 (Divides-sum (mod_of b) (n -ℤ a.residue) (a.residue -ℤ b.residue) (n -ℤ b.residue) (Divides_trans (mod_of b) (mod_of a) (n -ℤ a.residue) p.modulus q.1) p.residue (omega (arith, ints)))

pub below_refl : (a : Congruence) → Below congruences a a
below_refl a = parts_below a a (dvd_refl (mod_of a)) (Divides_is (mod_of a) (pos 0) (a.residue -ℤ a.residue) (Divides-zero (mod_of a)) (omega (arith, ints)))

pub below_trans : (a b c : Congruence) → Below congruences a b → Below congruences b c → Below congruences a c
below_trans a b c h k =
    let p = below_parts a b h in
    let q = below_parts b c k in
    parts_below a c (dvd_trans (mod_of c) q.modulus p.modulus) (Divides-sum (mod_of c) (a.residue -ℤ b.residue) (b.residue -ℤ c.residue) (a.residue -ℤ c.residue) (Divides_trans (mod_of c) (mod_of b) (a.residue -ℤ b.residue) q.modulus p.residue) q.residue (omega (arith, ints)))

pub below_antisym : (a b : Congruence) → Below congruences a b → Below congruences b a → a ≡ b
below_antisym a b h k =
    let p = below_parts a b h in
    let q = below_parts b a k in
    let m : mod_of a ≡ mod_of b = dvd_antisymm q.modulus p.modulus in
    let na = a.form.not_negative in
    let nb = b.form.not_negative in
    same_parts a b (omega (arith, ints))
    (⊎_elim
    (λ (e : nat_eq (mod_of b) 0 ≡ true). only_member (mod_of b) a.residue b.residue p.residue (eqb-true (mod_of b) 0 e))
    (λ (e : nat_eq (mod_of b) 0 ≡ false).
    let l = positive (mod_of b) e in
    let ra = a.form.reduced (omega (arith, ints)) in
    let rb = b.form.reduced (omega (arith, ints)) in
    let g = small_multiple (mod_of b) (a.residue -ℤ b.residue) p.residue (omega (arith, ints)) in
    omega (arith, ints))
    (cases_Bool (nat_eq (mod_of b) 0)))

-- the test of height, in numbers
pub height_below : (x y : ℕ) → 0 < y → y ≤ 2 ^ 32 - 1 → (x ≡ 0) ⊎ (y < x) → cond (nat_eq y 0) (2 ^ 32) y < cond (nat_eq x 0) (2 ^ 32) x
height_below x y p q h = grind (arith, nat_tests)

pub height_falls : (a b : Congruence) → Below congruences a b → congruences.includes a b ≡ false → congruences.height b < congruences.height a
height_falls a b h k =
    let p = below_parts a b h in
    let fb = b.form.fits in
    let nb = b.form.not_negative in
    let apart : Below congruences b a → ⊥ = λ l. false≢true (sym k ∙ l.holds) in
    let back : Divides (mod_of b) (b.residue -ℤ a.residue) = Divides-neg_is (mod_of b) (a.residue -ℤ b.residue) (b.residue -ℤ a.residue) p.residue (omega (arith, ints)) in
    let same : mod_of a ≡ mod_of b → ⊥ = λ e. apart (parts_below b a (subst (λ (x : ℕ). x ∣ mod_of b) (sym e) (dvd_refl (mod_of b))) (subst (λ (x : ℕ). Divides x (b.residue -ℤ a.residue)) (sym e) back)) in
    ⊎_elim
    (λ (e : nat_eq (mod_of b) 0 ≡ true).
    let z = eqb-true (mod_of b) 0 e in
    absurd (same (eq-zero_of_zero-dvd (subst (λ (x : ℕ). x ∣ mod_of a) z p.modulus) ∙ sym z)))
    (λ (e : nat_eq (mod_of b) 0 ≡ false).
    height_below (mod_of a) (mod_of b) (positive (mod_of b) e) (omega (arith, ints))
    (⊎_elim
    (λ (f : nat_eq (mod_of a) 0 ≡ true). inl (eqb-true (mod_of a) 0 f))
    (λ (f : nat_eq (mod_of a) 0 ≡ false). let l = le_of_dvd (positive (mod_of a) f) p.modulus in inr (omega (arith, same)))
    (cases_Bool (nat_eq (mod_of a) 0))))
    (cases_Bool (nat_eq (mod_of b) 0))

-- a single value is below what has it
pub make_zero_below : (z : ℤ) (o : Option Congruence) → IsSomeAnd o (λ c. Has congruences c z) → BelowOption congruences (make 0 z) o
unfolding make
make_zero_below z o h =
    let e : z ≡ next_from 0 z least_signed = let f = reduce_zero 0 (z -ℤ least_signed) refl in omega (arith, ints) in
    congruence_if_single (next_from 0 z least_signed) (is_signed (next_from 0 z least_signed)) _ o (λ _. subst (λ (x : ℤ). IsSomeAnd o (λ c. Has congruences c x)) e h)

pub narrow_has : (a : Congruence) (lo hi n : ℤ) → Has congruences a n → lo ≤ℤ n → n ≤ℤ hi → IsSomeAnd (narrow a lo hi) (λ r. Has congruences r n)
narrow_has a lo hi n h p q =
    some_bind (λ i. i ≤ℤ n) (λ r. Has congruences r n) (least_from a lo) _ (least_first a lo n h p)
    (λ i l. some_bind (λ j. n ≤ℤ j) (λ r. Has congruences r n) (greatest_to a hi) _ (greatest_first a hi n h q)
    (λ j k. some_when (int_le i j) (cond (int_le j i) (make 0 i) (Some a)) (λ r. Has congruences r n) (true_le i j (omega (arith, ints)))
    (cond_both (int_le j i) (make 0 i) (Some a) (λ o. IsSomeAnd o (λ r. Has congruences r n))
    (λ t. let u = le_true j i t in make_has 0 i n (has_parts a n h).0 (Divides_is 0 (pos 0) (n -ℤ i) (Divides-zero 0) (omega (arith, ints))))
    (λ t. h))))

-- with two members from lo to hi a value is not narrowed
pub narrow_two : (a : Congruence) (lo hi i j : ℤ) (P : Congruence → Type 0) → Has congruences a i → Has congruences a j → lo ≤ℤ i → i <ℤ j → j ≤ℤ hi → P a → IsSomeAnd (narrow a lo hi) P
narrow_two a lo hi i j P h k l m n p =
    some_bind (λ x. x ≤ℤ i) P (least_from a lo) _ (least_first a lo i h l)
    (λ x e. some_bind (λ y. j ≤ℤ y) P (greatest_to a hi) _ (greatest_first a hi j k n)
    (λ y f. some_when (int_le x y) (cond (int_le y x) (make 0 x) (Some a)) P (true_le x y (omega (arith, ints)))
    (rw (lt_false y x (omega (arith, ints))) p)))

pub narrow_below : (a : Congruence) (lo hi : ℤ) → BelowOption congruences (narrow a lo hi) (Some a)
narrow_below a lo hi =
    all_bind (λ i. Has congruences a i × (lo ≤ℤ i)) (λ r. Below congruences r a) (least_from a lo) _ (least_is a lo)
    (λ i l. all_bind (λ j. Has congruences a j × (j ≤ℤ hi)) (λ r. Below congruences r a) (greatest_to a hi) _ (greatest_is a hi)
    (λ j k. all_when (int_le i j) (cond (int_le j i) (make 0 i) (Some a)) (λ r. Below congruences r a)
    (λ _. cond_both (int_le j i) (make 0 i) (Some a) (λ o. BelowOption congruences o (Some a))
    (λ _. make_zero_below i (Some a) l.0)
    (λ _. below_refl a))))

pub narrow_mono : (a a' : Congruence) (lo lo' hi hi' : ℤ) → Below congruences a a' → lo' ≤ℤ lo → hi ≤ℤ hi' → BelowOption congruences (narrow a lo hi) (narrow a' lo' hi')
narrow_mono a a' lo lo' hi hi' h p q =
    all_bind (λ i. Has congruences a i × (lo ≤ℤ i)) (λ r. IsSomeAnd (narrow a' lo' hi') (λ r'. Below congruences r r')) (least_from a lo) _ (least_is a lo)
    (λ i l. all_bind (λ j. Has congruences a j × (j ≤ℤ hi)) (λ r. IsSomeAnd (narrow a' lo' hi') (λ r'. Below congruences r r')) (greatest_to a hi) _ (greatest_is a hi)
    (λ j k. all_when (int_le i j) (cond (int_le j i) (make 0 i) (Some a)) (λ r. IsSomeAnd (narrow a' lo' hi') (λ r'. Below congruences r r'))
    (λ t. let from = l.1 in let to = k.1 in let o = le_true i j t in
    cond_both (int_le j i) (make 0 i) (Some a) (λ o. BelowOption congruences o (narrow a' lo' hi'))
    (λ _. make_zero_below i (narrow a' lo' hi') (narrow_has a' lo' hi' i (below_has a a' i h l.0) (omega (arith, ints)) (omega (arith, ints))))
    (λ u. let v = le_false j i u in narrow_two a' lo' hi' i j (λ r'. Below congruences a r') (below_has a a' i h l.0) (below_has a a' j h k.0) (omega (arith, ints)) v (omega (arith, ints)) h))))

pub join_least : (a b c : Congruence) → Below congruences a c → Below congruences b c → Below congruences (join a b) c
join_least a b c h k =
    let p = below_parts a c h in
    let q = below_parts b c k in
    let g = join_modulus a b in
    let apart : Divides (mod_of c) (a.residue -ℤ b.residue) = Divides-difference (mod_of c) (a.residue -ℤ c.residue) (b.residue -ℤ c.residue) (a.residue -ℤ b.residue) p.residue q.residue (omega (arith, ints)) in
    let d = gcd_greatest (gcd (mod_of a) (mod_of b)) (nat_abs (a.residue -ℤ b.residue)) (mod_of c) (gcd_greatest (mod_of a) (mod_of b) (mod_of c) p.modulus q.modulus) apart.holds in
    parts_below (join a b) c d
    (Divides-difference (mod_of c) (a.residue -ℤ c.residue) (a.residue -ℤ reduce g a.residue) (reduce g a.residue -ℤ c.residue) p.residue (Divides_trans (mod_of c) g (a.residue -ℤ reduce g a.residue) d (reduce_divides g a.residue)) (omega (arith, ints)))
