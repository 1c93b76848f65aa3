-- A form after a step is within the limits of a form.
use Rattle.std.specs.Prelude.{◌≡◌, ℕ, zero, suc, ◌+◌, ◌*◌, ◌^◌, ◌<◌, ◌≤◌, nat_eq, nat_le, ℤ, pos, neg_ℤ, ◌+ℤ◌, ◌*ℤ◌, int_le, unsigned_abs, cond, Bool, true, false, not, ◌&&◌, List, [], ◌∷◌, ◌++◌, length, Option, Some, None, IfSome, if◌then◌else◌}
use Rattle.std.specs.Ordering.{int_eq}
use Rattle.std.proofs.Common.{refl, arith, sym, ◌∙◌, ap, subst, ◌⊎◌, inl, inr}
use Rattle.std.proofs.lemmas.Int.{ints, unsigned_abs-mul}
use Rattle.std.proofs.lemmas.Bool.{and_parts, and_from, le-leb}
use Rattle.viper_word.proofs.Integers.{true_le}
use Rattle.std.proofs.lemmas.Bool.Decides.{nat_tests}
use Rattle.viper_word.specs.Words.{IsSigned}
use Rattle.viper_word.specs.declared.reg.Reg.TheVariants.{A, X, Y}
use Rattle.num_domain.specs.Domain.{Domain}
use Rattle.num_domain.specs.Laws.{DomainLaws}
use Rattle.num_domain.specs.Ends.{Ends}
use Rattle.num_domain.proofs.EndsLaws.{ends_in_w}
use Rattle.flag_relation.specs.declared.var.Var.{Var}
use Rattle.flag_relation.specs.declared.var.Var.TheVariants.{Reg, Cell}
use Rattle.flag_relation.specs.Values.{Values}
use Rattle.flag_relation.specs.Facts.{FactOf, values}
use Rattle.flag_relation.specs.Forms.{var_number, is_within, is_coefficient, are_terms, form_of}
use Rattle.abs_step.specs.declared.outcome.Post.{Post}
use Rattle.abs_step.specs.declared.outcome.Post.TheVariants.{Same, Plus, Within}
use Rattle.rank_form.specs.Weights.{at, weigh, rate, var_at, term_of, terms_from}
use Rattle.rank_form.specs.Bounds.{place, post_at, added, most, span}
use Rattle.rank_form.specs.Rates.{no_links, AreSmall, ArePostsSmall, is_in, gain, gains}
use Rattle.rank_form.proofs.Merging.{number_var}

-- ---- sizes

grows : (a b c d : ℕ) → a ≤ b → c ≤ d → a * c ≤ b * d
grows a b c d h k = grind arith

pub times_small : (c n : ℤ) (b d : ℕ) → unsigned_abs c ≤ b → unsigned_abs n ≤ d → unsigned_abs (c *ℤ n) ≤ b * d
times_small c n b d h k = omega (arith, unsigned_abs-mul c n, grows (unsigned_abs c) b (unsigned_abs n) d h k)

pub none_more : (v : Var) → (place no_links v).more ≡ pos 0
none_more (Reg A) = refl
none_more (Reg X) = refl
none_more (Reg Y) = refl
none_more (Cell i) = refl

none_times : (c : ℤ) (v : Var) → c *ℤ (place no_links v).more ≡ pos 0
none_times c v = ap (λ z. c *ℤ z) (none_more v) ∙ omega (arith, ints)

signed_small : (n : ℤ) → IsSigned n → unsigned_abs n ≤ 2 ^ 31
signed_small n h = omega (arith, ints, h.low, h.high)

most_by : (n : ℕ) (c : ℤ) (r : Ends) (b : Bool) → unsigned_abs c ≤ n → IsSigned r.lo × IsSigned r.hi → unsigned_abs (cond b (c *ℤ r.hi) (c *ℤ r.lo)) ≤ n * 2 ^ 31
most_by n c r true h k = times_small c r.hi n (2 ^ 31) h (signed_small r.hi k.1)
most_by n c r false h k = times_small c r.lo n (2 ^ 31) h (signed_small r.lo k.0)

pub most_small : (n : ℕ) (c : ℤ) (o : Option Ends) → unsigned_abs c ≤ n → IfSome o (λ r. IsSigned r.lo × IsSigned r.hi) → unsigned_abs (most c o) ≤ n * 2 ^ 31
most_small n c None h k = omega arith
most_small n c (Some r) h k = most_by n c r (int_le (pos 0) c) h k

when_small : (b : Bool) (z : ℤ) (n : ℕ) → unsigned_abs z ≤ n → unsigned_abs (cond b z (pos 0)) ≤ n
when_small true z n h = h
when_small false z n h = omega arith

module _ {T : Type 0} (d : Domain T) (laws : DomainLaws d) where
  gain_small : (x : FactOf T) (p : Post) (v : Var) (c : ℤ) → unsigned_abs c ≤ 2 ^ 40 → unsigned_abs (added p) ≤ 2 ^ 20 → unsigned_abs (gain d no_links x p v c) ≤ 2 ^ 71
  gain_small x Same v c h k = subst (λ z. unsigned_abs z ≤ 2 ^ 71) (sym (none_times c v)) (omega arith)
  gain_small x (Plus u n) v c h k =
      subst (λ z. unsigned_abs (z +ℤ (c *ℤ n)) ≤ 2 ^ 71) (sym (none_times c u)) (omega (arith, ints, times_small c n (2 ^ 40) (2 ^ 20) h k))
  gain_small x Within v c h k =
      when_small (is_in (length x.cells) v) (most c (span d x v)) (2 ^ 71) (most_small (2 ^ 40) c (span d x v) h (ends_in_w d laws (at d.top (values x) v)))

  pub gains_small : (posts : Values Post) (x : FactOf T) (ts : List (Var × ℤ)) → AreSmall (2 ^ 40) ts → ArePostsSmall (2 ^ 20) posts → unsigned_abs (gains d no_links posts x ts) ≤ length ts * 2 ^ 71
  unfolding gains
  gains_small posts x [] h k = omega arith
  gains_small posts x (t ∷ ts) h k = omega (arith, ints, gain_small x (post_at posts t.0) t.0 t.1 h.0 (k t.0), gains_small posts x ts h.1 k)

-- ---- tests

lower_test : (j k n : ℕ) → j ≤ k → nat_le k n ≡ true → nat_le j n ≡ true
lower_test j k n h e = grind (arith, nat_tests)

same_test : (k n : ℕ) → n ≡ k → nat_le k n ≡ true
same_test k n e = grind (arith, nat_tests)

next_number : (k : ℕ) → suc k ≡ var_number (var_at k) + 1
next_number k = omega (arith, number_var k)

within_test : (k : ℤ) → unsigned_abs k ≤ 2 ^ 77 → is_within (pos (2 ^ 77)) k ≡ true
within_test k h = and_from (int_le (neg_ℤ (pos (2 ^ 77))) k) (int_le k (pos (2 ^ 77))) (true_le (neg_ℤ (pos (2 ^ 77))) k (omega (arith, ints))) (true_le k (pos (2 ^ 77)) (omega (arith, ints)))

coefficient : (c : ℤ) → int_eq c (pos 0) ≡ false → unsigned_abs c ≤ 2 ^ 43 → is_coefficient c ≡ true
coefficient c e h =
    and_from (not (int_eq c (pos 0))) (int_le (neg_ℤ (pos (2 ^ 43))) c && int_le c (pos (2 ^ 43))) (ap not e)
    (and_from (int_le (neg_ℤ (pos (2 ^ 43))) c) (int_le c (pos (2 ^ 43))) (true_le (neg_ℤ (pos (2 ^ 43))) c (omega (arith, ints))) (true_le c (pos (2 ^ 43)) (omega (arith, ints))))

term_count_by : (v : Var) (c : ℤ) (ts : List (Var × ℤ)) (b : Bool) → length (cond b [] ((v, c) ∷ []) ++ ts) ≡ cond b 0 1 + length ts
term_count_by v c ts true = omega arith
term_count_by v c ts false = omega arith

test_at_most : (b : Bool) → cond b 1 0 ≤ 1
test_at_most true = omega arith
test_at_most false = omega arith

-- ---- terms in order are terms of a form

weaker : (j k : ℕ) (ts : List (Var × ℤ)) → j ≤ k → are_terms k ts ≡ true → are_terms j ts ≡ true
unfolding are_terms
weaker j k [] h e = refl
weaker j k (t ∷ ts) h e =
    let p = and_parts (nat_le k (var_number t.0) && is_coefficient t.1) (are_terms (var_number t.0 + 1) ts) e in
    let q = and_parts (nat_le k (var_number t.0)) (is_coefficient t.1) p.0 in
    and_from _ _ (and_from _ _ (lower_test j k (var_number t.0) h q.0) q.1) p.1

cons_terms : (k : ℕ) (c : ℤ) (ts : List (Var × ℤ)) (b : Bool) → int_eq c (pos 0) ≡ b → unsigned_abs c ≤ 2 ^ 43 → are_terms (suc k) ts ≡ true → are_terms k (cond b [] ((var_at k, c) ∷ []) ++ ts) ≡ true
unfolding are_terms
cons_terms k c ts true e h p = weaker k (suc k) ts (omega arith) p
cons_terms k c ts false e h p =
    and_from _ _ (and_from _ _ (same_test k (var_number (var_at k)) (number_var k)) (coefficient c e h)) (subst (λ (j : ℕ). are_terms j ts ≡ true) (next_number k) p)

pub from_terms : (g : Var → ℤ) (k m : ℕ) → ((i : ℕ) → k ≤ i → i < k + m → unsigned_abs (g (var_at i)) ≤ 2 ^ 43) → are_terms k (terms_from g k m) ≡ true
unfolding are_terms terms_from
from_terms g k zero h = refl
from_terms g k (suc m) h = cons_terms k (g (var_at k)) (terms_from g (suc k) m) (int_eq (g (var_at k)) (pos 0)) refl (h k (omega arith) (omega arith)) (from_terms g (suc k) m (λ i p q. h i (omega arith) (omega arith)))

-- ---- there are no more of them than of the terms that they came from

-- 1 where the coefficient isn't 0
abbrev one_of : ℤ → ℕ
one_of c = cond (int_eq c (pos 0)) 0 1

unfoldable ones : (Var → ℤ) → ℕ → ℕ → ℕ
ones g k zero = 0
ones g k (suc m) = one_of (g (var_at k)) + ones g (suc k) m

term_count : (v : Var) (c : ℤ) (ts : List (Var × ℤ)) → length (term_of v c ++ ts) ≡ one_of c + length ts
term_count v c ts = term_count_by v c ts (int_eq c (pos 0))

from_count : (g : Var → ℤ) (k m : ℕ) → length (terms_from g k m) ≡ ones g k m
unfolding terms_from ones
from_count g k zero = refl
from_count g k (suc m) = omega (arith, term_count (var_at k) (g (var_at k)) (terms_from g (suc k) m), from_count g (suc k) m)

one_none : (c : ℤ) → c ≡ pos 0 → one_of c ≡ 0
one_none c h = ap one_of h

ones_none : (g : Var → ℤ) (k m : ℕ) → ((i : ℕ) → k ≤ i → g (var_at i) ≡ pos 0) → ones g k m ≡ 0
unfolding ones
ones_none g k zero h = refl
ones_none g k (suc m) h = omega (arith, one_none (g (var_at k)) (h k (omega arith)), ones_none g (suc k) m (λ i p. h i (omega arith)))

one_bit_by : (b : Bool) → cond b 0 1 ≤ 1
one_bit_by true = omega arith
one_bit_by false = omega arith

three : (j k : ℕ) → (j ≡ k) ⊎ ((j ≡ k → ⊥) × (nat_le (suc k) j ≡ nat_le k j))
three j k = grind (arith, nat_tests)

unequal : (j i k : ℕ) → i ≡ k → (j ≡ k → ⊥) → nat_eq j i ≡ false
unequal j i k e h = grind (arith, nat_tests)

past_le : (k j : ℕ) → j < k → nat_le k j ≡ false
past_le k j h = grind (arith, nat_tests)

unchanged : (c r : ℤ) → (c *ℤ pos 0) +ℤ r ≡ r
unchanged c r = omega (arith, ints)

-- a coefficient that a term of another variable doesn't change, and one of its own variable
one_step : (r c : ℤ) (j i k : ℕ) → i ≡ k → one_of ((c *ℤ cond (nat_eq j i) (pos 1) (pos 0)) +ℤ r) + cond (nat_le (suc k) j) 1 0 ≤ one_of r + cond (nat_le k j) 1 0
one_step r c j i k e = elim (three j k) [
  | inl same ↦
      let x : cond (nat_le (suc k) j) 1 0 ≡ 0 = ap (λ (b : Bool). cond {A = ℕ} b 1 0) (past_le (suc k) j (omega arith)) in
      let y : cond (nat_le k j) 1 0 ≡ 1 = ap (λ (b : Bool). cond {A = ℕ} b 1 0) (le-leb k j (omega arith)) in
      omega (arith, one_bit_by (int_eq ((c *ℤ cond (nat_eq j i) (pos 1) (pos 0)) +ℤ r) (pos 0)), x, y)
  | inr other ↦
      let z : (c *ℤ cond (nat_eq j i) (pos 1) (pos 0)) +ℤ r ≡ r = ap (λ (b : Bool). (c *ℤ cond b (pos 1) (pos 0)) +ℤ r) (unequal j i k e other.0) ∙ unchanged c r in
      let x : one_of ((c *ℤ cond (nat_eq j i) (pos 1) (pos 0)) +ℤ r) ≡ one_of r = ap (λ (q : ℤ). one_of q) z in
      let y : cond (nat_le (suc k) j) 1 0 ≡ cond (nat_le k j) 1 0 = ap (λ (b : Bool). cond {A = ℕ} b 1 0) other.1 in
      omega (arith, x, y)
]

-- a further term brings one more at the most
ones_more : (t : Var × ℤ) (ts : List (Var × ℤ)) (k m : ℕ) → ones (rate (t ∷ ts)) k m ≤ ones (rate ts) k m + cond (nat_le k (var_number t.0)) 1 0
unfolding weigh ones
ones_more t ts k zero = omega arith
ones_more t ts k (suc m) =
    omega (
      arith,
      ones_more t ts (suc k) m,
      one_step (rate ts (var_at k)) t.1 (var_number t.0) (var_number (var_at k)) k (number_var k),
    )

ones_few : (ts : List (Var × ℤ)) (k m : ℕ) → ones (rate ts) k m ≤ length ts
unfolding weigh
ones_few [] k m = omega (arith, ones_none (λ v. pos 0) k m (λ i p. refl))
ones_few (t ∷ ts) k m = omega (arith, ones_more t ts k m, ones_few ts k m, test_at_most (nat_le k (var_number t.0)))

pub ordered_few : (ts : List (Var × ℤ)) (k m : ℕ) → length (terms_from (rate ts) k m) ≤ length ts
ordered_few ts k m = omega (arith, from_count (rate ts) k m, ones_few ts k m)

pub makes_form : (k : ℤ) (ts : List (Var × ℤ)) → unsigned_abs k ≤ 2 ^ 77 → length ts ≤ 8 → are_terms 0 ts ≡ true → form_of k ts ≡ Some (record { constant = k; terms = ts })
makes_form k ts h few e =
    ap (λ (b : Bool). (if b then Some (record { constant = k; terms = ts }) else None))
    (and_from _ _ (and_from _ _ (le-leb (length ts) 8 few) (within_test k h)) e)
