-- What a well-formed plan gives, address by address.
use Rattle.std.specs.Prelude.{◌≡◌, ℕ, ◌+◌, ◌-◌, ◌<◌, ◌≤◌, Bool, true, false, not, ◌&&◌, ◌||◌, ◌==◌, nat_le, List, [], ◌∷◌, Contains, Some, None, IsSome, is_some, if◌then◌else◌}
use Rattle.std.specs.List.{All, AllPairs}
use Rattle.std.proofs.Common.{refl, arith, sym, subst, ap, ⊎_elim, inl, inr, zero, suc}
use Rattle.std.proofs.Math.Nat.{eq-or-lt_of_le}
use Rattle.std.proofs.lemmas.Bool.{and_parts, and_from, or_parts, false≢true, leb-true, le-leb}
use Rattle.std.proofs.lemmas.Bool.Decides.{nat_tests}
use Rattle.std.proofs.lemmas.Option.{same_Some}
use Rattle.viper_word.specs.Words.{signed_value}
use Rattle.viper_word.specs.Ranges.{NumberRange, IsIn, IsNormal}
use Rattle.memory_plan.specs.Ranges.{Span}
use Rattle.memory_plan.specs.Plans.{PlanLines, has_code, in_code, has_address, range_at, word_at}
use Rattle.memory_plan.specs.Numbers.{range_has}
use Rattle.memory_plan.specs.PlanRules.{all_words, is_misfit, misfits}
use Rattle.memory_plan.specs.WellFormed.{IsWellFormed, Apart}
use Rattle.viper_word.proofs.RangeLemmas.{normal_range}
use Rattle.memory_plan.proofs.RangeIn.{test_is_in}
use Rattle.abs_step.proofs.Performing.{AllItems, IsRangeOf}

pub record PlanFacts (plan : PlanLines) : Type 0 where
  pub words : (n : ℕ) → in_code plan n ≡ true → IsSome (word_at plan.image n)
  pub data_ranges : AllItems IsRangeOf plan.«data»
  pub input_ranges : AllItems IsRangeOf plan.inputs
  pub data_normal : (n : ℕ) (r : NumberRange) → range_at plan.«data» n ≡ Some r → IsNormal r
  pub input_normal : (n : ℕ) (r : NumberRange) → range_at plan.inputs n ≡ Some r → IsNormal r
  pub output_normal : (n : ℕ) (r : NumberRange) → range_at plan.outputs n ≡ Some r → IsNormal r
  pub apart : (n : ℕ) → in_code plan n ≡ true → range_at plan.«data» n ≡ None
  pub fits : (n w : ℕ) (r : NumberRange) → word_at plan.image n ≡ Some w → range_at plan.«data» n ≡ Some r → IsIn r (signed_value w)
  pub inputs_once : (n : ℕ) (s : Span) → Contains plan.inputs s → s.0 ≤ n → n ≤ s.1 → range_at plan.inputs n ≡ Some s.2

eq_test : (m n : ℕ) → (m == n) ≡ true → m ≡ n
eq_test m n h = grind (arith, nat_tests)

module _ {X : Type 0} (P : X → Type 0) where
  all_head : (x : X) (xs : List X) → All P (x ∷ xs) → P x
  all_head x xs h = h 0 x (omega arith)

  all_tail : (x : X) (xs : List X) → All P (x ∷ xs) → All P xs
  all_tail x xs h = λ k d l. h (suc k) d (omega arith)

  all_items : (xs : List X) → All P xs → AllItems P xs
  all_items [] h = tt
  all_items (x ∷ xs) h = (all_head x xs h, all_items xs (all_tail x xs h))

items_map : {X : Type 0} (P Q : X → Type 0) (xs : List X) → ((x : X) → P x → Q x) → AllItems P xs → AllItems Q xs
items_map P Q [] f h = tt
items_map P Q (x ∷ xs) f h = (f x h.0, items_map P Q xs f h.1)

normal_at : (ss : List Span) (n : ℕ) (r : NumberRange) → AllItems (λ s. IsNormal s.2) ss → range_at ss n ≡ Some r → IsNormal r
normal_at [] n r h e = absurd (cc)
normal_at (s ∷ ss) n r h e = by_test (has_address s n) e (λ e. normal_at ss n r h.1 e)
  where
    by_test : (b : Bool) → (if b then Some s.2 else range_at ss n) ≡ Some r → (range_at ss n ≡ Some r → IsNormal r) → IsNormal r
    by_test true e k = subst IsNormal (same_Some s.2 r e) h.0
    by_test false e k = k e

words_at : (image : List (ℕ × ℕ)) (at count n : ℕ) → all_words image at count ≡ true → at ≤ n → n < at + count → IsSome (word_at image n)
unfolding all_words
words_at image at zero n h l k = absurd (omega arith)
words_at image at (suc count) n h l k =
    let p = and_parts (is_some (word_at image at)) (all_words image (at + 1) count) h in
    ⊎_elim (λ (e : at ≡ n). subst (λ (j : ℕ). IsSome (word_at image j)) e p.0)
    (λ (e : at < n). words_at image (at + 1) count n p.1 (omega arith) (omega arith)) (eq-or-lt_of_le l)

code_words : (image : List (ℕ × ℕ)) (code : List (ℕ × ℕ)) (n : ℕ) → AllItems (λ s. all_words image s.0 (s.1 + 1 - s.0) ≡ true) code → has_code code n ≡ true → IsSome (word_at image n)
code_words image [] n h e = absurd (false≢true e)
code_words image (s ∷ ss) n h e = by_test (nat_le s.0 n && nat_le n s.1) refl e (λ e. code_words image ss n h.1 e)
  where
    by_test : (b : Bool) → (nat_le s.0 n && nat_le n s.1) ≡ b → (b || has_code ss n) ≡ true → (has_code ss n ≡ true → IsSome (word_at image n)) → IsSome (word_at image n)
    by_test true t e k =
        let p = and_parts (nat_le s.0 n) (nat_le n s.1) t in
        let x = leb-true s.0 n p.0 in
        let y = leb-true n s.1 p.1 in
        words_at image s.0 (s.1 + 1 - s.0) n h.0 x (omega arith)
    by_test false t e k = k e

not_both : (a b low high n : ℕ) → Apart a b low high → a ≤ n → n ≤ b → low ≤ n → n ≤ high → ⊥
not_both a b low high n (inl h) k l m o = absurd (omega arith)
not_both a b low high n (inr h) k l m o = absurd (omega arith)

none_of : (a b : ℕ) (ss : List Span) (n : ℕ) → AllItems (λ t. Apart a b t.0 t.1) ss → a ≤ n → n ≤ b → range_at ss n ≡ None
none_of a b [] n h k l = refl
none_of a b (s ∷ ss) n h k l = by_test (has_address s n) refl (none_of a b ss n h.1 k l)
  where
    by_test : (t : Bool) → has_address s n ≡ t → range_at ss n ≡ None → (if t then Some s.2 else range_at ss n) ≡ None
    by_test true e q = let p = and_parts (nat_le s.0 n) (nat_le n s.1) e in absurd (not_both a b s.0 s.1 n h.0 k l (leb-true s.0 n p.0) (leb-true n s.1 p.1))
    by_test false e q = q

code_apart : (code : List (ℕ × ℕ)) (ss : List Span) (n : ℕ) → AllItems (λ s. All (λ t. Apart s.0 s.1 t.0 t.1) ss) code → has_code code n ≡ true → range_at ss n ≡ None
code_apart [] ss n h e = absurd (false≢true e)
code_apart (s ∷ code) ss n h e = by_test (nat_le s.0 n && nat_le n s.1) refl e (λ e. code_apart code ss n h.1 e)
  where
    by_test : (b : Bool) → (nat_le s.0 n && nat_le n s.1) ≡ b → (b || has_code code n) ≡ true → (has_code code n ≡ true → range_at ss n ≡ None) → range_at ss n ≡ None
    by_test true t e k = let p = and_parts (nat_le s.0 n) (nat_le n s.1) t in none_of s.0 s.1 ss n (all_items (λ t. Apart s.0 s.1 t.0 t.1) ss h.0) (leb-true s.0 n p.0) (leb-true n s.1 p.1)
    by_test false t e k = k e

entry_fits : (s : Span) (image : List (ℕ × ℕ)) (n w : ℕ) → misfits s image ≡ false → word_at image n ≡ Some w → has_address s n ≡ true → range_has s.2 (signed_value w) ≡ true
entry_fits s [] n w h e a = absurd (cc)
entry_fits s (x ∷ image) n w h e a = by_test (x.0 == n) refl e (λ e. entry_fits s image n w p.1 e a)
  where
    p : (is_misfit s x.0 x.1 ≡ false) × (misfits s image ≡ false)
    p = or_parts (is_misfit s x.0 x.1) (misfits s image) h

    fits : (a b c : Bool) → (a && b) ≡ true → (a && b && not c) ≡ false → c ≡ true
    fits true true true e k = refl
    fits true true false e k = absurd (false≢true (sym k))
    fits true false c e k = absurd (false≢true e)
    fits false b c e k = absurd (false≢true e)

    by_test : (b : Bool) → (x.0 == n) ≡ b → (if b then Some x.1 else word_at image n) ≡ Some w → (word_at image n ≡ Some w → range_has s.2 (signed_value w) ≡ true) → range_has s.2 (signed_value w) ≡ true
    by_test true t e k =
        let here = subst (λ (j : ℕ). has_address s j ≡ true) (sym (eq_test x.0 n t)) a in
        subst (λ (v : ℕ). range_has s.2 (signed_value v) ≡ true) (same_Some x.1 w e) (fits (nat_le s.0 x.0) (nat_le x.0 s.1) (range_has s.2 (signed_value x.1)) here p.0)
    by_test false t e k = k e

data_fits : (ss : List Span) (image : List (ℕ × ℕ)) (n w : ℕ) (r : NumberRange) → AllItems (λ s. misfits s image ≡ false) ss → AllItems (λ s. IsNormal s.2) ss → word_at image n ≡ Some w → range_at ss n ≡ Some r → IsIn r (signed_value w)
data_fits [] image n w r h m e k = absurd (cc)
data_fits (s ∷ ss) image n w r h m e k = by_test (has_address s n) refl k (λ k. data_fits ss image n w r h.1 m.1 e k)
  where
    by_test : (b : Bool) → has_address s n ≡ b → (if b then Some s.2 else range_at ss n) ≡ Some r → (range_at ss n ≡ Some r → IsIn r (signed_value w)) → IsIn r (signed_value w)
    by_test true t k q = subst (λ (x : NumberRange). IsIn x (signed_value w)) (same_Some s.2 r k) (test_is_in s.2 (signed_value w) m.0 (entry_fits s image n w h.0 e t))
    by_test false t k q = q k

once : (ss : List Span) (n : ℕ) (t : Span) → AllPairs (λ s t. Apart s.0 s.1 t.0 t.1) ss → Contains ss t → t.0 ≤ n → n ≤ t.1 → range_at ss n ≡ Some t.2
once [] n t h c l k = absurd (empty c)
  where
    empty : Contains [] t → ⊥
    empty (k, l, e) = omega arith
once (s ∷ ss) n t h (zero, l, e) low high =
    let a = subst (λ (x : Span). has_address x n ≡ true) (sym e) (and_from _ _ (le-leb t.0 n low) (le-leb n t.1 high)) in
    subst (λ (b : Bool). (if b then Some s.2 else range_at ss n) ≡ Some t.2) (sym a) (ap (λ (x : Span). Some x.2) e)
once (s ∷ ss) n t h (suc k, l, e) low high = by_test (has_address s n) refl (once ss n t rest there low high)
  where
    there : Contains ss t
    there = (k, omega arith, e)

    rest : AllPairs (λ s t. Apart s.0 s.1 t.0 t.1) ss
    rest = λ i j d m o. h (suc i) (suc j) d (omega arith) (omega arith)

    far : Apart s.0 s.1 t.0 t.1
    far = subst (λ (x : Span). Apart s.0 s.1 x.0 x.1) e (h 0 (suc k) t (omega arith) l)

    by_test : (b : Bool) → has_address s n ≡ b → range_at ss n ≡ Some t.2 → (if b then Some s.2 else range_at ss n) ≡ Some t.2
    by_test true q o = let p = and_parts (nat_le s.0 n) (nat_le n s.1) q in absurd (not_both s.0 s.1 t.0 t.1 n far (leb-true s.0 n p.0) (leb-true n s.1 p.1) low high)
    by_test false q o = o

pub plan_facts : (plan : PlanLines) → IsWellFormed plan → PlanFacts plan
plan_facts plan h =
    let in_data = all_items (λ s. IsNormal s.2) plan.«data» h.«data».normal in
    let in_inputs = all_items (λ s. IsNormal s.2) plan.inputs h.inputs.normal in
    record {
      words = λ n e. code_words plan.image plan.code n (all_items _ plan.code h.code.there) e;
      data_ranges = items_map (λ s. IsNormal s.2) IsRangeOf plan.«data» (λ s k. normal_range s.2 k) in_data;
      input_ranges = items_map (λ s. IsNormal s.2) IsRangeOf plan.inputs (λ s k. normal_range s.2 k) in_inputs;
      data_normal = λ n r e. normal_at plan.«data» n r in_data e;
      input_normal = λ n r e. normal_at plan.inputs n r in_inputs e;
      output_normal = λ n r e. normal_at plan.outputs n r (all_items (λ s. IsNormal s.2) plan.outputs h.outputs.normal) e;
      apart = λ n e. code_apart plan.code plan.«data» n (all_items _ plan.code h.code_and_data) e;
      fits = λ n w r e k. data_fits plan.«data» plan.image n w r (all_items _ plan.«data» h.fits) in_data e k;
      inputs_once = λ n s c low high. once plan.inputs n s h.inputs.apart c low high;
    }
