-- What a search for the first address that passes says of tests and of joins over the addresses it leaves out.
use Rattle.std.specs.Prelude.{◌≡◌, ℕ, ◌+◌, ◌-◌, ◌<◌, ◌≤◌, Bool, true, false, not, ◌&&◌, cond, nat_eq, nat_le, [], ◌∷◌, Option, Some, None}
use Rattle.std.proofs.Common.{refl, arith, zero, suc, sym, subst, ◌∙◌, ap}
use Rattle.std.proofs.Math.Path.{ap₂}
use Rattle.std.proofs.lemmas.Bool.{false≢true, and_left}
use Rattle.std.proofs.lemmas.Bool.Decides.{nat_tests}
use Rattle.memory_plan.specs.Plans.{PlanLines, word_at}
use Rattle.num_domain.specs.Domain.{Domain}
use Rattle.abs_step.specs.Addresses.{any_from, passing}
use Rattle.abs_step.specs.Results.{or_value, join_all, word_source, words_from}
use Rattle.abs_step.specs.Walks.{first_from, is_found}
use Rattle.abs_step.proofs.AddressLaws.{any_from_at}
use Rattle.abs_step.proofs.PointLaws.{first_none, first_on, first_here, any_is_first}

-- ---- the address itself

pub equal : (n : ℕ) → nat_eq n n ≡ true
equal n = grind (arith, nat_tests)

unequal : (a n : ℕ) → (a ≡ n → ⊥) → nat_eq a n ≡ false
unequal a n h = grind (arith, nat_tests)

pub only_before : (a from to : ℕ) → a < from → first_from (λ n. nat_eq a n) from (to - from) ≡ None
only_before a from to h = first_none (λ n. nat_eq a n) from (to - from) (λ k i j. unequal a k (λ e. absurd (omega arith)))

pub only_after : (a from to : ℕ) → to ≤ a → first_from (λ n. nat_eq a n) from (to - from) ≡ None
only_after a from to h = first_none (λ n. nat_eq a n) from (to - from) (λ k i j. unequal a k (λ e. absurd (omega arith)))

pub only_here : (a from to : ℕ) → from ≤ a → a < to → first_from (λ n. nat_eq a n) from (to - from) ≡ Some a
only_here a from to h k =
    first_on (λ n. nat_eq a n) from a to h (omega arith) (λ i b c. unequal a i (λ e. absurd (omega arith)))
    ∙ first_here (λ n. nat_eq a n) a to k (equal a)

-- ---- what was found

pub record FirstFound (p : ℕ → Bool) (at n m : ℕ) : Type 0 where
  pub up : at ≤ m
  pub below : m < at + n
  pub holds : p m ≡ true
  pub before : (k : ℕ) → at ≤ k → k < m → p k ≡ false

pub first_some : (p : ℕ → Bool) (at n m : ℕ) → first_from p at n ≡ Some m → FirstFound p at n m
unfolding first_from
first_some p at zero m e = absurd (cc)
first_some p at (suc n) m e = by_test (p at) refl e (λ f. first_some p (suc at) n m f)
  where
    by_test : (b : Bool) → p at ≡ b → cond b (Some at) (first_from p (suc at) n) ≡ Some m → (first_from p (suc at) n ≡ Some m → FirstFound p (suc at) n m) → FirstFound p at (suc n) m
    by_test true t f g =
        let same : at ≡ m = cc in
        record { up = omega arith; below = omega arith; holds = subst (λ (k : ℕ). p k ≡ true) same t; before = λ k i j. absurd (omega arith) }
    by_test false t f g =
        let r = g f in
        let u = r.up in
        let w = r.below in
        record { up = omega arith; below = omega arith; holds = r.holds; before = λ k i j. at_first k i j t r }
      where
        at_first : (k : ℕ) → at ≤ k → k < m → p at ≡ false → FirstFound p (suc at) n m → p k ≡ false
        at_first k i j t r = by_order k (nat_eq at k) refl i j t r
          where
            by_order : (k : ℕ) (b : Bool) → nat_eq at k ≡ b → at ≤ k → k < m → p at ≡ false → FirstFound p (suc at) n m → p k ≡ false
            by_order k true e i j t r = let same : at ≡ k = grind (arith, nat_tests) in subst (λ (l : ℕ). p l ≡ false) same t
            by_order k false e i j t r = let other : at < k = grind (arith, nat_tests) in r.before k (omega arith) j

pub first_nothing : (p : ℕ → Bool) (at n : ℕ) → first_from p at n ≡ None → (k : ℕ) → at ≤ k → k < at + n → p k ≡ false
first_nothing p at n e k i j = by_test (p k) refl
  where
    by_test : (b : Bool) → p k ≡ b → p k ≡ false
    by_test true t = absurd (is_one (first_from p at n) e (first_at p at n k i j t))
      where
        is_one : (o : Option ℕ) → o ≡ None → is_found o ≡ true → ⊥
        is_one None f h = false≢true h
        is_one (Some l) f h = absurd (cc)

        first_at : (p : ℕ → Bool) (at n k : ℕ) → at ≤ k → k < at + n → p k ≡ true → is_found (first_from p at n) ≡ true
        first_at p at n k i j t = sym (any_is_first p at n) ∙ any_from_at p at n k i j t
    by_test false t = t

-- ---- tests over the addresses that were found

pub any_none : (p : ℕ → Bool) (at n : ℕ) → ((k : ℕ) → at ≤ k → k < at + n → p k ≡ false) → any_from p at n ≡ false
any_none p at n f = any_is_first p at n ∙ ap is_found (first_none p at n f)

pub any_on : (p : ℕ → Bool) (at at' to : ℕ) → at ≤ at' → at' ≤ to → ((k : ℕ) → at ≤ k → k < at' → p k ≡ false) → any_from p at (to - at) ≡ any_from p at' (to - at')
any_on p at at' to h h' f = any_is_first p at (to - at) ∙ ap is_found (first_on p at at' to h h' f) ∙ sym (any_is_first p at' (to - at'))

pub and_not : (x y : Bool) → y ≡ true → (x && not y) ≡ false
and_not true true h = refl
and_not true false h = absurd (cc)
and_not false y h = refl

and_both : (x y : Bool) → x ≡ true → y ≡ false → (x && not y) ≡ true
and_both true true h k = absurd (cc)
and_both true false h k = refl
and_both false y h k = absurd (cc)

-- a search of one address
pub one_found : (p : ℕ → Bool) (a : ℕ) → is_found (first_from p a (a + 1 - a)) ≡ p a
one_found p a = let n : a + 1 - a ≡ 1 = omega arith in ap (λ (m : ℕ). is_found (first_from p a m)) n ∙ at_one (p a) refl
  where
    at_one : (b : Bool) → p a ≡ b → is_found (first_from p a 1) ≡ p a
    at_one true t = let n : 1 ≡ a + 1 - a = omega arith in ap (λ (m : ℕ). is_found (first_from p a m)) n ∙ ap is_found (first_here p a (a + 1) (omega arith) t) ∙ sym t
    at_one false t = ap is_found (first_none p a 1 (λ k i j. let same : k ≡ a = omega arith in ap p same ∙ t)) ∙ sym t

-- no address passes that isn't allowed, where none passes
pub none_refused : (p a : ℕ → Bool) (at n : ℕ) → first_from p at n ≡ None → any_from (λ k. p k && not (a k)) at n ≡ false
none_refused p a at n e = any_none (λ k. p k && not (a k)) at n (λ k i j. and_left (p k) (not (a k)) (first_nothing p at n e k i j))

pub one_refused : (p a : ℕ → Bool) (at n m : ℕ) → first_from p at n ≡ Some m → a m ≡ false → any_from (λ k. p k && not (a k)) at n ≡ true
one_refused p a at n m e h =
    let f = first_some p at n m e in
    any_from_at (λ k. p k && not (a k)) at n m f.up f.below (and_both (p m) (a m) f.holds h)

pub refused_on : (p a : ℕ → Bool) (at to m last : ℕ) → at ≤ to → first_from p at (to - at) ≡ Some m → m ≤ last → last < to → ((k : ℕ) → m ≤ k → k ≤ last → a k ≡ true) → any_from (λ k. p k && not (a k)) at (to - at) ≡ any_from (λ k. p k && not (a k)) (last + 1) (to - (last + 1))
refused_on p a at to m last o e h h' g =
    let f = first_some p at (to - at) m e in
    let u = f.up in
    any_on (λ k. p k && not (a k)) at (last + 1) to (omega arith) (omega arith) (λ k i j. by_side k (nat_le m k) refl i j f)
  where
    by_side : (k : ℕ) (b : Bool) → nat_le m k ≡ b → at ≤ k → k < last + 1 → FirstFound p at (to - at) m → (p k && not (a k)) ≡ false
    by_side k true t i j f = let up : m ≤ k = grind (arith, nat_tests) in and_not (p k) (a k) (g k up (omega arith))
    by_side k false t i j f = let down : k < m = grind (arith, nat_tests) in and_left (p k) (not (a k)) (f.before k i down)

-- the same of one address
pub one_allowed : (p a : ℕ → Bool) (at to m n : ℕ) → at ≤ to → first_from p at (to - at) ≡ Some m → n ≡ m → a m ≡ true → any_from (λ k. p k && not (a k)) at (to - at) ≡ any_from (λ k. p k && not (a k)) (n + 1) (to - (n + 1))
one_allowed p a at to m n o e s h =
    let f = first_some p at (to - at) m e in
    let u = f.up in
    let w = f.below in
    refused_on p a at to m n o e (omega arith) (omega arith) (λ k i j. let same : k ≡ m = omega arith in ap a same ∙ h)

pub past : (p : ℕ → Bool) (at to : ℕ) → to ≤ at → any_from p at (to - at) ≡ false
past p at to h = any_none p at (to - at) (λ k i j. absurd (omega arith))

-- ---- those that pass

pub passing_none : (p : ℕ → Bool) (at n : ℕ) → ((k : ℕ) → at ≤ k → k < at + n → p k ≡ false) → passing p at n ≡ []
unfolding passing
passing_none p at zero f = refl
passing_none p at (suc n) f =
    ap (λ (b : Bool). cond b (at ∷ passing p (suc at) n) (passing p (suc at) n)) (f at (omega arith) (omega arith))
    ∙ passing_none p (suc at) n (λ k i j. f k (omega arith) (omega arith))

pub passing_skip : (p : ℕ → Bool) (j at n : ℕ) → ((k : ℕ) → at ≤ k → k < at + j → p k ≡ false) → passing p at (j + n) ≡ passing p (at + j) n
unfolding passing
passing_skip p zero at n f = ap₂ (passing p) (omega arith) (omega arith)
passing_skip p (suc j) at n f =
    let e : suc j + n ≡ suc (j + n) = omega arith in
    let g : suc at + j ≡ at + suc j = omega arith in
    ap (passing p at) e
    ∙ ap (λ (b : Bool). cond b (at ∷ passing p (suc at) (j + n)) (passing p (suc at) (j + n))) (f at (omega arith) (omega arith))
    ∙ passing_skip p j (suc at) n (λ k i l. f k (omega arith) (omega arith))
    ∙ ap (λ (m : ℕ). passing p m n) g

pub passing_one : (p : ℕ → Bool) (at n : ℕ) → passing p at (suc n) ≡ cond (p at) (at ∷ passing p (suc at) n) (passing p (suc at) n)
unfolding passing
passing_one p at n = refl

pub passing_here : (p : ℕ → Bool) (at n : ℕ) → p at ≡ true → passing p at (suc n) ≡ at ∷ passing p (suc at) n
unfolding passing
passing_here p at n h = ap (λ (b : Bool). cond b (at ∷ passing p (suc at) n) (passing p (suc at) n)) h

pub passing_end : (p : ℕ → Bool) (at n : ℕ) → first_from p at n ≡ None → passing p at n ≡ []
passing_end p at n e = passing_none p at n (λ k i j. first_nothing p at n e k i j)

pub passing_over : (p : ℕ → Bool) (at to : ℕ) → to ≤ at → passing p at (to - at) ≡ []
passing_over p at to h = passing_none p at (to - at) (λ k i j. absurd (omega arith))

-- the first that passes, and those after it
pub passing_on : (p : ℕ → Bool) (at to m n : ℕ) → at ≤ to → first_from p at (to - at) ≡ Some m → n ≡ m → passing p at (to - at) ≡ m ∷ passing p (n + 1) (to - (n + 1))
passing_on p at to m n o e s =
    let f = first_some p at (to - at) m e in
    let u = f.up in
    let w = f.below in
    let a : to - at ≡ (m - at) + suc (to - (n + 1)) = omega arith in
    let b : at + (m - at) ≡ m = omega arith in
    let c : suc m ≡ n + 1 = omega arith in
    ap (passing p at) a
    ∙ passing_skip p (m - at) at (suc (to - (n + 1))) (λ k i j. f.before k i (omega arith))
    ∙ ap (λ (l : ℕ). passing p l (suc (to - (n + 1)))) b
    ∙ passing_here p m (to - (n + 1)) f.holds
    ∙ ap (λ (l : ℕ). m ∷ passing p l (to - (n + 1))) c

-- ---- tests that agree

pub first_same : (p q : ℕ → Bool) (at n : ℕ) → ((k : ℕ) → p k ≡ q k) → first_from p at n ≡ first_from q at n
unfolding first_from
first_same p q at zero f = refl
first_same p q at (suc n) f = ap₂ (λ (b : Bool) (o : Option ℕ). cond b (Some at) o) (f at) (first_same p q (suc at) n f)

-- ---- words that were found

module _ {T : Type 0} (d : Domain T) (plan : PlanLines) where
  or_nothing : (o : Option T) → or_value d o None ≡ o
  or_nothing None = refl
  or_nothing (Some v) = refl

  words_next : (p : ℕ → Bool) (acc : Option T) (at n : ℕ) → p at ≡ false → join_all d acc (words_from d plan p at (suc n)) ≡ join_all d acc (words_from d plan p (suc at) n)
  unfolding join_all words_from
  words_next p acc at n h =
      ap (λ (b : Bool). join_all d (or_value d acc (word_source d b (word_at plan.image at))) (words_from d plan p (suc at) n)) h
      ∙ ap (λ (o : Option T). join_all d o (words_from d plan p (suc at) n)) (or_nothing acc)

  words_skip : (p : ℕ → Bool) (acc : Option T) (j at n : ℕ) → ((k : ℕ) → at ≤ k → k < at + j → p k ≡ false) → join_all d acc (words_from d plan p at (j + n)) ≡ join_all d acc (words_from d plan p (at + j) n)
  words_skip p acc zero at n f = ap₂ (λ (m l : ℕ). join_all d acc (words_from d plan p m l)) (omega arith) (omega arith)
  words_skip p acc (suc j) at n f =
      let e : suc j + n ≡ suc (j + n) = omega arith in
      let g : suc at + j ≡ at + suc j = omega arith in
      ap (λ (m : ℕ). join_all d acc (words_from d plan p at m)) e ∙ words_next p acc at (j + n) (f at (omega arith) (omega arith))
      ∙ words_skip p acc j (suc at) n (λ k a b. f k (omega arith) (omega arith))
      ∙ ap (λ (m : ℕ). join_all d acc (words_from d plan p m n)) g

  words_end : (p : ℕ → Bool) (acc : Option T) (at : ℕ) → join_all d acc (words_from d plan p at 0) ≡ acc
  unfolding join_all words_from
  words_end p acc at = refl

  pub no_words : (p : ℕ → Bool) (acc : Option T) (at n : ℕ) → first_from p at n ≡ None → join_all d acc (words_from d plan p at n) ≡ acc
  no_words p acc at n e =
      let z : n ≡ n + 0 = omega arith in
      ap (λ (m : ℕ). join_all d acc (words_from d plan p at m)) z
      ∙ words_skip p acc n at 0 (λ k i j. first_nothing p at n e k i j)
      ∙ words_end p acc (at + n)

  pub words_over : (p : ℕ → Bool) (acc : Option T) (at to : ℕ) → to ≤ at → join_all d acc (words_from d plan p at (to - at)) ≡ acc
  words_over p acc at to h =
      let z : to - at ≡ 0 = omega arith in
      ap (λ (m : ℕ). join_all d acc (words_from d plan p at m)) z ∙ words_end p acc at

  words_one : (p : ℕ → Bool) (acc : Option T) (at n : ℕ) → p at ≡ true → join_all d acc (words_from d plan p at (suc n)) ≡ join_all d (or_value d acc (word_source d true (word_at plan.image at))) (words_from d plan p (suc at) n)
  unfolding join_all words_from
  words_one p acc at n h =
      ap (λ (b : Bool). join_all d (or_value d acc (word_source d b (word_at plan.image at))) (words_from d plan p (suc at) n)) h

  pub words_on : (p : ℕ → Bool) (acc : Option T) (at to m : ℕ) → at ≤ to → first_from p at (to - at) ≡ Some m → join_all d acc (words_from d plan p at (to - at)) ≡ join_all d (or_value d acc (word_source d true (word_at plan.image m))) (words_from d plan p (m + 1) (to - (m + 1)))
  words_on p acc at to m o e =
      let f = first_some p at (to - at) m e in
      let u = f.up in
      let w = f.below in
      let a : to - at ≡ (m - at) + suc (to - (m + 1)) = omega arith in
      let b : at + (m - at) ≡ m = omega arith in
      let s : suc m ≡ m + 1 = omega arith in
      ap (λ (l : ℕ). join_all d acc (words_from d plan p at l)) a
      ∙ words_skip p acc (m - at) at (suc (to - (m + 1))) (λ k i j. f.before k i (omega arith))
      ∙ ap (λ (l : ℕ). join_all d acc (words_from d plan p l (suc (to - (m + 1))))) b
      ∙ words_one p acc m (to - (m + 1)) f.holds
      ∙ ap (λ (l : ℕ). join_all d (or_value d acc (word_source d true (word_at plan.image m))) (words_from d plan p l (to - (m + 1)))) s

  -- the same, as code has them
  pub words_next_on : (p : ℕ → Bool) (acc acc' : Option T) (at to m n : ℕ) → at ≤ to → first_from p at (to - at) ≡ Some m → n ≡ m → acc' ≡ or_value d acc (word_source d true (word_at plan.image m)) → join_all d acc (words_from d plan p at (to - at)) ≡ join_all d acc' (words_from d plan p (n + 1) (to - (n + 1)))
  words_next_on p acc acc' at to m n o e s h =
      words_on p acc at to m o e
      ∙ ap (λ (k : ℕ). join_all d (or_value d acc (word_source d true (word_at plan.image m))) (words_from d plan p (k + 1) (to - (k + 1)))) (sym s)
      ∙ ap (λ (o : Option T). join_all d o (words_from d plan p (n + 1) (to - (n + 1)))) (sym h)
