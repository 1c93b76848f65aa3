-- The steps of a search for the first address that passes, and of one that leaps over a value's numbers.
use Rattle.std.specs.Prelude.{◌≡◌, ℕ, ◌+◌, ◌-◌, ◌<◌, ◌≤◌, ℤ, pos, ◌-ℤ◌, ◌+ℤ◌, ◌≤ℤ◌, ◌<ℤ◌, int_le, Bool, true, false, ◌&&◌, ◌||◌, cond, Option, Some, None, IfSome, IsSomeAnd}
use Rattle.std.specs.Ordering.{int_eq}
use Rattle.std.proofs.Common.{refl, arith, zero, suc, sym, subst, ◌∙◌, ap}
use Rattle.std.proofs.Math.Path.{ap₂}
use Rattle.std.proofs.lemmas.Int.{ints}
use Rattle.std.proofs.lemmas.Bool.{and_from, and_right}
use Rattle.viper_word.specs.Words.{least_signed, greatest_signed}
use Rattle.viper_word.specs.Options.{bind}
use Rattle.viper_word.proofs.Integers.{le_true, true_le, lt_false}
use Rattle.num_domain.specs.Domain.{Domain}
use Rattle.num_domain.specs.Laws.{DomainLaws}
use Rattle.num_domain.specs.Ends.{Ends, ends_when, ends, is_point, is_between, same_as}
use Rattle.num_domain.proofs.EndsLaws.{none_before, none_after}
use Rattle.abs_step.specs.Addresses.{any_from}
use Rattle.abs_step.specs.Results.{ends_within}
use Rattle.abs_step.specs.Walks.{first_from, both, is_found, is_moved_point}

by_cond : (b : Bool) (o q r : Option ℕ) → (b ≡ true → o ≡ r) → (b ≡ false → q ≡ r) → cond b o q ≡ r
by_cond true o q r f g = f refl
by_cond false o q r f g = g refl

-- ---- the first that passes

pub first_next : (p : ℕ → Bool) (at n : ℕ) → p at ≡ false → first_from p at (suc n) ≡ first_from p (suc at) n
unfolding first_from
first_next p at n h = ap (λ (b : Bool). cond b (Some at) (first_from p (suc at) n)) h

-- addresses at which nothing passes may be left out
pub first_skip : (p : ℕ → Bool) (j at n : ℕ) → ((k : ℕ) → at ≤ k → k < at + j → p k ≡ false) → first_from p at (j + n) ≡ first_from p (at + j) n
first_skip p zero at n f = ap₂ (first_from p) (omega arith) (omega arith)
first_skip p (suc j) at n f =
    let e : suc j + n ≡ suc (j + n) = omega arith in
    let g : suc at + j ≡ at + suc j = omega arith in
    ap (first_from p at) e ∙ first_next p at (j + n) (f at (omega arith) (omega arith)) ∙ first_skip p j (suc at) n (λ k a b. f k (omega arith) (omega arith)) ∙ ap (λ (m : ℕ). first_from p m n) g

pub first_none : (p : ℕ → Bool) (at n : ℕ) → ((k : ℕ) → at ≤ k → k < at + n → p k ≡ false) → first_from p at n ≡ None
unfolding first_from
first_none p at zero f = refl
first_none p at (suc n) f = first_next p at n (f at (omega arith) (omega arith)) ∙ first_none p (suc at) n (λ k a b. f k (omega arith) (omega arith))

-- the search goes on where nothing passes before
pub first_on : (p : ℕ → Bool) (at at' to : ℕ) → at ≤ at' → at' ≤ to → ((k : ℕ) → at ≤ k → k < at' → p k ≡ false) → first_from p at (to - at) ≡ first_from p at' (to - at')
first_on p at at' to h h' f =
    let e : to - at ≡ (at' - at) + (to - at') = omega arith in
    let g : at + (at' - at) ≡ at' = omega arith in
    ap (first_from p at) e ∙ first_skip p (at' - at) at (to - at') (λ k a b. f k a (omega arith)) ∙ ap (λ (m : ℕ). first_from p m (to - at')) g

pub first_here : (p : ℕ → Bool) (at to : ℕ) → at < to → p at ≡ true → first_from p at (to - at) ≡ Some at
unfolding first_from
first_here p at to h t =
    let e : to - at ≡ suc (to - at - 1) = omega arith in
    ap (first_from p at) e ∙ ap (λ (b : Bool). cond b (Some at) (first_from p (suc at) (to - at - 1))) t

pub first_over : (p : ℕ → Bool) (at to : ℕ) → to ≤ at → first_from p at (to - at) ≡ None
first_over p at to h = first_none p at (to - at) (λ k a b. absurd (omega arith))

-- some address passes where a first one does
pub any_is_first : (p : ℕ → Bool) (at n : ℕ) → any_from p at n ≡ is_found (first_from p at n)
unfolding any_from first_from
any_is_first p at zero = refl
any_is_first p at (suc n) = by_test (p at) (any_is_first p (suc at) n)
  where
    by_test : (b : Bool) → any_from p (suc at) n ≡ is_found (first_from p (suc at) n) → (b || any_from p (suc at) n) ≡ is_found (cond b (Some at) (first_from p (suc at) n))
    by_test true h = refl
    by_test false h = h

-- ---- ends, and points

abbrev between_both : ℤ → Option (ℤ × ℤ) → Bool
between_both n None = false
between_both n (Some e) = int_le e.0 n && int_le n e.1

between_is : (n : ℤ) (o : Option Ends) → is_between n o ≡ between_both n (both o)
between_is n None = refl
between_is n (Some e) = refl

pub int_same : (x : ℤ) → int_eq x x ≡ true
int_same x = grind (arith, ints)

when_both : (lo hi : ℤ) (b : Bool) (e : int_le lo hi ≡ b) → both (ends_when lo hi b e) ≡ cond b (Some (lo, hi)) None
unfolding ends_when
when_both lo hi true e = refl
when_both lo hi false e = refl

-- both ends, as the two searches find them
abbrev pub found_ends : Option ℤ → Option ℤ → Option (ℤ × ℤ)
found_ends None q = None
found_ends (Some lo) None = None
found_ends (Some lo) (Some hi) = cond (int_le lo hi) (Some (lo, hi)) None

abbrev pub low_of : Option (ℤ × ℤ) → ℤ
low_of None = pos 0
low_of (Some e) = e.0

abbrev pub high_of : Option (ℤ × ℤ) → ℤ
high_of None = pos 0
high_of (Some e) = e.1

module _ {T : Type 0} (d : Domain T) where
  -- the ends, by the two searches
  pub ends_both : (v : T) → both (ends d v) ≡ found_ends (d.least_from v least_signed) (d.greatest_to v greatest_signed)
  unfolding ends
  ends_both v = by_ends (d.least_from v least_signed) (d.greatest_to v greatest_signed)
    where
      by_ends : (o q : Option ℤ) → both (bind o (λ lo. bind q (λ hi. ends_when lo hi (int_le lo hi) refl))) ≡ found_ends o q
      by_ends None q = refl
      by_ends (Some lo) None = refl
      by_ends (Some lo) (Some hi) = when_both lo hi (int_le lo hi) refl

  pub ends_none : (v : T) → d.least_from v least_signed ≡ None → both (ends d v) ≡ None
  ends_none v e = ends_both v ∙ ap (λ (o : Option ℤ). found_ends o (d.greatest_to v greatest_signed)) e

  pub ends_low : (v : T) (lo : ℤ) → d.least_from v least_signed ≡ Some lo → d.greatest_to v greatest_signed ≡ None → both (ends d v) ≡ None
  ends_low v lo e f = ends_both v ∙ ap₂ found_ends e f

  pub ends_found : (v : T) (lo hi : ℤ) → d.least_from v least_signed ≡ Some lo → d.greatest_to v greatest_signed ≡ Some hi → int_le lo hi ≡ true → both (ends d v) ≡ Some (lo, hi)
  ends_found v lo hi e f h = ends_both v ∙ ap₂ found_ends e f ∙ ap (λ (b : Bool). cond {A = Option (ℤ × ℤ)} b (Some (lo, hi)) None) h

  pub ends_apart : (v : T) (lo hi : ℤ) → d.least_from v least_signed ≡ Some lo → d.greatest_to v greatest_signed ≡ Some hi → int_le lo hi ≡ false → both (ends d v) ≡ None
  ends_apart v lo hi e f h = ends_both v ∙ ap₂ found_ends e f ∙ ap (λ (b : Bool). cond {A = Option (ℤ × ℤ)} b (Some (lo, hi)) None) h

-- ends that lie below the upper bound, where they lie above the lower one
pub lies_from : (o : Option Ends) (base lo hi l h : ℤ) → Some (l, h) ≡ both o → int_le lo (base +ℤ l) ≡ true → int_le (base +ℤ h) hi ≡ ends_within o base lo hi
lies_from None base lo hi l h e t = absurd (cc)
lies_from (Some r) base lo hi l h e t = by_ends r.lo r.hi (ap low_of e) (ap high_of e) t
  where
    by_ends : (a b : ℤ) → l ≡ a → h ≡ b → int_le lo (base +ℤ l) ≡ true → int_le (base +ℤ h) hi ≡ (int_le lo (base +ℤ a) && int_le (base +ℤ b) hi)
    by_ends a b e f t =
        ap (λ (z : ℤ). int_le (base +ℤ z) hi) f
        ∙ ap (λ (c : Bool). c && int_le (base +ℤ b) hi) (sym (sym (ap (λ (z : ℤ). int_le lo (base +ℤ z)) e) ∙ t))

abbrev pub some_ends : ℤ → ℤ → Option (ℤ × ℤ)
some_ends lo hi = Some (lo, hi)

module _ {T : Type 0} (d : Domain T) (laws : DomainLaws d) where
  -- without ends there is no point
  no_ends : (v : T) (n : ℤ) → both (ends d v) ≡ None → is_point d v n ≡ false
  unfolding is_point
  no_ends v n e = ap (λ (b : Bool). b && same_as n (d.least_from v n)) (between_is n (ends d v) ∙ ap (between_both n) e)

  -- nor is there one before the least number from k on
  pub no_point : (v : T) (k j m : ℤ) → k ≤ℤ j → j <ℤ m → d.least_from v k ≡ Some m → is_point d v j ≡ false
  unfolding is_point
  no_point v k j m h g e = and_right (is_between j (ends d v)) (same_as j (d.least_from v j)) (none_before d laws v k j m h g e)

  pub no_more : (v : T) (k j : ℤ) → k ≤ℤ j → d.least_from v k ≡ None → is_point d v j ≡ false
  unfolding is_point
  no_more v k j h e = and_right (is_between j (ends d v)) (same_as j (d.least_from v j)) (none_after d laws v k j h e)

  -- nor beyond the greatest
  no_beyond : (v : T) (j lo hi : ℤ) → both (ends d v) ≡ Some (lo, hi) → hi <ℤ j → is_point d v j ≡ false
  unfolding is_point
  no_beyond v j lo hi e h =
      let f : is_between j (ends d v) ≡ false = between_is j (ends d v) ∙ ap (between_both j) e ∙ and_right (int_le lo j) (int_le j hi) (lt_false j hi h) in
      ap (λ (b : Bool). b && same_as j (d.least_from v j)) f

  -- a number that is its own least is a point, up to the greatest
  is_own : (v : T) (j lo hi : ℤ) → both (ends d v) ≡ Some (lo, hi) → j ≤ℤ hi → lo ≤ℤ j → d.least_from v j ≡ Some j → is_point d v j ≡ true
  unfolding is_point
  is_own v j lo hi e h l f =
      let g : is_between j (ends d v) ≡ true = between_is j (ends d v) ∙ ap (between_both j) e ∙ and_from (int_le lo j) (int_le j hi) (true_le lo j l) (true_le j hi h) in
      let s : same_as j (d.least_from v j) ≡ true = ap (same_as j) f ∙ int_same j in
      and_from (is_between j (ends d v)) (same_as j (d.least_from v j)) g s

  -- ---- where only the greatest number is asked for

  no_high : (v : T) (j : ℤ) → d.greatest_to v greatest_signed ≡ None → is_point d v j ≡ false
  no_high v j e = no_ends v j (ends_both d v ∙ ap (found_ends (d.least_from v least_signed)) e ∙ none (d.least_from v least_signed))
    where
      none : (o : Option ℤ) → found_ends o None ≡ None
      none None = refl
      none (Some lo) = refl

  above_high : (v : T) (j hi : ℤ) → d.greatest_to v greatest_signed ≡ Some hi → hi <ℤ j → is_point d v j ≡ false
  above_high v j hi e h = by_low (d.least_from v least_signed) (ends_both d v ∙ ap (found_ends (d.least_from v least_signed)) e)
    where
      by_order : (lo : ℤ) (b : Bool) → both (ends d v) ≡ cond {A = Option (ℤ × ℤ)} b (Some (lo, hi)) None → is_point d v j ≡ false
      by_order lo true f = no_beyond v j lo hi f h
      by_order lo false f = no_ends v j f

      by_low : (o : Option ℤ) → both (ends d v) ≡ found_ends o (Some hi) → is_point d v j ≡ false
      by_low None f = no_ends v j f
      by_low (Some lo) f = by_order lo (int_le lo hi) f

  -- the least number of all is at most one that is its own least
  own_point : (v : T) (j hi : ℤ) → d.greatest_to v greatest_signed ≡ Some hi → least_signed ≤ℤ j → j ≤ℤ hi → d.least_from v j ≡ Some j → is_point d v j ≡ true
  own_point v j hi e l h f =
      let a = laws.spans.least_mono v v j least_signed (laws.order.refl v) l in
      let b : IfSome (Some j) (λ i. IsSomeAnd (d.least_from v least_signed) (λ i'. i' ≤ℤ i)) = subst (λ (o : Option ℤ). IfSome o (λ i. IsSomeAnd (d.least_from v least_signed) (λ i'. i' ≤ℤ i))) f a in
      by_low (d.least_from v least_signed) (ends_both d v ∙ ap (found_ends (d.least_from v least_signed)) e) b
    where
      by_low : (o : Option ℤ) → both (ends d v) ≡ found_ends o (Some hi) → IsSomeAnd o (λ i. i ≤ℤ j) → is_point d v j ≡ true
      by_low None g k = absurd k
      by_low (Some lo) g k =
          let order : lo ≤ℤ hi = omega (arith, ints) in
          is_own v j lo hi (g ∙ ap (λ (b : Bool). cond {A = Option (ℤ × ℤ)} b (Some (lo, hi)) None) (true_le lo hi order)) h k f

  -- ---- the search over moved points

  pub walk_no_high : (v : T) (base at n : ℕ) → d.greatest_to v greatest_signed ≡ None → first_from (is_moved_point d v base) at n ≡ None
  walk_no_high v base at n e = first_none (is_moved_point d v base) at n (λ k a b. no_high v (pos k -ℤ pos base) e)

  pub walk_none : (v : T) (base at n : ℕ) (i : ℤ) → i ≡ (pos at -ℤ pos base) → d.least_from v i ≡ None → first_from (is_moved_point d v base) at n ≡ None
  walk_none v base at n i s e = first_none (is_moved_point d v base) at n (λ k a b. no_more v i (pos k -ℤ pos base) (omega (arith, ints)) e)

  pub walk_beyond : (v : T) (base at n : ℕ) (i m hi : ℤ) → i ≡ (pos at -ℤ pos base) → d.least_from v i ≡ Some m → d.greatest_to v greatest_signed ≡ Some hi → hi <ℤ m → first_from (is_moved_point d v base) at n ≡ None
  walk_beyond v base at n i m hi s e f h =
      first_none (is_moved_point d v base) at n (λ k a b. by_side k a (int_le m (pos k -ℤ pos base)) refl)
    where
      by_side : (k : ℕ) → at ≤ k → (t : Bool) → int_le m (pos k -ℤ pos base) ≡ t → is_moved_point d v base k ≡ false
      by_side k a true g = let w = le_true m (pos k -ℤ pos base) g in above_high v (pos k -ℤ pos base) hi f (omega (arith, ints))
      by_side k a false g = no_point v i (pos k -ℤ pos base) m (omega (arith, ints)) (grind (arith, ints)) e

  pub walk_past : (v : T) (base at to : ℕ) (i m : ℤ) → i ≡ (pos at -ℤ pos base) → d.least_from v i ≡ Some m → (pos to -ℤ pos base) ≤ℤ m → first_from (is_moved_point d v base) at (to - at) ≡ None
  walk_past v base at to i m s e h =
      first_none (is_moved_point d v base) at (to - at) (λ k a b. no_point v i (pos k -ℤ pos base) m (omega (arith, ints)) (omega (arith, ints)) e)

  pub walk_here : (v : T) (base at to : ℕ) (i hi : ℤ) → i ≡ (pos at -ℤ pos base) → d.least_from v i ≡ Some i → d.greatest_to v greatest_signed ≡ Some hi → i ≤ℤ hi → least_signed ≤ℤ i → at < to → first_from (is_moved_point d v base) at (to - at) ≡ Some at
  walk_here v base at to i hi s e f h l g =
      first_here (is_moved_point d v base) at to g (subst (λ (z : ℤ). is_point d v z ≡ true) s (own_point v i hi f l h e))

  pub walk_on : (v : T) (base at at' to : ℕ) (i m : ℤ) → i ≡ (pos at -ℤ pos base) → d.least_from v i ≡ Some m → m ≡ (pos at' -ℤ pos base) → at ≤ at' → at' ≤ to → first_from (is_moved_point d v base) at (to - at) ≡ first_from (is_moved_point d v base) at' (to - at')
  walk_on v base at at' to i m s e s' h h' =
      first_on (is_moved_point d v base) at at' to h h' (λ k a b. no_point v i (pos k -ℤ pos base) m (omega (arith, ints)) (omega (arith, ints)) e)
