-- Intervals by their ends: the order, the members, and what is cut to the signed values.
use Rattle.std.specs.Prelude.{◌≡◌, ℤ, ◌≤ℤ◌, ◌<ℤ◌, Bool, true, false, ◌&&◌, cond, int_le, Option, Some, None, IsSomeAnd, IfSome}
use Rattle.std.specs.Int.{int_min, int_max}
use Rattle.std.proofs.Common.{refl, sym, ap, subst, arith}
use Rattle.std.proofs.Math.Dec.{T_prop}
use Rattle.std.proofs.lemmas.Int.{ints, clamps}
use Rattle.std.proofs.lemmas.Bool.{and_parts, and_from, false≢true, cond_both}
use Rattle.viper_word.specs.Words.{IsSigned, least_signed, greatest_signed, is_signed}
use Rattle.viper_word.specs.Signed.{wrapped}
use Rattle.viper_word.proofs.SignedLemmas.{wrapped_is, wrapped_in_w}
use Rattle.num_domain.specs.Domain.{Has, Below, BelowOption}
use Rattle.std.specs.Prelude.{unwrap_or}
use Rattle.num_domain.specs.Exact.{SingleLaws}
use Rattle.viper_word.proofs.Options.{some_or_else}
use Rattle.viper_word.proofs.Integers.{le_true, true_le, lt_false, is_signed_true, true_is_signed}
use Rattle.interval_dom.specs.Bounds.{AreEnds}
use Rattle.interval_dom.specs.Intervals.{interval, interval_if, cut, top, unwrapped, single, constant, intervals}
use Rattle.interval_dom.specs.declared.interval.Interval.{Interval}

-- the number lies between the ends
pub record IsBetween (a : Interval) (n : ℤ) : Type 0 where
  pub low : a.lo ≤ℤ n
  pub high : n ≤ℤ a.hi

-- the first lies within the second
pub record LiesWithin (a b : Interval) : Type 0 where
  pub low : b.lo ≤ℤ a.lo
  pub high : a.hi ≤ℤ b.hi

pub has_ends : (a : Interval) (n : ℤ) → Has intervals a n → IsBetween a n
has_ends a n h =
    let p = and_parts (int_le a.lo n) (int_le n a.hi) h.holds in
    record { low = le_true a.lo n p.0; high = le_true n a.hi p.1 }

pub ends_has : (a : Interval) (n : ℤ) → a.lo ≤ℤ n → n ≤ℤ a.hi → Has intervals a n
ends_has a n h k = record { holds = and_from (int_le a.lo n) (int_le n a.hi) (true_le a.lo n h) (true_le n a.hi k) }

pub below_ends : (a b : Interval) → Below intervals a b → LiesWithin a b
below_ends a b h =
    let p = and_parts (int_le b.lo a.lo) (int_le a.hi b.hi) h.holds in
    record { low = le_true b.lo a.lo p.0; high = le_true a.hi b.hi p.1 }

pub ends_below : (a b : Interval) → b.lo ≤ℤ a.lo → a.hi ≤ℤ b.hi → Below intervals a b
ends_below a b h k = record { holds = and_from (int_le b.lo a.lo) (int_le a.hi b.hi) (true_le b.lo a.lo h) (true_le a.hi b.hi k) }

pub has_in_w : (a : Interval) (n : ℤ) → Has intervals a n → IsSigned n
has_in_w a n h =
    let e = a.ends in
    let p = has_ends a n h in
    record { low = omega (arith, ints); high = omega (arith, ints) }

pub below_top : (a : Interval) → Below intervals a top
below_top a = let e = a.ends in ends_below a top e.low e.high

pub below_some_top : (o : Option Interval) → BelowOption intervals o (Some top)
below_some_top None = tt
below_some_top (Some a) = below_top a

pub top_has : (n : ℤ) → IsSigned n → Has intervals top n
top_has n h = ends_has top n h.low h.high

-- two intervals with the same ends are the same
pub ends_prop : (lo hi : ℤ) → IsProp (AreEnds lo hi)
ends_prop lo hi = hlevel T_prop

pub same_from : (a : Interval) (lo hi : ℤ) → a.lo ≡ lo → a.hi ≡ hi → (e : AreEnds lo hi) → a ≡ interval lo hi e
same_from a lo hi p q =
    subst (λ (y : ℤ). (e : AreEnds lo y) → a ≡ interval lo y e) q
    (subst (λ (x : ℤ). (e : AreEnds x a.hi) → a ≡ interval x a.hi e) p (λ e i. interval a.lo a.hi (ends_prop a.lo a.hi a.ends e i)))

pub same_ends : (a b : Interval) → a.lo ≡ b.lo → a.hi ≡ b.hi → a ≡ b
same_ends a b h k = same_from a b.lo b.hi h k b.ends

-- ---- what a cut leaves

interval_if_mono : (lo hi lo' hi' : ℤ) (b b' : Bool) (h : b ≡ true → AreEnds lo hi) (h' : b' ≡ true → AreEnds lo' hi') → (b ≡ true → (b' ≡ true) × (lo' ≤ℤ lo) × (hi ≤ℤ hi')) → BelowOption intervals (interval_if lo hi b h) (interval_if lo' hi' b' h')
interval_if_mono lo hi lo' hi' false b' h h' e = tt
interval_if_mono lo hi lo' hi' true true h h' e = ends_below (interval lo hi (h refl)) (interval lo' hi' (h' refl)) (e refl).1 (e refl).2
interval_if_mono lo hi lo' hi' true false h h' e = absurd (false≢true (e refl).0)

interval_if_is : (r : Interval) (lo hi : ℤ) (b : Bool) (h : b ≡ true → AreEnds lo hi) → b ≡ true → r.lo ≡ lo → r.hi ≡ hi → Some r ≡ interval_if lo hi b h
interval_if_is r lo hi true h e p q = ap (λ (x : Interval). Some x) (same_from r lo hi p q (h refl))
interval_if_is r lo hi false h e p q = absurd (false≢true e)

pub cut_is : (r : Interval) (lo hi : ℤ) → r.lo ≡ int_max lo least_signed → r.hi ≡ int_min hi greatest_signed → Some r ≡ cut lo hi
unfolding cut
cut_is r lo hi p q =
    let o = r.ends.ordered in
    interval_if_is r (int_max lo least_signed) (int_min hi greatest_signed) _ _ (true_le (int_max lo least_signed) (int_min hi greatest_signed) (omega (arith, ints, clamps))) p q

interval_if_none : (lo hi : ℤ) (b : Bool) (h : b ≡ true → AreEnds lo hi) → b ≡ false → None ≡ interval_if lo hi b h
interval_if_none lo hi false h e = refl
interval_if_none lo hi true h e = absurd (false≢true (sym e))

pub cut_none : (lo hi : ℤ) → int_min hi greatest_signed <ℤ int_max lo least_signed → None ≡ cut lo hi
unfolding cut
cut_none lo hi h = interval_if_none (int_max lo least_signed) (int_min hi greatest_signed) _ _ (lt_false (int_max lo least_signed) (int_min hi greatest_signed) h)

pub cut_mono : (lo hi lo' hi' : ℤ) → lo' ≤ℤ lo → hi ≤ℤ hi' → BelowOption intervals (cut lo hi) (cut lo' hi')
unfolding cut
cut_mono lo hi lo' hi' p q =
    interval_if_mono (int_max lo least_signed) (int_min hi greatest_signed) (int_max lo' least_signed) (int_min hi' greatest_signed) _ _ _ _
    (λ e.
    let o = le_true (int_max lo least_signed) (int_min hi greatest_signed) e in
    (true_le (int_max lo' least_signed) (int_min hi' greatest_signed) (omega (arith, ints, clamps)), omega (arith, ints, clamps), omega (arith, ints, clamps)))

interval_if_has : (lo hi n : ℤ) (b : Bool) (h : b ≡ true → AreEnds lo hi) → b ≡ true → lo ≤ℤ n → n ≤ℤ hi → IsSomeAnd (interval_if lo hi b h) (λ r. Has intervals r n)
interval_if_has lo hi n true h e p q = ends_has (interval lo hi (h refl)) n p q
interval_if_has lo hi n false h e p q = absurd (false≢true e)

pub cut_has : (lo hi n : ℤ) → IsSigned n → lo ≤ℤ n → n ≤ℤ hi → IsSomeAnd (cut lo hi) (λ r. Has intervals r n)
unfolding cut
cut_has lo hi n w p q =
    let wl = w.low in
    let wh = w.high in
    interval_if_has (int_max lo least_signed) (int_min hi greatest_signed) n _ _ (true_le (int_max lo least_signed) (int_min hi greatest_signed) (omega (arith, ints, clamps))) (omega (arith, ints, clamps)) (omega (arith, ints, clamps))

-- what holds of each interval that has these ends, holds of what is cut
interval_if_all : (lo hi : ℤ) (b : Bool) (h : b ≡ true → AreEnds lo hi) (P : Interval → Type 0) → ((e : AreEnds lo hi) → P (interval lo hi e)) → IfSome (interval_if lo hi b h) P
interval_if_all lo hi true h P f = f (h refl)
interval_if_all lo hi false h P f = tt

pub cut_all : (lo hi : ℤ) (P : Interval → Type 0) → ((r : Interval) → r.lo ≡ int_max lo least_signed → r.hi ≡ int_min hi greatest_signed → P r) → IfSome (cut lo hi) P
unfolding cut
cut_all lo hi P f = interval_if_all (int_max lo least_signed) (int_min hi greatest_signed) _ _ P (λ e. f (interval (int_max lo least_signed) (int_min hi greatest_signed) e) refl refl)

pub cut_below : (lo hi : ℤ) (a : Interval) → a.lo ≤ℤ lo → hi ≤ℤ a.hi → BelowOption intervals (cut lo hi) (Some a)
cut_below lo hi a p q = cut_all lo hi (λ r. Below intervals r a) (λ r e f. ends_below r a (omega (arith, ints, clamps)) (omega (arith, ints, clamps)))

-- ---- single values

single_when : (a : Interval) (x : ℤ) (b : Bool) → cond b (Some a.lo) None ≡ Some x → (b ≡ true) × (a.lo ≡ x)
single_when a x true e = let f : a.lo ≡ x = cc in (refl, f)
single_when a x false e = cc

pub single_is : (a : Interval) (x : ℤ) → single a ≡ Some x → (a.lo ≡ x) × (a.hi ≡ x)
single_is a x e =
    let p = single_when a x (int_le a.hi a.lo) e in
    let p1 = p.1 in
    let l = le_true a.hi a.lo p.0 in
    let o = a.ends.ordered in
    (p.1, omega (arith, ints))

pub single_from : (a : Interval) (x : ℤ) → a.lo ≡ x → a.hi ≤ℤ x → single a ≡ Some x
single_from a x e h = rw (true_le a.hi a.lo (omega (arith, ints))) (ap (λ (n : ℤ). Some n) e)

pub not_single : (a : Interval) → a.lo <ℤ a.hi → single a ≡ None
not_single a h = rw (lt_false a.hi a.lo h) refl

pub constant_has : (n : ℤ) → IsSigned n → Has intervals (constant n) n
unfolding constant
constant_has n w = some_or_else (λ r. Has intervals r n) (cut n n) top (cut_has n n n w (omega (arith, ints)) (omega (arith, ints)))

constant_below : (a : Interval) (n : ℤ) → Has intervals a n → Below intervals (constant n) a
unfolding constant
constant_below a n h =
    let p = has_ends a n h in
    some_or_else (λ r. Below intervals r a) (cut n n) top
    (both_hold (λ r. Below intervals r a) (λ r. Has intervals r n) (cut n n) (cut_below n n a p.low p.high) (cut_has n n n (has_in_w a n h) (omega (arith, ints)) (omega (arith, ints))))
  where
    both_hold : (P Q : Interval → Type 0) (o : Option Interval) → IfSome o P → IsSomeAnd o Q → IsSomeAnd o P
    both_hold P Q None h k = absurd k
    both_hold P Q (Some x) h k = h

pub constant_is : (r : Interval) (n : ℤ) → r.lo ≡ n → r.hi ≡ n → r ≡ constant n
unfolding constant
constant_is r n p q =
    let e = r.ends in
    let l = r.ends.low in
    let h = r.ends.high in
    ap (λ (o : Option Interval). unwrap_or o top) (cut_is r n n (omega (arith, ints, clamps)) (omega (arith, ints, clamps)))

pub single_laws : SingleLaws intervals single
single_laws = record {
  has = λ a x e. let p = single_is a x e in let p0 = p.0 in let p1 = p.1 in ends_has a x (omega (arith, ints)) (omega (arith, ints));
  only = λ a x n e h. let p = single_is a x e in let p0 = p.0 in let p1 = p.1 in let q = has_ends a n h in omega (arith, ints);
  below = λ a a' x h e. let p = single_is a' x e in let p0 = p.0 in let p1 = p.1 in let q = below_ends a a' h in let o = a.ends.ordered in single_from a x (omega (arith, ints)) (omega (arith, ints));
  least = λ a x h. constant_below a x h;
}

-- ---- where wrapping changes nothing

both_signed : (lo hi : ℤ) → (is_signed lo && is_signed hi) ≡ true → IsSigned lo × IsSigned hi
both_signed lo hi e = let p = and_parts (is_signed lo) (is_signed hi) e in (is_signed_true lo p.0, is_signed_true hi p.1)

signed_both : (lo hi : ℤ) → IsSigned lo → IsSigned hi → (is_signed lo && is_signed hi) ≡ true
signed_both lo hi h k = and_from (is_signed lo) (is_signed hi) (true_is_signed lo h) (true_is_signed hi k)

pub unwrapped_has : (lo hi z : ℤ) → lo ≤ℤ z → z ≤ℤ hi → IsSomeAnd (unwrapped lo hi) (λ r. Has intervals r (wrapped z))
unfolding unwrapped
unwrapped_has lo hi z p q =
    cond_both (is_signed lo && is_signed hi) (cut lo hi) (Some top) (λ o. IsSomeAnd o (λ r. Has intervals r (wrapped z)))
    (λ e.
    let s = both_signed lo hi e in
    let l = s.0.low in
    let h = s.1.high in
    let w : IsSigned z = record { low = omega (arith, ints); high = omega (arith, ints) } in
    let same = wrapped_is z w in
    cut_has lo hi (wrapped z) (wrapped_in_w z) (omega (arith, ints)) (omega (arith, ints)))
    (λ e. top_has (wrapped z) (wrapped_in_w z))

pub unwrapped_mono : (lo hi lo' hi' : ℤ) → lo ≤ℤ hi → lo' ≤ℤ lo → hi ≤ℤ hi' → BelowOption intervals (unwrapped lo hi) (unwrapped lo' hi')
unfolding unwrapped
unwrapped_mono lo hi lo' hi' o p q =
    cond_both (is_signed lo' && is_signed hi') (cut lo' hi') (Some top) (λ r. BelowOption intervals (cond (is_signed lo && is_signed hi) (cut lo hi) (Some top)) r)
    (λ e.
    let s = both_signed lo' hi' e in
    let l = s.0.low in
    let h = s.1.high in
    let wl : IsSigned lo = record { low = omega (arith, ints); high = omega (arith, ints) } in
    let wh : IsSigned hi = record { low = omega (arith, ints); high = omega (arith, ints) } in
    rw (signed_both lo hi wl wh) (cut_mono lo hi lo' hi' p q))
    (λ e. below_some_top (cond (is_signed lo && is_signed hi) (cut lo hi) (Some top)))
