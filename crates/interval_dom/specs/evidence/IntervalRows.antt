-- The rows of intervals are sound and monotone.
use Rattle.std.specs.Prelude.{◌≡◌, ℕ, suc, ◌+◌, ◌*◌, ◌<◌, ◌≤◌, ◌-◌, ◌^◌, ℤ, pos, negsuc, neg_ℤ, ◌+ℤ◌, ◌-ℤ◌, ◌≤ℤ◌, Bool, true, false, ◌&&◌, cond, int_le, nat_le, nat_abs, Option, Some, None, IsSomeAnd}
use Rattle.std.specs.Int.{w32, int_min, int_max, leading_zeros}
use Rattle.std.proofs.Common.{refl, sym, ap, arith, ⊎_elim}
use Rattle.std.proofs.Math.Nat.{pow-le-pow_right}
use Rattle.std.proofs.lemmas.Nat.{leading_length}
use Rattle.std.proofs.lemmas.Int.{ints, clamps}
use Rattle.std.proofs.lemmas.Bool.{and_parts, and_from, false≢true, cond_both, cases_Bool, leb-true, leb-false}
use Rattle.viper_word.specs.Words.{IsSigned, least_signed, greatest_signed, is_signed}
use Rattle.viper_word.specs.Signed.{signed_xor, signed_and, signed_nor, signed_and_not, halved, shifted_right, shifted_left}
use Rattle.viper_word.proofs.SignedLemmas.{signed_and_left, signed_and_right, signed_and_not_left, signed_xor_below, signed_nor_above, halved_twice, shifted_right_set, shifted_right_clear, shifted_right_halved, shifted_left_is}
use Rattle.num_domain.specs.Domain.{Has, Below, BelowOption, LeFlag, MayBe}
use Rattle.num_domain.specs.Laws.{Sound2, SoundFlag, Mono2, MonoFlag}
use Rattle.viper_word.proofs.Integers.{le_true, true_le, is_signed_true, true_is_signed}
use Rattle.interval_dom.specs.Intervals.{cut, top, and_row, power_above, power_of, xor_row, nor_row, and_not_row, right_row, left_row, least_bit, greatest_bit, intervals}
use Rattle.interval_dom.specs.evidence.IntervalOrder.{has_ends, below_ends, has_in_w, below_some_top, top_has, cut_has, cut_mono}
use Rattle.interval_dom.specs.declared.interval.Interval.{Interval}

-- a test that fails sooner for a larger value
pub cond_below : (t t' : Bool) (x y x' y' : Option Interval) → (t' ≡ true → t ≡ true) → (t ≡ true → t' ≡ true → BelowOption intervals x x') → (t ≡ true → t' ≡ false → BelowOption intervals x y') → (t ≡ false → t' ≡ false → BelowOption intervals y y') → BelowOption intervals (cond t x y) (cond t' x' y')
cond_below true true x y x' y' f g h k = g refl refl
cond_below true false x y x' y' f g h k = h refl refl
cond_below false false x y x' y' f g h k = k refl refl
cond_below false true x y x' y' f g h k = absurd (false≢true (f refl))

pub natural_kept : (a a' : Interval) → Below intervals a a' → int_le (pos 0) a'.lo ≡ true → int_le (pos 0) a.lo ≡ true
natural_kept a a' h e =
    let p = (below_ends a a' h).low in
    let f = le_true (pos 0) a'.lo e in
    true_le (pos 0) a.lo (omega (arith, ints))

pub zero_le : pos 0 ≤ℤ pos 0
zero_le = omega (arith, ints)

-- ---- and

pub and_sound : Sound2 intervals and_row signed_and
unfolding and_row
and_sound a b x y h k w =
    let p = has_ends a x h in
    let q = has_ends b y k in
    let z = signed_and x y in
    cond_both (int_le (pos 0) a.lo) (cond (int_le (pos 0) b.lo) (cut (pos 0) (int_min a.hi b.hi)) (cut (pos 0) a.hi)) (cond (int_le (pos 0) b.lo) (cut (pos 0) b.hi) (Some top)) (λ o. IsSomeAnd o (λ r. Has intervals r (signed_and x y)))
    (λ e. let f = le_true (pos 0) a.lo e in
    let s = signed_and_left x y (omega (arith, ints)) (has_in_w a x h) in
    cond_both (int_le (pos 0) b.lo) (cut (pos 0) (int_min a.hi b.hi)) (cut (pos 0) a.hi) (λ o. IsSomeAnd o (λ r. Has intervals r (signed_and x y)))
    (λ g. let i = le_true (pos 0) b.lo g in
    let t = signed_and_right x y (omega (arith, ints)) (has_in_w b y k) in
    cut_has (pos 0) (int_min a.hi b.hi) (signed_and x y) w s.low (omega (arith, ints, clamps)))
    (λ g. cut_has (pos 0) a.hi (signed_and x y) w s.low (omega (arith, ints))))
    (λ e. cond_both (int_le (pos 0) b.lo) (cut (pos 0) b.hi) (Some top) (λ o. IsSomeAnd o (λ r. Has intervals r (signed_and x y)))
    (λ g. let i = le_true (pos 0) b.lo g in
    let t = signed_and_right x y (omega (arith, ints)) (has_in_w b y k) in
    cut_has (pos 0) b.hi (signed_and x y) w t.low (omega (arith, ints)))
    (λ g. top_has (signed_and x y) w))

pub and_mono : Mono2 intervals and_row
unfolding and_row
and_mono a a' b b' h k =
    let p = (below_ends a a' h).high in
    let q = (below_ends b b' k).high in
    let x = cut (pos 0) (int_min a.hi b.hi) in
    let x' = cut (pos 0) (int_min a'.hi b'.hi) in
    let y = cut (pos 0) a.hi in
    let y' = cut (pos 0) a'.hi in
    let z = cut (pos 0) b.hi in
    let z' = cut (pos 0) b'.hi in
    let s = int_le (pos 0) b.lo in
    let s' = int_le (pos 0) b'.lo in
    let kept = natural_kept b b' k in
    cond_below (int_le (pos 0) a.lo) (int_le (pos 0) a'.lo) (cond s x y) (cond s z (Some top)) (cond s' x' y') (cond s' z' (Some top)) (natural_kept a a' h)
    (λ e e'. cond_below s s' x y x' y' kept
    (λ _ _. cut_mono (pos 0) (int_min a.hi b.hi) (pos 0) (int_min a'.hi b'.hi) zero_le (omega (arith, ints, clamps)))
    (λ _ _. cut_mono (pos 0) (int_min a.hi b.hi) (pos 0) a'.hi zero_le (omega (arith, ints, clamps)))
    (λ _ _. cut_mono (pos 0) a.hi (pos 0) a'.hi zero_le (omega (arith, ints))))
    (λ e e'. cond_below s s' x y z' (Some top) kept
    (λ _ _. cut_mono (pos 0) (int_min a.hi b.hi) (pos 0) b'.hi zero_le (omega (arith, ints, clamps)))
    (λ _ _. below_some_top x)
    (λ _ _. below_some_top y))
    (λ e e'. cond_below s s' z (Some top) z' (Some top) kept
    (λ _ _. cut_mono (pos 0) b.hi (pos 0) b'.hi zero_le (omega (arith, ints)))
    (λ _ _. below_some_top z)
    (λ _ _. below_some_top (Some top)))

-- ---- powers of two

pub record IsPower (n p : ℕ) : Type 0 where
  pub exponent : ℕ
  pub is : p ≡ 2 ^ exponent
  pub above : n < p
  pub least : p ≤ 2 * n + 1

pub power_is : (n : ℕ) → n < 2 ^ 32 → IsPower n (power_above n)
unfolding power_above
power_is n h =
    let l = leading_length 32 n h in
    let m = l.0 in
    let e1 = l.1 in
    let e : 32 - leading_zeros w32 n ≡ l.0 = omega arith in
    let same : 2 ^ (32 - leading_zeros w32 n) ≡ 2 ^ l.0 = ap (λ (i : ℕ). 2 ^ i) e in
    let up = l.2 in
    let down = l.3 in
    record { exponent = l.0; is = same; above = omega arith; least = omega arith }

power_suc : (m : ℕ) → 2 ^ (suc m) ≡ 2 * 2 ^ m
power_suc m = grind arith

pub power_mono : (n n' : ℕ) → n ≤ n' → n' < 2 ^ 32 → power_above n ≤ power_above n'
power_mono n n' h l =
    let p = power_is n (omega arith) in
    let q = power_is n' l in
    let pi = p.is in
    let qi = q.is in
    let pl = p.least in
    let qa = q.above in
    ⊎_elim (λ (e : nat_le p.exponent q.exponent ≡ true). let f : 2 ^ p.exponent ≤ 2 ^ q.exponent = pow-le-pow_right {n = 2} (omega arith) (leb-true p.exponent q.exponent e) in omega arith)
    (λ (e : nat_le p.exponent q.exponent ≡ false).
    let f = leb-false p.exponent q.exponent e in
    let g : 2 ^ (suc q.exponent) ≤ 2 ^ p.exponent = pow-le-pow_right {n = 2} (omega arith) f in
    let i = power_suc q.exponent in
    omega arith) (cases_Bool (nat_le p.exponent q.exponent))

-- a power above a number that isn't negative is at most 2^31
pub power_small : (n : ℕ) → n < 2 ^ 31 → power_above n ≤ 2 ^ 31
power_small n h =
    let p = power_is n (omega arith) in
    let pi = p.is in
    let pl = p.least in
    ⊎_elim (λ (e : nat_le p.exponent 31 ≡ true). let f : 2 ^ p.exponent ≤ 2 ^ 31 = pow-le-pow_right {n = 2} (omega arith) (leb-true p.exponent 31 e) in omega arith)
    (λ (e : nat_le p.exponent 31 ≡ false).
    let g : 2 ^ 32 ≤ 2 ^ p.exponent = pow-le-pow_right {n = 2} (omega arith) (leb-false p.exponent 31 e) in
    omega arith) (cases_Bool (nat_le p.exponent 31))

-- what is known where neither has a negative member
pub record AreNatural (a b : Interval) : Type 0 where
  pub first : pos 0 ≤ℤ a.lo
  pub second : pos 0 ≤ℤ b.lo

pub both_natural : (a b : Interval) → (int_le (pos 0) a.lo && int_le (pos 0) b.lo) ≡ true → AreNatural a b
both_natural a b e = let p = and_parts (int_le (pos 0) a.lo) (int_le (pos 0) b.lo) e in record { first = le_true (pos 0) a.lo p.0; second = le_true (pos 0) b.lo p.1 }

both_kept : (a a' b b' : Interval) → Below intervals a a' → Below intervals b b' → (int_le (pos 0) a'.lo && int_le (pos 0) b'.lo) ≡ true → (int_le (pos 0) a.lo && int_le (pos 0) b.lo) ≡ true
both_kept a a' b b' h k e =
    let p = and_parts (int_le (pos 0) a'.lo) (int_le (pos 0) b'.lo) e in
    and_from (int_le (pos 0) a.lo) (int_le (pos 0) b.lo) (natural_kept a a' h p.0) (natural_kept b b' k p.1)

pub widest : Interval → Interval → ℕ
widest a b = nat_abs (int_max a.hi b.hi)

pub widest_small : (a b : Interval) → AreNatural a b → nat_abs (int_max a.hi b.hi) < 2 ^ 31
widest_small a b n =
    let e = a.ends in
    let f = b.ends in
    let n0 = n.first in
    omega (arith, ints, clamps)

powers_grow : (a a' b b' : Interval) → Below intervals a a' → Below intervals b b' → AreNatural a b → AreNatural a' b' → power_of a b ≤ power_of a' b'
powers_grow a a' b b' h k n n' =
    let p = (below_ends a a' h).high in
    let q = (below_ends b b' k).high in
    let e = a.ends in
    let n0 = n.first in
    let s = widest_small a' b' n' in
    power_mono (nat_abs (int_max a.hi b.hi)) (nat_abs (int_max a'.hi b'.hi)) (omega (arith, ints, clamps)) (omega arith)

pub xor_sound : Sound2 intervals xor_row signed_xor
unfolding xor_row
xor_sound a b x y h k w =
    let p = has_ends a x h in
    let q = has_ends b y k in
    cond_both (int_le (pos 0) a.lo && int_le (pos 0) b.lo) (cut (pos 0) (pos (power_of a b) -ℤ pos 1)) (Some top) (λ o. IsSomeAnd o (λ r. Has intervals r (signed_xor x y)))
    (λ e. let n = both_natural a b e in
    let n0 = n.first in
    let n1 = n.second in
    let s = widest_small a b n in
    let pw = power_is (nat_abs (int_max a.hi b.hi)) (omega arith) in
    let small = power_small (nat_abs (int_max a.hi b.hi)) s in
    let is = pw.is in
    let above = pw.above in
    let z = signed_xor_below x y pw.exponent (omega (arith, ints)) (omega (arith, ints)) (omega (arith, ints, clamps)) (omega (arith, ints, clamps)) (omega arith) in
    cut_has (pos 0) (pos (power_of a b) -ℤ pos 1) (signed_xor x y) w z.low (omega (arith, ints)))
    (λ e. top_has (signed_xor x y) w)

pub xor_mono : Mono2 intervals xor_row
unfolding xor_row
xor_mono a a' b b' h k =
    let x = cut (pos 0) (pos (power_of a b) -ℤ pos 1) in
    cond_below (int_le (pos 0) a.lo && int_le (pos 0) b.lo) (int_le (pos 0) a'.lo && int_le (pos 0) b'.lo) x (Some top) (cut (pos 0) (pos (power_of a' b') -ℤ pos 1)) (Some top) (both_kept a a' b b' h k)
    (λ e e'. let g = powers_grow a a' b b' h k (both_natural a b e) (both_natural a' b' e') in cut_mono (pos 0) (pos (power_of a b) -ℤ pos 1) (pos 0) (pos (power_of a' b') -ℤ pos 1) zero_le (omega (arith, ints)))
    (λ _ _. below_some_top x)
    (λ _ _. below_some_top (Some top))

pub nor_sound : Sound2 intervals nor_row signed_nor
unfolding nor_row
nor_sound a b x y h k w =
    let p = has_ends a x h in
    let q = has_ends b y k in
    cond_both (int_le (pos 0) a.lo && int_le (pos 0) b.lo) (cut (neg_ℤ (pos (power_of a b))) (negsuc 0)) (Some top) (λ o. IsSomeAnd o (λ r. Has intervals r (signed_nor x y)))
    (λ e. let n = both_natural a b e in
    let n0 = n.first in
    let n1 = n.second in
    let s = widest_small a b n in
    let pw = power_is (nat_abs (int_max a.hi b.hi)) (omega arith) in
    let small = power_small (nat_abs (int_max a.hi b.hi)) s in
    let is = pw.is in
    let above = pw.above in
    let z = signed_nor_above x y pw.exponent (omega (arith, ints)) (omega (arith, ints)) (omega (arith, ints, clamps)) (omega (arith, ints, clamps)) (omega arith) in
    cut_has (neg_ℤ (pos (power_of a b))) (negsuc 0) (signed_nor x y) w (omega (arith, ints)) z.high)
    (λ e. top_has (signed_nor x y) w)

pub nor_mono : Mono2 intervals nor_row
unfolding nor_row
nor_mono a a' b b' h k =
    let x = cut (neg_ℤ (pos (power_of a b))) (negsuc 0) in
    cond_below (int_le (pos 0) a.lo && int_le (pos 0) b.lo) (int_le (pos 0) a'.lo && int_le (pos 0) b'.lo) x (Some top) (cut (neg_ℤ (pos (power_of a' b'))) (negsuc 0)) (Some top) (both_kept a a' b b' h k)
    (λ e e'. let g = powers_grow a a' b b' h k (both_natural a b e) (both_natural a' b' e') in cut_mono (neg_ℤ (pos (power_of a b))) (negsuc 0) (neg_ℤ (pos (power_of a' b'))) (negsuc 0) (omega (arith, ints)) (omega (arith, ints)))
    (λ _ _. below_some_top x)
    (λ _ _. below_some_top (Some top))

pub and_not_sound : Sound2 intervals and_not_row signed_and_not
unfolding and_not_row
and_not_sound a b x y h k w =
    let p = has_ends a x h in
    cond_both (int_le (pos 0) a.lo) (cut (pos 0) a.hi) (Some top) (λ o. IsSomeAnd o (λ r. Has intervals r (signed_and_not x y)))
    (λ e. let f = le_true (pos 0) a.lo e in
    let s = signed_and_not_left x y (omega (arith, ints)) (has_in_w a x h) in
    cut_has (pos 0) a.hi (signed_and_not x y) w s.low (omega (arith, ints)))
    (λ e. top_has (signed_and_not x y) w)

pub and_not_mono : Mono2 intervals and_not_row
unfolding and_not_row
and_not_mono a a' b b' h k =
    let p = (below_ends a a' h).high in
    cond_below (int_le (pos 0) a.lo) (int_le (pos 0) a'.lo) (cut (pos 0) a.hi) (Some top) (cut (pos 0) a'.hi) (Some top) (natural_kept a a' h)
    (λ _ _. cut_mono (pos 0) a.hi (pos 0) a'.hi zero_le p)
    (λ _ _. below_some_top (cut (pos 0) a.hi))
    (λ _ _. below_some_top (Some top))

-- ---- shifts

pub halved_mono : (x y : ℤ) → x ≤ℤ y → halved x ≤ℤ halved y
halved_mono x y h =
    let p = (halved_twice x).low in
    let q = (halved_twice y).high in
    omega (arith, ints)

pub right_sound : SoundFlag intervals right_row shifted_right
unfolding right_row
right_sound a None c x h m w = top_has (shifted_right c x) w
right_sound a (Some true) true x h m w = let s = shifted_right_set x (has_in_w a x h) in cut_has least_signed (negsuc 0) (shifted_right true x) w s.low s.high
right_sound a (Some true) false x h m w = absurd (false≢true (sym m))
right_sound a (Some false) true x h m w = absurd (false≢true m)
right_sound a (Some false) false x h m w =
    let p = has_ends a x h in
    cond_both (int_le (pos 0) a.lo) (cut (halved a.lo) (halved a.hi)) (cut (pos 0) greatest_signed) (λ o. IsSomeAnd o (λ r. Has intervals r (shifted_right false x)))
    (λ e. let f = le_true (pos 0) a.lo e in
    let same = shifted_right_halved x (has_in_w a x h) (omega (arith, ints)) in
    let l = halved_mono a.lo x p.low in
    let g = halved_mono x a.hi p.high in
    cut_has (halved a.lo) (halved a.hi) (shifted_right false x) w (omega (arith, ints)) (omega (arith, ints)))
    (λ e. let s = shifted_right_clear x (has_in_w a x h) in cut_has (pos 0) greatest_signed (shifted_right false x) w s.low s.high)

halved_natural : (x : ℤ) → pos 0 ≤ℤ x → pos 0 ≤ℤ halved x
halved_natural x h = let p = (halved_twice x).high in omega (arith, ints)

pub right_mono : MonoFlag intervals right_row
unfolding right_row
right_mono a a' None None h l = below_some_top (Some top)
right_mono a a' None (Some b') h l = absurd l
right_mono a a' (Some true) None h l = below_some_top (cut least_signed (negsuc 0))
right_mono a a' (Some false) None h l = below_some_top (cond (int_le (pos 0) a.lo) (cut (halved a.lo) (halved a.hi)) (cut (pos 0) greatest_signed))
right_mono a a' (Some true) (Some true) h l = cut_mono least_signed (negsuc 0) least_signed (negsuc 0) (omega (arith, ints)) (omega (arith, ints))
right_mono a a' (Some true) (Some false) h l = absurd (false≢true (sym l))
right_mono a a' (Some false) (Some true) h l = absurd (false≢true l)
right_mono a a' (Some false) (Some false) h l =
    let p = below_ends a a' h in
    let e = a.ends in
    cond_below (int_le (pos 0) a.lo) (int_le (pos 0) a'.lo) (cut (halved a.lo) (halved a.hi)) (cut (pos 0) greatest_signed) (cut (halved a'.lo) (halved a'.hi)) (cut (pos 0) greatest_signed) (natural_kept a a' h)
    (λ _ _. cut_mono (halved a.lo) (halved a.hi) (halved a'.lo) (halved a'.hi) (halved_mono a'.lo a.lo p.low) (halved_mono a.hi a'.hi p.high))
    (λ t _. let n = halved_natural a.lo (le_true (pos 0) a.lo t) in
    let s = (halved_twice a.hi).low in
    let o = a.ends.high in
    cut_mono (halved a.lo) (halved a.hi) (pos 0) greatest_signed n (omega (arith, ints)))
    (λ _ _. cut_mono (pos 0) greatest_signed (pos 0) greatest_signed zero_le (omega (arith, ints)))

-- the bit that is shifted in
pub bit_between : (b : Option Bool) (c : Bool) → MayBe b c → (least_bit b ≤ℤ cond c (pos 1) (pos 0)) × (cond c (pos 1) (pos 0) ≤ℤ greatest_bit b)
bit_between None true m = (omega (arith, ints), omega (arith, ints))
bit_between None false m = (omega (arith, ints), omega (arith, ints))
bit_between (Some true) true m = (omega (arith, ints), omega (arith, ints))
bit_between (Some false) false m = (omega (arith, ints), omega (arith, ints))
bit_between (Some true) false m = absurd (false≢true (sym m))
bit_between (Some false) true m = absurd (false≢true m)

pub bit_range : (b : Option Bool) → (pos 0 ≤ℤ least_bit b) × (greatest_bit b ≤ℤ pos 1) × (least_bit b ≤ℤ greatest_bit b)
bit_range None = (omega (arith, ints), omega (arith, ints), omega (arith, ints))
bit_range (Some true) = (omega (arith, ints), omega (arith, ints), omega (arith, ints))
bit_range (Some false) = (omega (arith, ints), omega (arith, ints), omega (arith, ints))

bits_grow : (b b' : Option Bool) → LeFlag b b' → (least_bit b' ≤ℤ least_bit b) × (greatest_bit b ≤ℤ greatest_bit b')
bits_grow b None l = let p = bit_range b in (p.0, p.1)
bits_grow None (Some c) l = absurd l
bits_grow (Some true) (Some true) l = (omega (arith, ints), omega (arith, ints))
bits_grow (Some false) (Some false) l = (omega (arith, ints), omega (arith, ints))
bits_grow (Some true) (Some false) l = absurd (false≢true (sym l))
bits_grow (Some false) (Some true) l = absurd (false≢true l)

doubles_signed : (a : Interval) → (is_signed (a.lo +ℤ a.lo) && is_signed (a.hi +ℤ a.hi +ℤ pos 1)) ≡ true → IsSigned (a.lo +ℤ a.lo) × IsSigned (a.hi +ℤ a.hi +ℤ pos 1)
doubles_signed a e = let p = and_parts (is_signed (a.lo +ℤ a.lo)) (is_signed (a.hi +ℤ a.hi +ℤ pos 1)) e in (is_signed_true (a.lo +ℤ a.lo) p.0, is_signed_true (a.hi +ℤ a.hi +ℤ pos 1) p.1)

pub left_sound : SoundFlag intervals left_row shifted_left
unfolding left_row
left_sound a b c x h m w =
    let p = has_ends a x h in
    let i = bit_between b c m in
    let i0 = i.0 in
    let i1 = i.1 in
    let r = bit_range b in
    let r0 = r.0 in
    let r1 = r.1 in
    let z = x +ℤ x +ℤ cond c (pos 1) (pos 0) in
    cond_both (is_signed (a.lo +ℤ a.lo) && is_signed (a.hi +ℤ a.hi +ℤ pos 1)) (cut (a.lo +ℤ a.lo +ℤ least_bit b) (a.hi +ℤ a.hi +ℤ greatest_bit b)) (Some top) (λ o. IsSomeAnd o (λ r. Has intervals r (shifted_left c x)))
    (λ e. let s = doubles_signed a e in
    let l = s.0.low in
    let g = s.1.high in
    let v : IsSigned (x +ℤ x +ℤ cond c (pos 1) (pos 0)) = record { low = omega (arith, ints); high = omega (arith, ints) } in
    let same = shifted_left_is c x v in
    cut_has (a.lo +ℤ a.lo +ℤ least_bit b) (a.hi +ℤ a.hi +ℤ greatest_bit b) (shifted_left c x) w (omega (arith, ints)) (omega (arith, ints)))
    (λ e. top_has (shifted_left c x) w)

pub left_mono : MonoFlag intervals left_row
unfolding left_row
left_mono a a' b b' h l =
    let p = below_ends a a' h in
    let o = a.ends.ordered in
    let g = bits_grow b b' l in
    let g0 = g.0 in
    let g1 = g.1 in
    let x = cut (a.lo +ℤ a.lo +ℤ least_bit b) (a.hi +ℤ a.hi +ℤ greatest_bit b) in
    cond_below (is_signed (a.lo +ℤ a.lo) && is_signed (a.hi +ℤ a.hi +ℤ pos 1)) (is_signed (a'.lo +ℤ a'.lo) && is_signed (a'.hi +ℤ a'.hi +ℤ pos 1)) x (Some top) (cut (a'.lo +ℤ a'.lo +ℤ least_bit b') (a'.hi +ℤ a'.hi +ℤ greatest_bit b')) (Some top)
    (λ e. let s = doubles_signed a' e in
    let sl = s.0.low in
    let sg = s.1.high in
    and_from (is_signed (a.lo +ℤ a.lo)) (is_signed (a.hi +ℤ a.hi +ℤ pos 1)) (true_is_signed (a.lo +ℤ a.lo) (record { low = omega (arith, ints); high = omega (arith, ints) })) (true_is_signed (a.hi +ℤ a.hi +ℤ pos 1) (record { low = omega (arith, ints); high = omega (arith, ints) })))
    (λ _ _. cut_mono (a.lo +ℤ a.lo +ℤ least_bit b) (a.hi +ℤ a.hi +ℤ greatest_bit b) (a'.lo +ℤ a'.lo +ℤ least_bit b') (a'.hi +ℤ a'.hi +ℤ greatest_bit b') (omega (arith, ints)) (omega (arith, ints)))
    (λ _ _. below_some_top x)
    (λ _ _. below_some_top (Some top))
