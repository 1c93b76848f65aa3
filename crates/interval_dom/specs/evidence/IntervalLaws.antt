-- The laws of intervals.
use Rattle.std.specs.Prelude.{◌≡◌, ◌<◌, ◌-◌, ◌%◌, ◌^◌, ◌==◌, ℤ, pos, neg_ℤ, ◌+ℤ◌, ◌-ℤ◌, ◌≤ℤ◌, ◌<ℤ◌, ◌⊎◌, Bool, true, false, ◌&&◌, ◌||◌, int_le, nat_abs, Some, IsSomeAnd}
use Rattle.std.specs.Ordering.{int_eq}
use Rattle.std.specs.Int.{int_min, int_max}
use Rattle.std.proofs.Common.{refl, arith, ⊎_elim, inl, inr}
use Rattle.std.proofs.lemmas.Int.{ints, clamps}
use Rattle.std.proofs.lemmas.Bool.{and_parts, and_from, and_cases, false≢true, or_cases}
use Rattle.viper_word.specs.Words.{IsSigned}
use Rattle.viper_word.specs.Signed.{wrapped, signed_xor, signed_and, signed_nor, signed_and_not, halved, shifted_right, shifted_left}
use Rattle.num_domain.specs.Domain.{Has, Below}
use Rattle.viper_word.specs.Ranges.{OnStep}
use Rattle.num_domain.specs.Laws.{Sound1, Sound2, Mono1, Mono2, OrderLaws, SoundLaws, MonoLaws, SpanLaws, DomainLaws}
use Rattle.num_domain.specs.evidence.ExactLaws.{exact1_sound, exact1_mono, exact2_sound, exact2_mono, exact_flag_sound, exact_flag_mono}
use Rattle.viper_word.proofs.Options.{some_when, all_when, some_or_else}
use Rattle.num_domain.specs.evidence.RoundingLaws.{below_le_self, below_mono, above_ge_self, above_mono}
use Rattle.viper_word.proofs.Steps.{on_step_from}
use Rattle.viper_word.proofs.Integers.{le_true, le_false, true_le, eq_true}
use Rattle.interval_dom.specs.Bounds.{AreEnds}
use Rattle.interval_dom.specs.Intervals.{cut, top, unwrapped, single, and_row, xor_row, nor_row, and_not_row, right_row, left_row, join, least_from, greatest_to, all_on, intervals}
use Rattle.interval_dom.specs.evidence.IntervalOrder.{has_ends, ends_has, below_ends, ends_below, has_in_w, below_top, top_has, same_ends, cut_has, cut_mono, cut_below, single_laws, constant_has, unwrapped_has, unwrapped_mono}
use Rattle.interval_dom.specs.evidence.IntervalRows.{and_sound, and_mono, xor_sound, xor_mono, nor_sound, nor_mono, and_not_sound, and_not_mono, right_sound, right_mono, left_sound, left_mono, halved_mono}
use Rattle.interval_dom.specs.evidence.IntervalRefine.{refine_sound, refine_mono, refine_below, member_signed}
use Rattle.interval_dom.specs.declared.interval.Interval.{Interval}

width_falls : (lo hi lo' hi' : ℤ) → AreEnds lo hi → AreEnds lo' hi' → lo' ≤ℤ lo → hi ≤ℤ hi' → (lo' <ℤ lo) ⊎ (hi <ℤ hi') → 2 ^ 32 - 1 - nat_abs (hi' -ℤ lo') < 2 ^ 32 - 1 - nat_abs (hi -ℤ lo)
width_falls lo hi lo' hi' e e' p q (inl h) = omega (arith, ints)
width_falls lo hi lo' hi' e e' p q (inr h) = omega (arith, ints)

height_falls : (a b : Interval) → Below intervals a b → intervals.includes a b ≡ false → intervals.height b < intervals.height a
height_falls a b h k =
    let p = below_ends a b h in
    width_falls a.lo a.hi b.lo b.hi a.ends b.ends p.low p.high
    (⊎_elim (λ (q : int_le a.lo b.lo ≡ false). inl (le_false a.lo b.lo q)) (λ (q : int_le b.hi a.hi ≡ false). inr (le_false b.hi a.hi q)) (and_cases (int_le a.lo b.lo) (int_le b.hi a.hi) k))

-- ---- a modulus and a residue

or_from : (x y : Bool) → (x ≡ true) ⊎ (y ≡ true) → (x || y) ≡ true
or_from true y h = refl
or_from false y (inl h) = absurd (false≢true h)
or_from false y (inr h) = h

abbrev is_at : Interval → ℤ → ℤ → Bool
is_at a q t = int_le a.hi a.lo && (nat_abs (a.lo -ℤ t) % nat_abs q == 0)

all_on_sound : (a : Interval) (q t n : ℤ) → pos 1 ≤ℤ q → Has intervals a n → all_on a q t ≡ true → OnStep q t n
unfolding all_on
all_on_sound a q t n l h e =
    let p = has_ends a n h in
    ⊎_elim (λ (f : int_eq q (pos 1) ≡ true). let g = eq_true q (pos 1) f in record { steps = n -ℤ t; holds = rw g (omega (arith, ints)) })
    (λ (f : is_at a q t ≡ true).
    let r = and_parts (int_le a.hi a.lo) (nat_abs (a.lo -ℤ t) % nat_abs q == 0) f in
    let s = le_true a.hi a.lo r.0 in
    on_step_from q t a.lo n l r.1 (omega (arith, ints)))
    (or_cases (int_eq q (pos 1)) (is_at a q t) e)

all_on_mono : (a a' : Interval) (q t : ℤ) → Below intervals a a' → all_on a' q t ≡ true → all_on a q t ≡ true
unfolding all_on
all_on_mono a a' q t h e =
    let p = below_ends a a' h in
    let o = a.ends.ordered in
    or_from (int_eq q (pos 1)) (is_at a q t)
    (⊎_elim (λ (f : int_eq q (pos 1) ≡ true). inl f)
    (λ (f : is_at a' q t ≡ true).
    let r = and_parts (int_le a'.hi a'.lo) (nat_abs (a'.lo -ℤ t) % nat_abs q == 0) f in
    let s = le_true a'.hi a'.lo r.0 in
    let same : a.lo ≡ a'.lo = omega (arith, ints) in
    inr (and_from (int_le a.hi a.lo) (nat_abs (a.lo -ℤ t) % nat_abs q == 0) (true_le a.hi a.lo (omega (arith, ints))) (rw same r.1)))
    (or_cases (int_eq q (pos 1)) (is_at a' q t) e))

-- ---- the rows that need no rule of their own

order_laws : OrderLaws intervals
order_laws = record {
  in_w = has_in_w;
  refl = λ a. ends_below a a (omega (arith, ints)) (omega (arith, ints));
  trans = λ a b c h k. let p = below_ends a b h in let q = below_ends b c k in ends_below a c (omega (arith, ints)) (omega (arith, ints));
  antisym = λ a b h k. let p = below_ends a b h in let q = below_ends b a k in same_ends a b (omega (arith, ints)) (omega (arith, ints));
  has = λ a b n h k. let p = below_ends a b h in let q = has_ends a n k in ends_has b n (omega (arith, ints)) (omega (arith, ints));
  height_falls = height_falls;
  constant_has = constant_has;
  top_greatest = below_top;
  top_has = top_has;
  join_left = λ a b. ends_below a (join a b) (omega (arith, ints, clamps)) (omega (arith, ints, clamps));
  join_right = λ a b. ends_below b (join a b) (omega (arith, ints, clamps)) (omega (arith, ints, clamps));
  join_least = λ a b c h k. let p = below_ends a c h in let q = below_ends b c k in ends_below (join a b) c (omega (arith, ints, clamps)) (omega (arith, ints, clamps));
  round_above = λ a ts. let e = a.ends in ends_below a (intervals.round a ts) (below_le_self ts a.lo e.low) (above_ge_self ts a.hi e.high);
  round_mono = λ a a' ts h. let p = below_ends a a' h in ends_below (intervals.round a ts) (intervals.round a' ts) (below_mono ts a'.lo a.lo p.low) (above_mono ts a.hi a'.hi p.high);
  all_on_mono = all_on_mono;
}

add_wrap_row_sound : Sound2 intervals (λ a b. unwrapped (a.lo +ℤ b.lo) (a.hi +ℤ b.hi)) (λ x y. wrapped (x +ℤ y))
add_wrap_row_sound a b x y h k w = let p = has_ends a x h in let q = has_ends b y k in unwrapped_has (a.lo +ℤ b.lo) (a.hi +ℤ b.hi) (x +ℤ y) (omega (arith, ints)) (omega (arith, ints))

add_wrap_row_mono : Mono2 intervals (λ a b. unwrapped (a.lo +ℤ b.lo) (a.hi +ℤ b.hi))
add_wrap_row_mono a a' b b' h k = let p = below_ends a a' h in let q = below_ends b b' k in let o = a.ends.ordered in let s = b.ends.ordered in unwrapped_mono (a.lo +ℤ b.lo) (a.hi +ℤ b.hi) (a'.lo +ℤ b'.lo) (a'.hi +ℤ b'.hi) (omega (arith, ints)) (omega (arith, ints)) (omega (arith, ints))

sub_wrap_row_sound : Sound2 intervals (λ a b. unwrapped (a.lo -ℤ b.hi) (a.hi -ℤ b.lo)) (λ x y. wrapped (x -ℤ y))
sub_wrap_row_sound a b x y h k w = let p = has_ends a x h in let q = has_ends b y k in unwrapped_has (a.lo -ℤ b.hi) (a.hi -ℤ b.lo) (x -ℤ y) (omega (arith, ints)) (omega (arith, ints))

sub_wrap_row_mono : Mono2 intervals (λ a b. unwrapped (a.lo -ℤ b.hi) (a.hi -ℤ b.lo))
sub_wrap_row_mono a a' b b' h k = let p = below_ends a a' h in let q = below_ends b b' k in let o = a.ends.ordered in let s = b.ends.ordered in unwrapped_mono (a.lo -ℤ b.hi) (a.hi -ℤ b.lo) (a'.lo -ℤ b'.hi) (a'.hi -ℤ b'.lo) (omega (arith, ints)) (omega (arith, ints)) (omega (arith, ints))

neg_row_sound : Sound1 intervals (λ a. unwrapped (neg_ℤ a.hi) (neg_ℤ a.lo)) (λ x. wrapped (neg_ℤ x))
neg_row_sound a x h w = let p = has_ends a x h in unwrapped_has (neg_ℤ a.hi) (neg_ℤ a.lo) (neg_ℤ x) (omega (arith, ints)) (omega (arith, ints))

neg_row_mono : Mono1 intervals (λ a. unwrapped (neg_ℤ a.hi) (neg_ℤ a.lo))
neg_row_mono a a' h = let p = below_ends a a' h in let o = a.ends.ordered in unwrapped_mono (neg_ℤ a.hi) (neg_ℤ a.lo) (neg_ℤ a'.hi) (neg_ℤ a'.lo) (omega (arith, ints)) (omega (arith, ints)) (omega (arith, ints))

sound_laws : SoundLaws intervals
sound_laws = record {
  add = λ a b x y h k w. let p = has_ends a x h in let q = has_ends b y k in cut_has (a.lo +ℤ b.lo) (a.hi +ℤ b.hi) (x +ℤ y) w (omega (arith, ints)) (omega (arith, ints));
  sub = λ a b x y h k w. let p = has_ends a x h in let q = has_ends b y k in cut_has (a.lo -ℤ b.hi) (a.hi -ℤ b.lo) (x -ℤ y) w (omega (arith, ints)) (omega (arith, ints));
  add_wrap = exact2_sound intervals single order_laws single_laws (λ x y. wrapped (x +ℤ y)) (λ a b. unwrapped (a.lo +ℤ b.lo) (a.hi +ℤ b.hi)) add_wrap_row_sound;
  sub_wrap = exact2_sound intervals single order_laws single_laws (λ x y. wrapped (x -ℤ y)) (λ a b. unwrapped (a.lo -ℤ b.hi) (a.hi -ℤ b.lo)) sub_wrap_row_sound;
  xor = exact2_sound intervals single order_laws single_laws signed_xor xor_row xor_sound;
  bit_and = exact2_sound intervals single order_laws single_laws signed_and and_row and_sound;
  nor = exact2_sound intervals single order_laws single_laws signed_nor nor_row nor_sound;
  and_not = exact2_sound intervals single order_laws single_laws signed_and_not and_not_row and_not_sound;
  neg = exact1_sound intervals single order_laws single_laws (λ x. wrapped (neg_ℤ x)) (λ a. unwrapped (neg_ℤ a.hi) (neg_ℤ a.lo)) neg_row_sound;
  sar = λ a x h w. let p = has_ends a x h in cut_has (halved a.lo) (halved a.hi) (halved x) w (halved_mono a.lo x p.low) (halved_mono x a.hi p.high);
  shl = λ a x h w. let p = has_ends a x h in cut_has (a.lo +ℤ a.lo) (a.hi +ℤ a.hi) (x +ℤ x) w (omega (arith, ints)) (omega (arith, ints));
  moved = λ k a x h w. let p = has_ends a x h in cut_has (a.lo +ℤ k) (a.hi +ℤ k) (x +ℤ k) w (omega (arith, ints)) (omega (arith, ints));
  right_through = exact_flag_sound intervals single order_laws single_laws shifted_right right_row right_sound;
  left_through = exact_flag_sound intervals single order_laws single_laws shifted_left left_row left_sound;
  refine = refine_sound;
}

mono_laws : MonoLaws intervals
mono_laws = record {
  add = λ a a' b b' h k. let p = below_ends a a' h in let q = below_ends b b' k in cut_mono (a.lo +ℤ b.lo) (a.hi +ℤ b.hi) (a'.lo +ℤ b'.lo) (a'.hi +ℤ b'.hi) (omega (arith, ints)) (omega (arith, ints));
  sub = λ a a' b b' h k. let p = below_ends a a' h in let q = below_ends b b' k in cut_mono (a.lo -ℤ b.hi) (a.hi -ℤ b.lo) (a'.lo -ℤ b'.hi) (a'.hi -ℤ b'.lo) (omega (arith, ints)) (omega (arith, ints));
  add_wrap = exact2_mono intervals single order_laws single_laws (λ x y. wrapped (x +ℤ y)) (λ a b. unwrapped (a.lo +ℤ b.lo) (a.hi +ℤ b.hi)) add_wrap_row_sound add_wrap_row_mono;
  sub_wrap = exact2_mono intervals single order_laws single_laws (λ x y. wrapped (x -ℤ y)) (λ a b. unwrapped (a.lo -ℤ b.hi) (a.hi -ℤ b.lo)) sub_wrap_row_sound sub_wrap_row_mono;
  xor = exact2_mono intervals single order_laws single_laws signed_xor xor_row xor_sound xor_mono;
  bit_and = exact2_mono intervals single order_laws single_laws signed_and and_row and_sound and_mono;
  nor = exact2_mono intervals single order_laws single_laws signed_nor nor_row nor_sound nor_mono;
  and_not = exact2_mono intervals single order_laws single_laws signed_and_not and_not_row and_not_sound and_not_mono;
  neg = exact1_mono intervals single order_laws single_laws (λ x. wrapped (neg_ℤ x)) (λ a. unwrapped (neg_ℤ a.hi) (neg_ℤ a.lo)) neg_row_sound neg_row_mono;
  sar = λ a a' h. let p = below_ends a a' h in cut_mono (halved a.lo) (halved a.hi) (halved a'.lo) (halved a'.hi) (halved_mono a'.lo a.lo p.low) (halved_mono a.hi a'.hi p.high);
  shl = λ a a' h. let p = below_ends a a' h in cut_mono (a.lo +ℤ a.lo) (a.hi +ℤ a.hi) (a'.lo +ℤ a'.lo) (a'.hi +ℤ a'.hi) (omega (arith, ints)) (omega (arith, ints));
  moved = λ k a a' h. let p = below_ends a a' h in cut_mono (a.lo +ℤ k) (a.hi +ℤ k) (a'.lo +ℤ k) (a'.hi +ℤ k) (omega (arith, ints)) (omega (arith, ints));
  right_through = exact_flag_mono intervals single order_laws single_laws shifted_right right_row right_sound right_mono;
  left_through = exact_flag_mono intervals single order_laws single_laws shifted_left left_row left_sound left_mono;
  refine = refine_mono;
  refine_below = refine_below;
}

span_laws : SpanLaws intervals
span_laws = record {
  span_has = λ lo hi m n r i. let w = r.low.low in let v = r.high.high in let il = i.low in let ih = i.high in
      some_or_else (λ s. Has intervals s n) (cut lo hi) top (cut_has lo hi n (record { low = omega (arith, ints); high = omega (arith, ints) }) i.low i.high);
  all_on_sound = all_on_sound;
  least_in_w = λ a n. all_when (int_le n a.hi) (Some (int_max a.lo n)) IsSigned (λ e. let f = le_true n a.hi e in let o = a.ends.ordered in member_signed a (int_max a.lo n) (omega (arith, ints, clamps)) (omega (arith, ints, clamps)));
  greatest_in_w = λ a n. all_when (int_le a.lo n) (Some (int_min a.hi n)) IsSigned (λ e. let f = le_true a.lo n e in let o = a.ends.ordered in member_signed a (int_min a.hi n) (omega (arith, ints, clamps)) (omega (arith, ints, clamps)));
  narrow_sound = λ a lo hi n h p q. let r = has_ends a n h in cut_has (int_max a.lo lo) (int_min a.hi hi) n (has_in_w a n h) (omega (arith, ints, clamps)) (omega (arith, ints, clamps));
  narrow_below = λ a lo hi. cut_below (int_max a.lo lo) (int_min a.hi hi) a (omega (arith, ints, clamps)) (omega (arith, ints, clamps));
  narrow_mono = λ a a' lo lo' hi hi' h p q. let r = below_ends a a' h in cut_mono (int_max a.lo lo) (int_min a.hi hi) (int_max a'.lo lo') (int_min a'.hi hi') (omega (arith, ints, clamps)) (omega (arith, ints, clamps));
  least_above = λ a n. all_when (int_le n a.hi) (Some (int_max a.lo n)) (λ k. n ≤ℤ k) (λ _. omega (arith, ints, clamps));
  least_first = λ a n m h p. let q = has_ends a m h in some_when (int_le n a.hi) (Some (int_max a.lo n)) (λ k. k ≤ℤ m) (true_le n a.hi (omega (arith, ints))) (omega (arith, ints, clamps));
  least_mono = λ a a' n n' h p. let q = below_ends a a' h in
      all_when (int_le n a.hi) (Some (int_max a.lo n)) (λ k. IsSomeAnd (least_from a' n') (λ k'. k' ≤ℤ k))
      (λ e. let r = le_true n a.hi e in some_when (int_le n' a'.hi) (Some (int_max a'.lo n')) (λ k'. k' ≤ℤ int_max a.lo n) (true_le n' a'.hi (omega (arith, ints))) (omega (arith, ints, clamps)));
  greatest_below = λ a n. all_when (int_le a.lo n) (Some (int_min a.hi n)) (λ k. k ≤ℤ n) (λ _. omega (arith, ints, clamps));
  greatest_first = λ a n m h p. let q = has_ends a m h in some_when (int_le a.lo n) (Some (int_min a.hi n)) (λ k. m ≤ℤ k) (true_le a.lo n (omega (arith, ints))) (omega (arith, ints, clamps));
  greatest_mono = λ a a' n n' h p. let q = below_ends a a' h in
      all_when (int_le a.lo n) (Some (int_min a.hi n)) (λ k. IsSomeAnd (greatest_to a' n') (λ k'. k ≤ℤ k'))
      (λ e. let r = le_true a.lo n e in some_when (int_le a'.lo n') (Some (int_min a'.hi n')) (λ k'. int_min a.hi n ≤ℤ k') (true_le a'.lo n' (omega (arith, ints))) (omega (arith, ints, clamps)));
}

pub interval_laws : DomainLaws intervals
interval_laws = record { order = order_laws; sound = sound_laws; mono = mono_laws; spans = span_laws }
