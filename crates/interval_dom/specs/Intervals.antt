-- Intervals: what each function gives.
use Rattle.std.specs.Prelude.{◌≡◌, ℕ, ◌-◌, ◌^◌, ◌%◌, ◌==◌, ℤ, pos, negsuc, neg_ℤ, ◌+ℤ◌, ◌-ℤ◌, Bool, true, false, ◌&&◌, ◌||◌, cond, int_le, int_lt, nat_abs, Option, Some, None}
use Rattle.std.specs.Ordering.{int_eq}
use Rattle.std.specs.Int.{w32, int_min, int_max, leading_zeros}
use Rattle.std.proofs.Common.{refl}
use Rattle.viper_word.specs.Words.{least_signed, greatest_signed, is_signed}
use Rattle.viper_word.specs.Signed.{wrapped, signed_xor, signed_and, signed_nor, signed_and_not, halved, shifted_right, shifted_left}
use Rattle.viper_word.specs.declared.kind.Kind.{Kind}
use Rattle.viper_word.specs.declared.kind.Kind.TheVariants.{Lt, Ge, Eq, Ne, Le, Gt, Ult, Uge}
use Rattle.num_domain.specs.Domain.{Domain}
use Rattle.std.specs.Prelude.{unwrap_or}
use Rattle.num_domain.specs.Exact.{exact1, exact2, exact_flag}
use Rattle.num_domain.specs.Rounding.{below, above}
use Rattle.interval_dom.specs.Bounds.{AreEnds}
use Rattle.interval_dom.specs.evidence.Forms.{cut_ends, top_ends, join_ends, round_ends}
use Rattle.interval_dom.specs.declared.interval.Interval.{Interval}

-- ---- intervals that are made

abbrev pub interval : (lo hi : ℤ) → AreEnds lo hi → Interval
interval lo hi e = record { lo = lo; hi = hi; ends = e }

-- the interval with these ends, where a test says that they are ends
abbrev pub interval_if : (lo hi : ℤ) (b : Bool) → (b ≡ true → AreEnds lo hi) → Option Interval
interval_if lo hi true h = Some (interval lo hi (h refl))
interval_if lo hi false h = None

-- the part of lo to hi that words can hold
unfoldable pub cut : ℤ → ℤ → Option Interval
cut lo hi =
    interval_if (int_max lo least_signed) (int_min hi greatest_signed)
    (int_le (int_max lo least_signed) (int_min hi greatest_signed)) (cut_ends lo hi)

abbrev pub top : Interval
top = interval least_signed greatest_signed top_ends

-- from lo to hi where words can hold both, and else everything
unfoldable pub unwrapped : ℤ → ℤ → Option Interval
unwrapped lo hi = cond (is_signed lo && is_signed hi) (cut lo hi) (Some top)

-- the number of a single value
abbrev pub single : Interval → Option ℤ
single a = cond (int_le a.hi a.lo) (Some a.lo) None

-- the single value of a number that a word can hold
unfoldable pub constant : ℤ → Interval
constant n = unwrap_or (cut n n) top

-- ---- the rows

-- from the lesser of the low ends to the greater of the high ones
abbrev pub join : Interval → Interval → Interval
join a b = interval (int_min a.lo b.lo) (int_max a.hi b.hi) (join_ends a b)

-- from 0 to the lesser high end of those that have no negative member
unfoldable pub and_row : Interval → Interval → Option Interval
and_row a b =
    cond (int_le (pos 0) a.lo)
    (cond (int_le (pos 0) b.lo) (cut (pos 0) (int_min a.hi b.hi)) (cut (pos 0) a.hi))
    (cond (int_le (pos 0) b.lo) (cut (pos 0) b.hi) (Some top))

-- the least power of two above the number
unfoldable pub power_above : ℕ → ℕ
power_above n = 2 ^ (32 - leading_zeros w32 n)

-- the least power of two above both high ends
abbrev pub power_of : Interval → Interval → ℕ
power_of a b = power_above (nat_abs (int_max a.hi b.hi))

unfoldable pub xor_row : Interval → Interval → Option Interval
xor_row a b =
    cond (int_le (pos 0) a.lo && int_le (pos 0) b.lo)
    (cut (pos 0) (pos (power_of a b) -ℤ pos 1)) (Some top)

unfoldable pub nor_row : Interval → Interval → Option Interval
nor_row a b =
    cond (int_le (pos 0) a.lo && int_le (pos 0) b.lo)
    (cut (neg_ℤ (pos (power_of a b))) (negsuc 0)) (Some top)

unfoldable pub and_not_row : Interval → Interval → Option Interval
and_not_row a b = cond (int_le (pos 0) a.lo) (cut (pos 0) a.hi) (Some top)

unfoldable pub right_row : Interval → Option Bool → Option Interval
right_row a None = Some top
right_row a (Some true) = cut least_signed (negsuc 0)
right_row a (Some false) =
    cond (int_le (pos 0) a.lo) (cut (halved a.lo) (halved a.hi)) (cut (pos 0) greatest_signed)

-- the lowest bit that may be shifted in
abbrev pub least_bit : Option Bool → ℤ
least_bit None = pos 0
least_bit (Some b) = cond b (pos 1) (pos 0)

abbrev pub greatest_bit : Option Bool → ℤ
greatest_bit None = pos 1
greatest_bit (Some b) = cond b (pos 1) (pos 0)

unfoldable pub left_row : Interval → Option Bool → Option Interval
left_row a b =
    cond (is_signed (a.lo +ℤ a.lo) && is_signed (a.hi +ℤ a.hi +ℤ pos 1))
    (cut (a.lo +ℤ a.lo +ℤ least_bit b) (a.hi +ℤ a.hi +ℤ greatest_bit b)) (Some top)

-- ---- refining

-- the least interval around both
abbrev pub hull : Option Interval → Option Interval → Option Interval
hull None q = q
hull (Some x) None = Some x
hull (Some x) (Some y) = Some (join x y)

-- a without n, where n is an end of it
unfoldable pub without : Interval → ℤ → Option Interval
without a n =
    cut (cond (int_eq a.lo n) (a.lo +ℤ pos 1) a.lo) (cond (int_eq a.hi n) (a.hi -ℤ pos 1) a.hi)

-- as unsigned numbers the negative ones stand above the others: the greatest of each kind that is
-- below some member of b, and the least of each kind that isn't below each member of b
abbrev pub negative_to : Interval → ℤ
negative_to b =
    cond (int_lt b.lo (pos 0)) (int_min b.hi (negsuc 0) -ℤ pos 1) (least_signed -ℤ pos 1)

abbrev pub natural_to : Interval → ℤ
natural_to b = cond (int_lt b.lo (pos 0)) greatest_signed (b.hi -ℤ pos 1)

abbrev pub negative_from : Interval → ℤ
negative_from b = cond (int_le (pos 0) b.hi) least_signed b.lo

abbrev pub natural_from : Interval → ℤ
natural_from b = cond (int_le (pos 0) b.hi) (int_max b.lo (pos 0)) (greatest_signed +ℤ pos 1)

unfoldable pub refine : Interval → Kind → Interval → Option Interval
refine a Lt b = cut a.lo (int_min a.hi (b.hi -ℤ pos 1))
refine a Ge b = cut (int_max a.lo b.lo) a.hi
refine a Eq b = cut (int_max a.lo b.lo) (int_min a.hi b.hi)
refine a Ne b = cond (int_le b.hi b.lo) (without a b.lo) (Some a)
refine a Le b = cut a.lo (int_min a.hi b.hi)
refine a Gt b = cut (int_max a.lo (b.lo +ℤ pos 1)) a.hi
refine a Ult b =
    hull (cut a.lo (int_min a.hi (negative_to b)))
    (cut (int_max a.lo (pos 0)) (int_min a.hi (natural_to b)))
refine a Uge b =
    hull (cut (int_max a.lo (negative_from b)) (int_min a.hi (negsuc 0)))
    (cut (int_max a.lo (natural_from b)) a.hi)

-- ---- queries

abbrev pub least_from : Interval → ℤ → Option ℤ
least_from a n = cond (int_le n a.hi) (Some (int_max a.lo n)) None

abbrev pub greatest_to : Interval → ℤ → Option ℤ
greatest_to a n = cond (int_le a.lo n) (Some (int_min a.hi n)) None

-- is q one, or a a single value at t plus a multiple of q?
unfoldable pub all_on : Interval → ℤ → ℤ → Bool
all_on a q t = int_eq q (pos 1) || (int_le a.hi a.lo && (nat_abs (a.lo -ℤ t) % nat_abs q == 0))

-- ---- the domain

abbrev pub intervals : Domain Interval
intervals = record {
  has = λ a n. int_le a.lo n && int_le n a.hi;
  includes = λ a b. int_le a.lo b.lo && int_le b.hi a.hi;
  height = λ a. 2 ^ 32 - 1 - nat_abs (a.hi -ℤ a.lo);
  constant = constant;
  top = top;
  span = λ lo hi m. unwrap_or (cut lo hi) top;
  join = join;
  add = λ a b. cut (a.lo +ℤ b.lo) (a.hi +ℤ b.hi);
  sub = λ a b. cut (a.lo -ℤ b.hi) (a.hi -ℤ b.lo);
  add_wrap =
      exact2 constant single (λ x y. wrapped (x +ℤ y))
      (λ a b. unwrapped (a.lo +ℤ b.lo) (a.hi +ℤ b.hi));
  sub_wrap =
      exact2 constant single (λ x y. wrapped (x -ℤ y))
      (λ a b. unwrapped (a.lo -ℤ b.hi) (a.hi -ℤ b.lo));
  xor = exact2 constant single signed_xor xor_row;
  bit_and = exact2 constant single signed_and and_row;
  nor = exact2 constant single signed_nor nor_row;
  and_not = exact2 constant single signed_and_not and_not_row;
  neg = exact1 constant single (λ x. wrapped (neg_ℤ x)) (λ a. unwrapped (neg_ℤ a.hi) (neg_ℤ a.lo));
  sar = λ a. cut (halved a.lo) (halved a.hi);
  shl = λ a. cut (a.lo +ℤ a.lo) (a.hi +ℤ a.hi);
  moved = λ a k. cut (a.lo +ℤ k) (a.hi +ℤ k);
  right_through = exact_flag constant single shifted_right right_row;
  left_through = exact_flag constant single shifted_left left_row;
  refine = refine;
  narrow = λ a lo hi. cut (int_max a.lo lo) (int_min a.hi hi);
  least_from = least_from;
  greatest_to = greatest_to;
  all_on = all_on;
  round = λ a ts. interval (below ts a.lo) (above ts a.hi) (round_ends ts a);
}
