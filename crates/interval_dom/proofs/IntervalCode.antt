-- What the code of intervals computes.
use Rattle.std.specs.Prelude.{◌≡◌, ℕ, ◌<◌, ◌-◌, ◌*◌, ◌%◌, ◌^◌, ℤ, pos, ◌+ℤ◌, ◌-ℤ◌, ◌≤ℤ◌, Bool, true, false, ◌&&◌, cond, int_le, Option, Some, None}
use Rattle.std.specs.Int.{w32, w64, cast_signed, int_min, int_max, leading_zeros}
use Rattle.std.specs.Ordering.{int_eq}
use Rattle.std.proofs.Math.Path.{ap₂}
use Rattle.std.proofs.Common.{refl, sym, ap, subst, arith, ⊎_elim, ◌∙◌}
use Rattle.std.proofs.lemmas.Int.{ints, clamps}
use Rattle.std.proofs.lemmas.Bool.{and_parts, and_cases, false≢true, cond_both}
use Rattle.viper_word.specs.Words.{IsSigned, is_signed}
use Rattle.std.specs.Prelude.{unwrap_or}
use Rattle.num_domain.specs.Exact.{exact1, exact2}
use Rattle.num_domain.specs.evidence.ExactLaws.{exact1_single, exact1_row, exact2_single, exact2_first, exact2_second}
use Rattle.viper_word.proofs.Integers.{le_true, le_false}
use Rattle.viper_word.specs.declared.kind.Kind.{Kind}
use Rattle.viper_word.specs.declared.kind.Kind.TheVariants.{Lt, Gt, Ult}
use Rattle.interval_dom.specs.Intervals.{cut, top, single, constant, hull, without, left_row, least_bit, greatest_bit, power_above, negative_to, natural_to, refine, intervals}
use Rattle.interval_dom.specs.evidence.IntervalRows.{power_small}
use Rattle.interval_dom.specs.evidence.IntervalOrder.{cut_is, single_from, not_single}
use Rattle.interval_dom.specs.declared.interval.Interval.{Interval}

pub span_is : (r : Interval) (lo hi : ℤ) → r.lo ≡ lo → r.hi ≡ hi → r ≡ unwrap_or (cut lo hi) top
span_is r lo hi p q =
    let l = r.ends.low in
    let h = r.ends.high in
    ap (λ (o : Option Interval). unwrap_or o top) (cut_is r lo hi (omega (arith, ints, clamps)) (omega (arith, ints, clamps)))

at_end : (a : Interval) → int_le a.hi a.lo ≡ true → single a ≡ Some a.lo
at_end a t = single_from a a.lo refl (le_true a.hi a.lo t)

no_end : (a : Interval) → int_le a.hi a.lo ≡ false → single a ≡ None
no_end a t = not_single a (le_false a.hi a.lo t)

-- both have one member
pub then_exact : (op : ℤ → ℤ → ℤ) (f : Interval → Interval → Option Interval) (a b r : Interval) (z : ℤ) → (int_le a.hi a.lo && int_le b.hi b.lo) ≡ true → r ≡ constant z → z ≡ op a.lo b.lo → IsSigned z → Some r ≡ exact2 constant single op f a b
then_exact op f a b r z t e g w =
    let p = and_parts (int_le a.hi a.lo) (int_le b.hi b.lo) t in
    ap (λ (x : Interval). Some x) (e ∙ ap constant g) ∙ exact2_single intervals single op f a b a.lo b.lo (at_end a p.0) (at_end b p.1) (subst IsSigned g w)

pub else_exact : (op : ℤ → ℤ → ℤ) (f : Interval → Interval → Option Interval) (a b : Interval) → (int_le a.hi a.lo && int_le b.hi b.lo) ≡ false → f a b ≡ exact2 constant single op f a b
else_exact op f a b t =
    ⊎_elim (λ (e : int_le a.hi a.lo ≡ false). exact2_first intervals single op f a b (no_end a e))
    (λ (e : int_le b.hi b.lo ≡ false). exact2_second intervals single op f a b (single a) refl (no_end b e)) (and_cases (int_le a.hi a.lo) (int_le b.hi b.lo) t)

pub then_exact1 : (op : ℤ → ℤ) (f : Interval → Option Interval) (a r : Interval) (z : ℤ) → int_le a.hi a.lo ≡ true → r ≡ constant z → z ≡ op a.lo → IsSigned z → Some r ≡ exact1 constant single op f a
then_exact1 op f a r z t e g w = ap (λ (x : Interval). Some x) (e ∙ ap constant g) ∙ exact1_single intervals single op f a a.lo (at_end a t) (subst IsSigned g w)

pub else_exact1 : (op : ℤ → ℤ) (f : Interval → Option Interval) (a : Interval) → int_le a.hi a.lo ≡ false → f a ≡ exact1 constant single op f a
else_exact1 op f a t = exact1_row intervals single op f a (no_end a t)

-- ---- rows

pub signed_as : (r : Bool) (z z' : ℤ) → r ≡ is_signed z → z ≡ z' → r ≡ is_signed z'
signed_as r z z' e f = e ∙ ap is_signed f

pub left_then : (a : Interval) (b : Option Bool) (s t : Bool) (lo hi : ℤ) → s ≡ is_signed (a.lo +ℤ a.lo) → t ≡ is_signed (a.hi +ℤ a.hi +ℤ pos 1) → (s && t) ≡ true → lo ≡ a.lo +ℤ a.lo +ℤ least_bit b → hi ≡ a.hi +ℤ a.hi +ℤ greatest_bit b → cut lo hi ≡ left_row a b
unfolding left_row
left_then a b s t lo hi e f g p q =
    let h : (is_signed (a.lo +ℤ a.lo) && is_signed (a.hi +ℤ a.hi +ℤ pos 1)) ≡ true = sym (ap₂ (λ (x y : Bool). x && y) e f) ∙ g in
    cond_both (is_signed (a.lo +ℤ a.lo) && is_signed (a.hi +ℤ a.hi +ℤ pos 1)) (cut (a.lo +ℤ a.lo +ℤ least_bit b) (a.hi +ℤ a.hi +ℤ greatest_bit b)) (Some top) (λ o. cut lo hi ≡ o) (λ _. ap₂ cut p q) (λ i. absurd (false≢true (sym i ∙ h)))

pub left_else : (a : Interval) (b : Option Bool) (r : Interval) → (is_signed (a.lo +ℤ a.lo) && is_signed (a.hi +ℤ a.hi +ℤ pos 1)) ≡ false → r ≡ top → Some r ≡ left_row a b
unfolding left_row
left_else a b r h p =
    cond_both (is_signed (a.lo +ℤ a.lo) && is_signed (a.hi +ℤ a.hi +ℤ pos 1)) (cut (a.lo +ℤ a.lo +ℤ least_bit b) (a.hi +ℤ a.hi +ℤ greatest_bit b)) (Some top) (λ o. Some r ≡ o) (λ i. absurd (false≢true (sym h ∙ i))) (λ _. ap (λ (x : Interval). Some x) p)

pub after_is : (r x y e n : ℤ) → r ≡ cond (int_eq x y) (x +ℤ pos 1) x → x ≡ e → y ≡ n → r ≡ cond (int_eq e n) (e +ℤ pos 1) e
after_is r x y e n h p q = h ∙ ap₂ (λ (u v : ℤ). cond (int_eq u v) (u +ℤ pos 1) u) p q

pub before_is : (r x y e n : ℤ) → r ≡ cond (int_eq x y) (x -ℤ pos 1) x → x ≡ e → y ≡ n → r ≡ cond (int_eq e n) (e -ℤ pos 1) e
before_is r x y e n h p q = h ∙ ap₂ (λ (u v : ℤ). cond (int_eq u v) (u -ℤ pos 1) u) p q

pub without_is : (a : Interval) (n lo hi : ℤ) → lo ≡ cond (int_eq a.lo n) (a.lo +ℤ pos 1) a.lo → hi ≡ cond (int_eq a.hi n) (a.hi -ℤ pos 1) a.hi → cut lo hi ≡ without a n
unfolding without
without_is a n lo hi p q = ap₂ cut p q

pub power_code : (n m : ℕ) → n ≡ m → m < 2 ^ 31 → (cast_signed w64 (1 * 2 ^ (32 - leading_zeros w32 n) % 2 ^ 64) ≡ pos (power_above m)) × (cast_signed w64 (1 * 2 ^ (32 - leading_zeros w32 n) % 2 ^ 64) ≤ℤ pos (2 ^ 31))
unfolding power_above
power_code n m e h =
    let s = power_small m h in
    let f : 2 ^ (32 - leading_zeros w32 n) ≡ 2 ^ (32 - leading_zeros w32 m) = ap (λ (k : ℕ). 2 ^ (32 - leading_zeros w32 k)) e in
    (omega (arith, ints), omega (arith, ints))

pub lt_code : (a b : Interval) (k : Kind) (lo hi : ℤ) → k ≡ Lt → lo ≡ a.lo → hi ≡ int_min a.hi (b.hi -ℤ pos 1) → cut lo hi ≡ refine a k b
unfolding refine
lt_code a b k lo hi e p q = subst (λ (j : Kind). cut lo hi ≡ refine a j b) (sym e) (ap₂ cut p q)

pub gt_code : (a b : Interval) (k : Kind) (lo hi : ℤ) → k ≡ Gt → lo ≡ int_max a.lo (b.lo +ℤ pos 1) → hi ≡ a.hi → cut lo hi ≡ refine a k b
unfolding refine
gt_code a b k lo hi e p q = subst (λ (j : Kind). cut lo hi ≡ refine a j b) (sym e) (ap₂ cut p q)

pub ult_code : (a b : Interval) (k : Kind) (m n : ℤ) (o q : Option Interval) → k ≡ Ult → m ≡ negative_to b → n ≡ natural_to b → o ≡ cut a.lo (int_min a.hi m) → q ≡ cut (int_max a.lo (pos 0)) (int_min a.hi n) → hull o q ≡ refine a k b
unfolding refine
ult_code a b k m n o q e f g h i =
    subst (λ (j : Kind). hull o q ≡ refine a j b) (sym e)
    (ap₂ (λ (x y : Option Interval). hull x y) (h ∙ ap (λ (z : ℤ). cut a.lo (int_min a.hi z)) f) (i ∙ ap (λ (z : ℤ). cut (int_max a.lo (pos 0)) (int_min a.hi z)) g))
