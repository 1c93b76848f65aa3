-- Intervals keep the exact rule.
use Rattle.std.specs.Prelude.{◌≡◌, ℤ, ◌+ℤ◌, ◌-ℤ◌, true, false, Option, Some, None, IsSomeAnd, IfSome}
use Rattle.std.proofs.Common.{refl, arith, ⊎_elim, ◌∙◌}
use Rattle.std.proofs.Math.Path.{ap₂}
use Rattle.std.proofs.lemmas.Int.{ints, clamps}
use Rattle.std.proofs.lemmas.Bool.{cases_Bool}
use Rattle.viper_word.specs.Words.{IsSigned, is_signed}
use Rattle.viper_word.specs.Signed.{halved}
use Rattle.num_domain.specs.Domain.{Has}
use Rattle.std.specs.Prelude.{unwrap_or}
use Rattle.num_domain.specs.Exact.{one}
use Rattle.num_domain.specs.ExactRule.{IsExact}
use Rattle.num_domain.specs.evidence.ExactLaws.{constant_single}
use Rattle.viper_word.proofs.Integers.{true_le, is_signed_true, true_is_signed}
use Rattle.interval_dom.specs.Intervals.{interval, cut, top, single, constant, intervals}
use Rattle.interval_dom.specs.evidence.IntervalOrder.{cut_has, cut_all, single_is, single_laws}
use Rattle.interval_dom.specs.declared.interval.Interval.{Interval}

some_is : (o : Option Interval) (n : ℤ) → IsSomeAnd o (λ r. Has intervals r n) → o ≡ Some (unwrap_or o top)
some_is None n h = absurd h
some_is (Some r) n h = refl

none_is : (o : Option Interval) → IfSome o (λ r. ⊥) → o ≡ None
none_is None h = refl
none_is (Some r) h = absurd h

pub cut_one : (z : ℤ) → cut z z ≡ one constant single z
unfolding constant
cut_one z =
    ⊎_elim (λ (e : is_signed z ≡ true). let w = is_signed_true z e in rw e (some_is (cut z z) z (cut_has z z z w (omega (arith, ints)) (omega (arith, ints)))))
    (λ (e : is_signed z ≡ false). rw e (none_is (cut z z) (cut_all z z (λ r. ⊥) (λ r p q.
    let o = r.ends.ordered in
    false_signed z e (record { low = omega (arith, ints, clamps); high = omega (arith, ints, clamps) }))))) (cases_Bool (is_signed z))
  where
    false_signed : (z : ℤ) → is_signed z ≡ false → IsSigned z → ⊥
    false_signed z e w = let t = true_is_signed z w in absurd (cc)

cut_at : (lo hi z : ℤ) → lo ≡ z → hi ≡ z → cut lo hi ≡ one constant single z
cut_at lo hi z p q = ap₂ cut p q ∙ cut_one z

pub interval_exact : IsExact intervals single
interval_exact = record {
  constant = λ n w. constant_single intervals single single_laws (interval n n (record { low = w.low; ordered = omega (arith, ints); high = w.high })) n (rw (true_le n n (omega (arith, ints))) refl);
  add = λ a b x y e f. let p = single_is a x e in let p0 = p.0 in let p1 = p.1 in let q = single_is b y f in let q0 = q.0 in let q1 = q.1 in cut_at (a.lo +ℤ b.lo) (a.hi +ℤ b.hi) (x +ℤ y) (omega (arith, ints)) (omega (arith, ints));
  sub = λ a b x y e f. let p = single_is a x e in let p0 = p.0 in let p1 = p.1 in let q = single_is b y f in let q0 = q.0 in let q1 = q.1 in cut_at (a.lo -ℤ b.hi) (a.hi -ℤ b.lo) (x -ℤ y) (omega (arith, ints)) (omega (arith, ints));
  add_wrap = λ a b x y e f. rw (e, f) refl;
  sub_wrap = λ a b x y e f. rw (e, f) refl;
  xor = λ a b x y e f. rw (e, f) refl;
  bit_and = λ a b x y e f. rw (e, f) refl;
  nor = λ a b x y e f. rw (e, f) refl;
  and_not = λ a b x y e f. rw (e, f) refl;
  neg = λ a x e. rw e refl;
  sar = λ a x e. let p = single_is a x e in cut_at (halved a.lo) (halved a.hi) (halved x) (rw p.0 refl) (rw p.1 refl);
  shl = λ a x e. let p = single_is a x e in let p0 = p.0 in let p1 = p.1 in cut_at (a.lo +ℤ a.lo) (a.hi +ℤ a.hi) (x +ℤ x) (omega (arith, ints)) (omega (arith, ints));
  moved = λ k a x e. let p = single_is a x e in let p0 = p.0 in let p1 = p.1 in cut_at (a.lo +ℤ k) (a.hi +ℤ k) (x +ℤ k) (omega (arith, ints)) (omega (arith, ints));
  right_through = λ a b x e. rw e refl;
  left_through = λ a b x e. rw e refl;
}
