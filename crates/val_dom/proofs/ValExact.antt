-- Values keep the exact rule, by their factors.
use Rattle.std.specs.Prelude.{◌≡◌, ℤ, ◌+ℤ◌, ◌-ℤ◌, neg_ℤ, int_le, Bool, true, false, cond, Option, Some, None, IsSomeAnd, IfSome}
use Rattle.std.proofs.Common.{refl, sym, ap, arith, ⊎_elim, ◌∙◌}
use Rattle.std.proofs.Math.Path.{ap₂}
use Rattle.std.proofs.lemmas.Int.{ints}
use Rattle.std.proofs.lemmas.Bool.{cases_Bool}
use Rattle.viper_word.specs.Signed.{wrapped, signed_xor, signed_and, signed_nor, signed_and_not, halved, shifted_right, shifted_left}
use Rattle.viper_word.specs.Words.{IsSigned, is_signed}
use Rattle.num_domain.specs.Domain.{Has, BelowOption}
use Rattle.viper_word.specs.Options.{bind}
use Rattle.std.specs.Prelude.{unwrap_or}
use Rattle.num_domain.specs.Exact.{one}
use Rattle.num_domain.specs.ExactRule.{IsExact}
use Rattle.viper_word.proofs.Integers.{le_true, is_signed_true}
use Rattle.num_domain.specs.Pairs.{pair, both, seal}
use Rattle.num_domain.specs.evidence.PairLaws.{both_has, le_both, seal_has, seal_below}
use Rattle.interval_dom.specs.Intervals.{intervals}
use Rattle.interval_dom.specs.Intervals as iv
use Rattle.interval_dom.specs.evidence.IntervalOrder.{single_laws as interval_single}
use Rattle.interval_dom.specs.evidence.IntervalLaws.{interval_laws}
use Rattle.interval_dom.specs.declared.interval.Interval.{Interval}
use Rattle.interval_dom.proofs.IntervalExact.{interval_exact}
use Rattle.congruence_dom.specs.Residues.{mod_of}
use Rattle.congruence_dom.specs.Congruences.{congruences}
use Rattle.congruence_dom.specs.Congruences as cg
use Rattle.congruence_dom.specs.evidence.CongruenceOrder.{has_parts, only_member}
use Rattle.congruence_dom.specs.evidence.CongruenceLaws.{congruence_laws, single_from}
use Rattle.congruence_dom.specs.declared.congruence.Congruence.{Congruence}
use Rattle.congruence_dom.proofs.CongruenceExact.{congruence_exact}
use Rattle.val_dom.specs.Normal.{IsNormal}
use Rattle.val_dom.specs.Normal.{P}
use Rattle.val_dom.specs.evidence.Seals.{seal_normal}
use Rattle.val_dom.specs.Made.{base, val, wrap}
use Rattle.val_dom.specs.evidence.NormalForms.{constant_normal, add_normal, sub_normal, add_wrap_normal, sub_wrap_normal, xor_normal, bit_and_normal, nor_normal, and_not_normal, neg_normal, sar_normal, shl_normal, moved_normal, right_through_normal, left_through_normal}
use Rattle.val_dom.specs.Vals.{single, vals}
use Rattle.val_dom.specs.evidence.ValLaws.{val_from, normal_prop}
use Rattle.val_dom.specs.declared.val.Val.{Val}

-- ---- a single value is single in both factors

single_when : (v : Val) (x : ℤ) (b : Bool) → cond b (Some v.pair.left.lo) None ≡ Some x → (b ≡ true) × (v.pair.left.lo ≡ x)
single_when v x true e = let f : v.pair.left.lo ≡ x = cc in (refl, f)
single_when v x false e = cc

left_single : (v : Val) (x : ℤ) → single v ≡ Some x → iv.single v.pair.left ≡ Some x
left_single v x e = e

right_single : (v : Val) (x : ℤ) → single v ≡ Some x → cg.single v.pair.right ≡ Some x
right_single v x e =
    let p = single_when v x (int_le v.pair.left.hi v.pair.left.lo) e in
    let l = le_true v.pair.left.hi v.pair.left.lo p.0 in
    let o = v.pair.left.ends.ordered in
    let z = v.normal.single (omega (arith, ints)) in
    let m : mod_of v.pair.right ≡ 0 = omega (arith, ints) in
    single_from v.pair.right x m (sym (only_member (mod_of v.pair.right) v.pair.left.lo v.pair.right.residue (has_parts v.pair.right v.pair.left.lo v.normal.low_member).1 m) ∙ p.1)

-- ---- what is wrapped

wrap_same : (o o' : Option P) (h : IfSome o IsNormal) (h' : IfSome o' IsNormal) → o ≡ o' → wrap o h ≡ wrap o' h'
wrap_same None None h h' e = refl
wrap_same None (Some q) h h' e = cc
wrap_same (Some p) None h h' e = cc
wrap_same (Some p) (Some q) h h' e = let f : p ≡ q = cc in ap (λ (v : Val). Some v) (val_from (val p h) q f h')

wrap_or : (o : Option P) (h : IfSome o IsNormal) (n : ℤ) → IsSomeAnd o (λ p. Has base p n) → (k : IsNormal (unwrap_or o base.top)) → wrap o h ≡ Some (val (unwrap_or o base.top) k)
wrap_or None h n s k = absurd s
wrap_or (Some p) h n s k = λ i. Some (val p (normal_prop p h k i))

wrap_none : (o : Option P) (h : IfSome o IsNormal) → o ≡ None → wrap o h ≡ None
wrap_none o h e = wrap_same o None h tt e

-- both factors give the single value of z
exact_at : (z : ℤ) (o : Option Interval) (q : Option Congruence) (h : IfSome (bind (both intervals congruences o q) (seal intervals congruences)) IsNormal) → o ≡ one intervals.constant iv.single z → q ≡ one congruences.constant cg.single z → wrap (bind (both intervals congruences o q) (seal intervals congruences)) h ≡ one vals.constant single z
exact_at z o q h e f =
    ⊎_elim
    (λ (t : is_signed z ≡ true).
    let w = is_signed_true z t in
    let p = pair (intervals.constant z) (congruences.constant z) in
    let eo : o ≡ Some (intervals.constant z) = rw t at e in
    let eq : q ≡ Some (congruences.constant z) = rw t at f in
    let g : bind (both intervals congruences o q) (seal intervals congruences) ≡ seal intervals congruences (pair (intervals.constant z) (congruences.constant z)) = ap₂ (λ (x : Option Interval) (y : Option Congruence). bind (both intervals congruences x y) (seal intervals congruences)) eo eq in
    let s = seal_has intervals congruences interval_laws congruence_laws p z (both_has intervals congruences p z (interval_laws.order.constant_has z w) (congruence_laws.order.constant_has z w)) in
    rw t (wrap_same (bind (both intervals congruences o q) (seal intervals congruences)) (seal intervals congruences p) h (seal_normal p) g ∙ wrap_or (seal intervals congruences p) (seal_normal p) z s (constant_normal z)))
    (λ (t : is_signed z ≡ false).
    let eo : o ≡ None = rw t at e in
    let g : bind (both intervals congruences o q) (seal intervals congruences) ≡ None = ap (λ (x : Option Interval). bind (both intervals congruences x q) (seal intervals congruences)) eo in
    rw t (wrap_none (bind (both intervals congruences o q) (seal intervals congruences)) h g))
    (cases_Bool (is_signed z))

-- what is sealed of two constants is single, as the interval in it is
sealed_single : (n : ℤ) (o : Option P) → IsSomeAnd o (λ p. Has base p n) → BelowOption base o (Some (pair (intervals.constant n) (congruences.constant n)))
    → iv.single (intervals.constant n) ≡ Some n → (k : IsNormal (unwrap_or o base.top)) → single (val (unwrap_or o base.top) k) ≡ Some n
sealed_single n None s h e k = absurd s
sealed_single n (Some q) s h e k =
    interval_single.below q.left (intervals.constant n) n (le_both intervals congruences q (pair (intervals.constant n) (congruences.constant n)) h).left e

constant_is_single : (n : ℤ) → IsSigned n → single (vals.constant n) ≡ Some n
constant_is_single n w =
    let p = pair (intervals.constant n) (congruences.constant n) in
    sealed_single n (seal intervals congruences p)
    (seal_has intervals congruences interval_laws congruence_laws p n (both_has intervals congruences p n (interval_laws.order.constant_has n w) (congruence_laws.order.constant_has n w)))
    (seal_below intervals congruences interval_laws congruence_laws p) (interval_exact.constant n w) (constant_normal n)

pub val_exact : IsExact vals single
val_exact = record {
  constant = constant_is_single;
  add = λ a b x y e g. exact_at (x +ℤ y) (intervals.add a.pair.left b.pair.left) (congruences.add a.pair.right b.pair.right) (add_normal a b) (interval_exact.add a.pair.left b.pair.left x y (left_single a x e) (left_single b y g)) (congruence_exact.add a.pair.right b.pair.right x y (right_single a x e) (right_single b y g));
  sub = λ a b x y e g. exact_at (x -ℤ y) (intervals.sub a.pair.left b.pair.left) (congruences.sub a.pair.right b.pair.right) (sub_normal a b) (interval_exact.sub a.pair.left b.pair.left x y (left_single a x e) (left_single b y g)) (congruence_exact.sub a.pair.right b.pair.right x y (right_single a x e) (right_single b y g));
  add_wrap = λ a b x y e g. exact_at (wrapped (x +ℤ y)) (intervals.add_wrap a.pair.left b.pair.left) (congruences.add_wrap a.pair.right b.pair.right) (add_wrap_normal a b) (interval_exact.add_wrap a.pair.left b.pair.left x y (left_single a x e) (left_single b y g)) (congruence_exact.add_wrap a.pair.right b.pair.right x y (right_single a x e) (right_single b y g));
  sub_wrap = λ a b x y e g. exact_at (wrapped (x -ℤ y)) (intervals.sub_wrap a.pair.left b.pair.left) (congruences.sub_wrap a.pair.right b.pair.right) (sub_wrap_normal a b) (interval_exact.sub_wrap a.pair.left b.pair.left x y (left_single a x e) (left_single b y g)) (congruence_exact.sub_wrap a.pair.right b.pair.right x y (right_single a x e) (right_single b y g));
  xor = λ a b x y e g. exact_at (signed_xor x y) (intervals.xor a.pair.left b.pair.left) (congruences.xor a.pair.right b.pair.right) (xor_normal a b) (interval_exact.xor a.pair.left b.pair.left x y (left_single a x e) (left_single b y g)) (congruence_exact.xor a.pair.right b.pair.right x y (right_single a x e) (right_single b y g));
  bit_and = λ a b x y e g. exact_at (signed_and x y) (intervals.bit_and a.pair.left b.pair.left) (congruences.bit_and a.pair.right b.pair.right) (bit_and_normal a b) (interval_exact.bit_and a.pair.left b.pair.left x y (left_single a x e) (left_single b y g)) (congruence_exact.bit_and a.pair.right b.pair.right x y (right_single a x e) (right_single b y g));
  nor = λ a b x y e g. exact_at (signed_nor x y) (intervals.nor a.pair.left b.pair.left) (congruences.nor a.pair.right b.pair.right) (nor_normal a b) (interval_exact.nor a.pair.left b.pair.left x y (left_single a x e) (left_single b y g)) (congruence_exact.nor a.pair.right b.pair.right x y (right_single a x e) (right_single b y g));
  and_not = λ a b x y e g. exact_at (signed_and_not x y) (intervals.and_not a.pair.left b.pair.left) (congruences.and_not a.pair.right b.pair.right) (and_not_normal a b) (interval_exact.and_not a.pair.left b.pair.left x y (left_single a x e) (left_single b y g)) (congruence_exact.and_not a.pair.right b.pair.right x y (right_single a x e) (right_single b y g));
  neg = λ a x e. exact_at (wrapped (neg_ℤ x)) (intervals.neg a.pair.left) (congruences.neg a.pair.right) (neg_normal a) (interval_exact.neg a.pair.left x (left_single a x e)) (congruence_exact.neg a.pair.right x (right_single a x e));
  sar = λ a x e. exact_at (halved x) (intervals.sar a.pair.left) (congruences.sar a.pair.right) (sar_normal a) (interval_exact.sar a.pair.left x (left_single a x e)) (congruence_exact.sar a.pair.right x (right_single a x e));
  shl = λ a x e. exact_at (x +ℤ x) (intervals.shl a.pair.left) (congruences.shl a.pair.right) (shl_normal a) (interval_exact.shl a.pair.left x (left_single a x e)) (congruence_exact.shl a.pair.right x (right_single a x e));
  moved = λ k a x e. exact_at (x +ℤ k) (intervals.moved a.pair.left k) (congruences.moved a.pair.right k) (moved_normal a k) (interval_exact.moved k a.pair.left x (left_single a x e)) (congruence_exact.moved k a.pair.right x (right_single a x e));
  right_through = λ a b x e. exact_at (shifted_right b x) (intervals.right_through a.pair.left (Some b)) (congruences.right_through a.pair.right (Some b)) (right_through_normal a (Some b)) (interval_exact.right_through a.pair.left b x (left_single a x e)) (congruence_exact.right_through a.pair.right b x (right_single a x e));
  left_through = λ a b x e. exact_at (shifted_left b x) (intervals.left_through a.pair.left (Some b)) (congruences.left_through a.pair.right (Some b)) (left_through_normal a (Some b)) (interval_exact.left_through a.pair.left b x (left_single a x e)) (congruence_exact.left_through a.pair.right b x (right_single a x e));
}
