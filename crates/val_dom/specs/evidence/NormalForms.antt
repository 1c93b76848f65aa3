-- What the functions of pairs give is in normal form.
use Rattle.std.specs.Prelude.{◌≡◌, ℕ, ◌-ℤ◌, nat_abs, ℤ, pos, int_le, Bool, true, false, List, Option, Some, None, IfSome}
use Rattle.std.specs.Int.{int_min, int_max}
use Rattle.std.proofs.Common.{ap, subst, arith, ⊎_elim}
use Rattle.std.proofs.Math.Nat.{eq-zero_of_zero-dvd}
use Rattle.std.proofs.lemmas.Int.{ints, clamps}
use Rattle.std.proofs.lemmas.Bool.{cases_Bool}
use Rattle.viper_word.specs.Words.{least_signed, greatest_signed}
use Rattle.viper_word.specs.declared.kind.Kind.{Kind}
use Rattle.num_domain.specs.Domain.{Has}
use Rattle.num_domain.specs.Laws.{DomainLaws}
use Rattle.std.specs.Prelude.{unwrap_or}
use Rattle.viper_word.proofs.Integers.{le_true, le_false}
use Rattle.num_domain.specs.Pairs.{pair, both, seal, joined}
use Rattle.num_domain.specs.evidence.PairLaws.{pair_laws}
use Rattle.interval_dom.specs.Intervals.{intervals}
use Rattle.interval_dom.specs.evidence.IntervalLaws.{interval_laws}
use Rattle.viper_word.specs.Divisors.{gcd}
use Rattle.viper_word.proofs.Gcd.{gcd_greatest}
use Rattle.congruence_dom.specs.Residues.{mod_of, join_modulus}
use Rattle.congruence_dom.specs.evidence.Forms.{dvd_zero_is}
use Rattle.congruence_dom.specs.Congruences.{congruences}
use Rattle.congruence_dom.specs.evidence.CongruenceOrder.{has_parts, only_member}
use Rattle.congruence_dom.specs.evidence.CongruenceLaws.{congruence_laws}
use Rattle.val_dom.specs.Normal.{P, IsNormal}
use Rattle.val_dom.specs.Made.{base, val}
use Rattle.val_dom.specs.evidence.Seals.{seal_normal, sealed_normal}
use Rattle.val_dom.specs.declared.val.Val.{Val}

pub base_laws : DomainLaws base
base_laws = pair_laws intervals congruences interval_laws congruence_laws

pub top_normal : IsNormal base.top
top_normal = record {
  low_member = congruence_laws.order.top_has least_signed (record { low = omega (arith, ints); high = omega (arith, ints) });
  high_member = congruence_laws.order.top_has greatest_signed (record { low = omega (arith, ints); high = omega (arith, ints) });
  single = λ e. absurd (omega (arith, ints));
}

pub residue_is : (v : Val) → v.pair.left.lo ≡ v.pair.left.hi → (mod_of v.pair.right ≡ 0) × (v.pair.left.lo ≡ v.pair.right.residue)
residue_is v e =
    let z = v.normal.single e in
    let m : mod_of v.pair.right ≡ 0 = omega (arith, ints) in
    (m, only_member (mod_of v.pair.right) v.pair.left.lo v.pair.right.residue (has_parts v.pair.right v.pair.left.lo v.normal.low_member).1 m)

pub join_single : (a b : Val) → a.pair.left.lo ≡ a.pair.left.hi → b.pair.left.lo ≡ b.pair.left.hi → a.pair.left.lo ≡ b.pair.left.lo → join_modulus a.pair.right b.pair.right ≡ 0
join_single a b e f g =
    let p = residue_is a e in
    let q = residue_is b f in
    let p1 = p.1 in
    let q1 = q.1 in
    let x = mod_of a.pair.right in
    let y = mod_of b.pair.right in
    let d = nat_abs (a.pair.right.residue -ℤ b.pair.right.residue) in
    let z : nat_abs (a.pair.right.residue -ℤ b.pair.right.residue) ≡ 0 = omega (arith, ints) in
    eq-zero_of_zero-dvd (gcd_greatest (gcd x y) d 0 (gcd_greatest x y 0 (dvd_zero_is x p.0) (dvd_zero_is y q.0)) (dvd_zero_is d z))

pub join_normal : (a b : Val) → IsNormal (base.join a.pair b.pair)
join_normal a b =
    let x = a.pair.left in
    let y = b.pair.left in
    let c = a.pair.right in
    let d = b.pair.right in
    let l = congruence_laws.order.join_left c d in
    let r = congruence_laws.order.join_right c d in
    let j = congruences.join c d in
    record {
      low_member = ⊎_elim
          (λ (e : int_le x.lo y.lo ≡ true). let f = le_true x.lo y.lo e in let g : x.lo ≡ int_min x.lo y.lo = omega (arith, ints, clamps) in subst (λ (z : ℤ). Has congruences (congruences.join c d) z) g (congruence_laws.order.has c j x.lo l a.normal.low_member))
          (λ (e : int_le x.lo y.lo ≡ false). let f = le_false x.lo y.lo e in let g : y.lo ≡ int_min x.lo y.lo = omega (arith, ints, clamps) in subst (λ (z : ℤ). Has congruences (congruences.join c d) z) g (congruence_laws.order.has d j y.lo r b.normal.low_member))
          (cases_Bool (int_le x.lo y.lo));
      high_member = ⊎_elim
          (λ (e : int_le x.hi y.hi ≡ true). let f = le_true x.hi y.hi e in let g : y.hi ≡ int_max x.hi y.hi = omega (arith, ints, clamps) in subst (λ (z : ℤ). Has congruences (congruences.join c d) z) g (congruence_laws.order.has d j y.hi r b.normal.high_member))
          (λ (e : int_le x.hi y.hi ≡ false). let f = le_false x.hi y.hi e in let g : x.hi ≡ int_max x.hi y.hi = omega (arith, ints, clamps) in subst (λ (z : ℤ). Has congruences (congruences.join c d) z) g (congruence_laws.order.has c j x.hi l a.normal.high_member))
          (cases_Bool (int_le x.hi y.hi));
      single = λ e. ap (λ (n : ℕ). pos n) (join_single a b (let ex = x.ends in let ey = y.ends in omega (arith, ints, clamps)) (let ex = x.ends in let ey = y.ends in omega (arith, ints, clamps)) (let ex = x.ends in let ey = y.ends in omega (arith, ints, clamps)));
    }

pub add_normal : (a b : Val) → IfSome (base.add a.pair b.pair) IsNormal
add_normal a b = sealed_normal (both intervals congruences (intervals.add a.pair.left b.pair.left) (congruences.add a.pair.right b.pair.right))

pub sub_normal : (a b : Val) → IfSome (base.sub a.pair b.pair) IsNormal
sub_normal a b = sealed_normal (both intervals congruences (intervals.sub a.pair.left b.pair.left) (congruences.sub a.pair.right b.pair.right))

pub add_wrap_normal : (a b : Val) → IfSome (base.add_wrap a.pair b.pair) IsNormal
add_wrap_normal a b = sealed_normal (both intervals congruences (intervals.add_wrap a.pair.left b.pair.left) (congruences.add_wrap a.pair.right b.pair.right))

pub sub_wrap_normal : (a b : Val) → IfSome (base.sub_wrap a.pair b.pair) IsNormal
sub_wrap_normal a b = sealed_normal (both intervals congruences (intervals.sub_wrap a.pair.left b.pair.left) (congruences.sub_wrap a.pair.right b.pair.right))

pub xor_normal : (a b : Val) → IfSome (base.xor a.pair b.pair) IsNormal
xor_normal a b = sealed_normal (both intervals congruences (intervals.xor a.pair.left b.pair.left) (congruences.xor a.pair.right b.pair.right))

pub bit_and_normal : (a b : Val) → IfSome (base.bit_and a.pair b.pair) IsNormal
bit_and_normal a b = sealed_normal (both intervals congruences (intervals.bit_and a.pair.left b.pair.left) (congruences.bit_and a.pair.right b.pair.right))

pub nor_normal : (a b : Val) → IfSome (base.nor a.pair b.pair) IsNormal
nor_normal a b = sealed_normal (both intervals congruences (intervals.nor a.pair.left b.pair.left) (congruences.nor a.pair.right b.pair.right))

pub and_not_normal : (a b : Val) → IfSome (base.and_not a.pair b.pair) IsNormal
and_not_normal a b = sealed_normal (both intervals congruences (intervals.and_not a.pair.left b.pair.left) (congruences.and_not a.pair.right b.pair.right))

pub neg_normal : (a : Val) → IfSome (base.neg a.pair) IsNormal
neg_normal a = sealed_normal (both intervals congruences (intervals.neg a.pair.left) (congruences.neg a.pair.right))

pub sar_normal : (a : Val) → IfSome (base.sar a.pair) IsNormal
sar_normal a = sealed_normal (both intervals congruences (intervals.sar a.pair.left) (congruences.sar a.pair.right))

pub shl_normal : (a : Val) → IfSome (base.shl a.pair) IsNormal
shl_normal a = sealed_normal (both intervals congruences (intervals.shl a.pair.left) (congruences.shl a.pair.right))

pub moved_normal : (a : Val) (k : ℤ) → IfSome (base.moved a.pair k) IsNormal
moved_normal a k = sealed_normal (both intervals congruences (intervals.moved a.pair.left k) (congruences.moved a.pair.right k))

pub right_through_normal : (a : Val) (b : Option Bool) → IfSome (base.right_through a.pair b) IsNormal
right_through_normal a b = sealed_normal (both intervals congruences (intervals.right_through a.pair.left b) (congruences.right_through a.pair.right b))

pub left_through_normal : (a : Val) (b : Option Bool) → IfSome (base.left_through a.pair b) IsNormal
left_through_normal a b = sealed_normal (both intervals congruences (intervals.left_through a.pair.left b) (congruences.left_through a.pair.right b))

pub refine_normal : (a : Val) (k : Kind) (b : Val) → IfSome (base.refine a.pair k b.pair) IsNormal
refine_normal a k b = sealed_normal (both intervals congruences (intervals.refine a.pair.left k b.pair.left) (congruences.refine a.pair.right k b.pair.right))

pub narrow_normal : (a : Val) (lo hi : ℤ) → IfSome (base.narrow a.pair lo hi) IsNormal
narrow_normal a lo hi = sealed_normal (both intervals congruences (intervals.narrow a.pair.left lo hi) (congruences.narrow a.pair.right lo hi))

or_top_normal : (o : Option P) → IfSome o IsNormal → IsNormal (unwrap_or o base.top)
or_top_normal None h = top_normal
or_top_normal (Some p) h = h

pub constant_normal : (n : ℤ) → IsNormal (base.constant n)
constant_normal n = or_top_normal (seal intervals congruences (pair (intervals.constant n) (congruences.constant n))) (seal_normal (pair (intervals.constant n) (congruences.constant n)))

pub span_normal : (lo hi m : ℤ) → IsNormal (base.span lo hi m)
span_normal lo hi m = or_top_normal (seal intervals congruences (pair (intervals.span lo hi m) (congruences.span lo hi m))) (seal_normal (pair (intervals.span lo hi m) (congruences.span lo hi m)))

joined_normal : (a : Val) (o : Option P) → IfSome o IsNormal → IsNormal (joined intervals congruences a.pair o)
joined_normal a None h = a.normal
joined_normal a (Some s) h = join_normal a (val s h)

pub round_normal : (a : Val) (ts : List ℤ) → IsNormal (base.round a.pair ts)
round_normal a ts = joined_normal a (seal intervals congruences (pair (intervals.round a.pair.left ts) (congruences.round a.pair.right ts))) (seal_normal (pair (intervals.round a.pair.left ts) (congruences.round a.pair.right ts)))
