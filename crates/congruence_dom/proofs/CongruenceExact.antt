-- Congruences keep the exact rule.
use Rattle.std.specs.Prelude.{◌≡◌, ℕ, ◌*◌, ◌/◌, ◌%◌, ◌^◌, ℤ, pos, ◌+ℤ◌, ◌-ℤ◌, neg_ℤ, Bool, true, false, cond, nat_eq, Option, Some, None, IsSomeAnd}
use Rattle.std.proofs.Common.{refl, sym, ap, subst, arith, ⊎_elim, ◌∙◌}
use Rattle.std.proofs.Math.Path.{ap₂}
use Rattle.std.proofs.Math.Nat.{dvd_antisymm, dvd_refl, dvd-zero}
use Rattle.std.proofs.lemmas.Int.{ints}
use Rattle.std.proofs.lemmas.Bool.{cases_Bool}
use Rattle.viper_word.specs.Words.{IsSigned, least_signed, is_signed}
use Rattle.viper_word.specs.Signed.{wrapped, halved, shifted_left}
use Rattle.viper_word.proofs.SignedLemmas.{wrapped_in_w}
use Rattle.num_domain.specs.Domain.{Has}
use Rattle.std.specs.Prelude.{unwrap_or}
use Rattle.num_domain.specs.Exact.{one}
use Rattle.num_domain.specs.ExactRule.{IsExact}
use Rattle.num_domain.specs.evidence.ExactLaws.{constant_single}
use Rattle.viper_word.proofs.Integers.{is_signed_true}
use Rattle.viper_word.specs.Divisors.{gcd}
use Rattle.viper_word.proofs.Gcd.{gcd_right, gcd_greatest}
use Rattle.viper_word.proofs.Multiples.{Divides_is, Divides-zero}
use Rattle.congruence_dom.specs.evidence.Wraps.{wrapped_divides}
use Rattle.congruence_dom.specs.Residues.{mod_of, next_from}
use Rattle.congruence_dom.specs.evidence.Forms.{single_form, reduce_zero}
use Rattle.congruence_dom.specs.Congruences.{make, congruence, top, single, constant, sar, left_through, congruences}
use Rattle.congruence_dom.specs.evidence.CongruenceOrder.{make_has, alone}
use Rattle.congruence_dom.specs.evidence.CongruenceLaws.{single_is, single_laws}
use Rattle.congruence_dom.specs.declared.congruence.Congruence.{Congruence}
use Rattle.congruence_dom.proofs.CongruenceCode.{make_zero_if, make_large, make_none}

some_is : (o : Option Congruence) (n : ℤ) → IsSomeAnd o (λ r. Has congruences r n) → o ≡ Some (unwrap_or o top)
some_is None n h = absurd h
some_is (Some r) n h = refl

pub make_one : (z : ℤ) → make 0 z ≡ one constant single z
unfolding constant
make_one z =
    let at : next_from 0 z least_signed ≡ z = let f = reduce_zero 0 (z -ℤ least_signed) refl in omega (arith, ints) in
    ⊎_elim (λ (e : is_signed z ≡ true). let w = is_signed_true z e in rw e (some_is (make 0 z) z (make_has 0 z z w (Divides_is 0 (pos 0) (z -ℤ z) (Divides-zero 0) (omega (arith, ints))))))
    (λ (e : is_signed z ≡ false). rw e (sym (make_none 0 z refl (subst (λ (y : ℤ). is_signed y ≡ false) (sym at) e)))) (cases_Bool (is_signed z))

-- at 2^32 the one member is the wrapped number
make_wrapped : (z : ℤ) → make (2 ^ 32) z ≡ one constant single (wrapped z)
make_wrapped z =
    let w = wrapped_in_w z in
    let c = congruence (pos 0) (wrapped z) (single_form (wrapped z) w) in
    let at = alone (2 ^ 32) z (wrapped z) refl w (wrapped_divides z) in
    let large : Some (congruence (pos 0) (wrapped z) (single_form (wrapped z) w)) ≡ make (2 ^ 32) z = make_large (2 ^ 32) z c refl (subst IsSigned (sym at) w) refl (sym at) in
    let zero = make_zero_if (wrapped z) c refl refl w in
    sym large ∙ zero ∙ make_one (wrapped z)

zero_gcd : (m n : ℕ) → m ≡ 0 → gcd m n ≡ n
zero_gcd m n e = ap (λ (k : ℕ). gcd k n) e ∙ dvd_antisymm (gcd_right 0 n) (gcd_greatest 0 n n (dvd-zero n) (dvd_refl n))

make_at : (m : ℕ) (s z : ℤ) → m ≡ 0 → s ≡ z → make m s ≡ one constant single z
make_at m s z e f = ap₂ make e f ∙ make_one z

wrapped_at : (m : ℕ) (s z : ℤ) → m ≡ 2 ^ 32 → s ≡ z → make m s ≡ one constant single (wrapped z)
wrapped_at m s z e f = ap₂ make e f ∙ make_wrapped z

sar_at : (a : Congruence) (x : ℤ) → mod_of a ≡ 0 → a.residue ≡ x → sar a ≡ one constant single (halved x)
unfolding sar
sar_at a x e f =
    subst (λ (k : ℕ). cond (nat_eq (k % 2) 0) (make (k / 2) (halved a.residue)) (Some top) ≡ one constant single (halved x)) (sym e) (make_at 0 (halved a.residue) (halved x) refl (ap halved f))

left_at : (a : Congruence) (b : Bool) (x : ℤ) → mod_of a ≡ 0 → a.residue ≡ x → left_through a (Some b) ≡ one constant single (shifted_left b x)
unfolding left_through shifted_left
left_at a b x e f =
    wrapped_at (gcd (2 * mod_of a) (2 ^ 32)) (a.residue +ℤ a.residue +ℤ cond b (pos 1) (pos 0)) (x +ℤ x +ℤ cond b (pos 1) (pos 0)) (zero_gcd (2 * mod_of a) (2 ^ 32) (omega arith)) (ap (λ (s : ℤ). s +ℤ s +ℤ cond b (pos 1) (pos 0)) f)

pub congruence_exact : IsExact congruences single
congruence_exact = record {
  constant = λ n w. constant_single congruences single single_laws (congruence (pos 0) n (single_form n w)) n refl;
  add = λ a b x y e f. let p = single_is a x e in let q = single_is b y f in make_at (gcd (mod_of a) (mod_of b)) (a.residue +ℤ b.residue) (x +ℤ y) (zero_gcd (mod_of a) (mod_of b) p.0 ∙ q.0) (ap₂ ◌+ℤ◌ p.1 q.1);
  sub = λ a b x y e f. let p = single_is a x e in let q = single_is b y f in make_at (gcd (mod_of a) (mod_of b)) (a.residue -ℤ b.residue) (x -ℤ y) (zero_gcd (mod_of a) (mod_of b) p.0 ∙ q.0) (ap₂ ◌-ℤ◌ p.1 q.1);
  add_wrap = λ a b x y e f. let p = single_is a x e in let q = single_is b y f in wrapped_at (gcd (gcd (mod_of a) (mod_of b)) (2 ^ 32)) (a.residue +ℤ b.residue) (x +ℤ y) (zero_gcd (gcd (mod_of a) (mod_of b)) (2 ^ 32) (zero_gcd (mod_of a) (mod_of b) p.0 ∙ q.0)) (ap₂ ◌+ℤ◌ p.1 q.1);
  sub_wrap = λ a b x y e f. let p = single_is a x e in let q = single_is b y f in wrapped_at (gcd (gcd (mod_of a) (mod_of b)) (2 ^ 32)) (a.residue -ℤ b.residue) (x -ℤ y) (zero_gcd (gcd (mod_of a) (mod_of b)) (2 ^ 32) (zero_gcd (mod_of a) (mod_of b) p.0 ∙ q.0)) (ap₂ ◌-ℤ◌ p.1 q.1);
  xor = λ a b x y e f. rw (e, f) refl;
  bit_and = λ a b x y e f. rw (e, f) refl;
  nor = λ a b x y e f. rw (e, f) refl;
  and_not = λ a b x y e f. rw (e, f) refl;
  neg = λ a x e. let p = single_is a x e in wrapped_at (gcd (mod_of a) (2 ^ 32)) (neg_ℤ a.residue) (neg_ℤ x) (zero_gcd (mod_of a) (2 ^ 32) p.0) (ap neg_ℤ p.1);
  sar = λ a x e. let p = single_is a x e in sar_at a x p.0 p.1;
  shl = λ a x e. let p = single_is a x e in let p0 = p.0 in make_at (2 * mod_of a) (a.residue +ℤ a.residue) (x +ℤ x) (omega arith) (ap₂ ◌+ℤ◌ p.1 p.1);
  moved = λ k a x e. let p = single_is a x e in make_at (mod_of a) (a.residue +ℤ k) (x +ℤ k) p.0 (ap (λ (s : ℤ). s +ℤ k) p.1);
  right_through = λ a b x e. rw e refl;
  left_through = λ a b x e. let p = single_is a x e in left_at a b x p.0 p.1;
}
