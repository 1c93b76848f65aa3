-- What the code of congruences computes.
use Rattle.std.specs.Prelude.{◌≡◌, ℕ, ◌<◌, ◌≤◌, ◌-◌, ◌%◌, ◌^◌, ℤ, pos, ◌-ℤ◌, ◌≤ℤ◌, Bool, true, false, ◌&&◌, nat_abs, nat_eq, Option, Some, None, IfSome}
use Rattle.std.proofs.Common.{refl, sym, ap, subst, arith, ⊎_elim, ◌∙◌}
use Rattle.std.proofs.Math.Nat.{le_of_dvd, eq-zero_of_zero-dvd, mod-zero}
use Rattle.std.proofs.lemmas.Int.{ints}
use Rattle.std.proofs.lemmas.Bool.{cases_Bool, false≢true, eqb-true}
use Rattle.viper_word.specs.Words.{least_signed, IsSigned, is_signed}
use Rattle.num_domain.specs.Domain.{Has}
use Rattle.std.specs.Prelude.{unwrap_or}
use Rattle.num_domain.specs.Exact.{exact2}
use Rattle.num_domain.specs.evidence.ExactLaws.{exact2_single}
use Rattle.std.proofs.lemmas.Bool.{and_parts}
use Rattle.congruence_dom.specs.evidence.CongruenceLaws.{single_from}
use Rattle.viper_word.proofs.Integers.{true_is_signed}
use Rattle.congruence_dom.specs.Form.{IsForm}
use Rattle.viper_word.specs.Divisors.{gcd}
use Rattle.viper_word.proofs.Gcd.{gcd_left, gcd_right, gcd_greatest}
use Rattle.congruence_dom.specs.Residues.{mod_of, reduce, is_small, next_from}
use Rattle.congruence_dom.specs.evidence.Forms.{positive, reduce_zero, small_parts, small_from, reduced_form, dvd_zero_is}
use Rattle.congruence_dom.specs.Congruences.{congruence_if, make_when, make, least_from, top, single, constant, congruences}
use Rattle.congruence_dom.specs.evidence.CongruenceOrder.{same_from, has_parts, least_is}
use Rattle.congruence_dom.specs.declared.congruence.Congruence.{Congruence}

-- ---- for the code

pub make_when_small : (m : ℕ) (z : ℤ) (b : Bool) (e : is_small m ≡ b) (c : Congruence) → b ≡ true → c.modulus ≡ pos m → c.residue ≡ reduce m z → Some c ≡ make_when m z b e
make_when_small m z true e c f p q = ap (λ (x : Congruence). Some x) (same_from c (pos m) (reduce m z) p q (reduced_form m z (small_parts m e).0 (small_parts m e).1))
make_when_small m z false e c f p q = absurd (false≢true f)

pub make_small : (m : ℕ) (z : ℤ) (c : Congruence) → 0 < m → m ≤ 2 ^ 32 - 1 → c.modulus ≡ pos m → c.residue ≡ reduce m z → Some c ≡ make m z
unfolding make
make_small m z c h k p q = make_when_small m z (is_small m) refl c (small_from m h k) p q

pub congruence_if_is : (z : ℤ) (b : Bool) (h : b ≡ true → IsForm (pos 0) z) (c : Congruence) → b ≡ true → c.modulus ≡ pos 0 → c.residue ≡ z → Some c ≡ congruence_if (pos 0) z b h
congruence_if_is z true h c f p q = ap (λ (x : Congruence). Some x) (same_from c (pos 0) z p q (h refl))
congruence_if_is z false h c f p q = absurd (false≢true f)

pub congruence_if_none : (z : ℤ) (b : Bool) (h : b ≡ true → IsForm (pos 0) z) → b ≡ false → None ≡ congruence_if (pos 0) z b h
congruence_if_none z true h f = absurd (false≢true (sym f))
congruence_if_none z false h f = refl

pub make_when_large : (m : ℕ) (z : ℤ) (b : Bool) (e : is_small m ≡ b) (c : Congruence) → b ≡ false → IsSigned (next_from m z least_signed) → c.modulus ≡ pos 0 → c.residue ≡ next_from m z least_signed → Some c ≡ make_when m z b e
make_when_large m z true e c f w p q = absurd (false≢true (sym f))
make_when_large m z false e c f w p q = congruence_if_is (next_from m z least_signed) (is_signed (next_from m z least_signed)) _ c (true_is_signed (next_from m z least_signed) w) p q

pub make_large : (m : ℕ) (z : ℤ) (c : Congruence) → is_small m ≡ false → IsSigned (next_from m z least_signed) → c.modulus ≡ pos 0 → c.residue ≡ next_from m z least_signed → Some c ≡ make m z
unfolding make
make_large m z c h w p q = make_when_large m z (is_small m) refl c h w p q

pub make_when_none : (m : ℕ) (z : ℤ) (b : Bool) (e : is_small m ≡ b) → b ≡ false → is_signed (next_from m z least_signed) ≡ false → None ≡ make_when m z b e
make_when_none m z true e f w = absurd (false≢true (sym f))
make_when_none m z false e f w = congruence_if_none (next_from m z least_signed) (is_signed (next_from m z least_signed)) _ w

pub make_none : (m : ℕ) (z : ℤ) → is_small m ≡ false → is_signed (next_from m z least_signed) ≡ false → None ≡ make m z
unfolding make
make_none m z h w = make_when_none m z (is_small m) refl h w

-- a common divisor is no greater than both
pub gcd_small : (a b : Congruence) → gcd (mod_of a) (mod_of b) ≤ 2 ^ 32 - 1
gcd_small a b =
    let x = mod_of a in
    let y = mod_of b in
    let fa = a.form.fits in
    let na = a.form.not_negative in
    let fb = b.form.fits in
    let nb = b.form.not_negative in
    ⊎_elim
    (λ (ex : nat_eq (mod_of a) 0 ≡ true).
    ⊎_elim
    (λ (ey : nat_eq (mod_of b) 0 ≡ true).
    let z = eq-zero_of_zero-dvd (gcd_greatest x y 0 (dvd_zero_is x (eqb-true x 0 ex)) (dvd_zero_is y (eqb-true y 0 ey))) in omega arith)
    (λ (ey : nat_eq (mod_of b) 0 ≡ false). let l = le_of_dvd (positive y ey) (gcd_right x y) in omega (arith, ints))
    (cases_Bool (nat_eq (mod_of b) 0)))
    (λ (ex : nat_eq (mod_of a) 0 ≡ false). let l = le_of_dvd (positive x ex) (gcd_left x y) in omega (arith, ints))
    (cases_Bool (nat_eq (mod_of a) 0))

pub least_signed_of : (a : Congruence) (n k : ℤ) → Some k ≡ least_from a n → IsSigned k
least_signed_of a n k e =
    let h : IfSome (Some k) (λ k. Has congruences a k × (n ≤ℤ k)) = subst (λ (o : Option ℤ). IfSome o (λ k. Has congruences a k × (n ≤ℤ k))) (sym e) (least_is a n) in
    (has_parts a k h.0).0

-- the code's test of the order
pub includes_zero : (a b : Congruence) (g : ℕ) → mod_of a ≡ 0 → g ≡ nat_abs (b.residue -ℤ a.residue) → (nat_eq (mod_of b) 0 && nat_eq g 0) ≡ congruences.includes a b
includes_zero a b g e f =
    let p : mod_of b % mod_of a ≡ mod_of b = ap (λ (x : ℕ). mod_of b % x) e ∙ mod-zero (mod_of b) in
    let q : nat_abs (b.residue -ℤ a.residue) % mod_of a ≡ nat_abs (b.residue -ℤ a.residue) = ap (λ (x : ℕ). nat_abs (b.residue -ℤ a.residue) % x) e ∙ mod-zero (nat_abs (b.residue -ℤ a.residue)) in
    rw (p, q, f) refl

pub large_from : (m : ℕ) → (0 < m → m ≤ 2 ^ 32 - 1 → ⊥) → is_small m ≡ false
large_from m h = ⊎_elim (λ (e : is_small m ≡ true). let p = small_parts m e in absurd (h p.0 p.1)) (λ (e : is_small m ≡ false). e) (cases_Bool (is_small m))

-- the form, where numbers of the code are known to be those meant
pub form_at : (m r m' r' : ℤ) → IsForm m r → m' ≡ m → r' ≡ r → IsForm m' r'
form_at m r m' r' h e f = subst (λ (x : ℤ). IsForm m' x) (sym f) (subst (λ (x : ℤ). IsForm x r) (sym e) h)

-- ---- single values

pub make_zero_if : (z : ℤ) (c : Congruence) → c.modulus ≡ pos 0 → c.residue ≡ z → IsSigned z → Some c ≡ make 0 z
make_zero_if z c p q w =
    let e : z ≡ next_from 0 z least_signed = let f = reduce_zero 0 (z -ℤ least_signed) refl in omega (arith, ints) in
    make_large 0 z c (large_from 0 (λ h k. absurd (omega arith))) (subst IsSigned e w) p (q ∙ e)

pub constant_is : (r : Congruence) (n : ℤ) → r.modulus ≡ pos 0 → r.residue ≡ n → IsSigned n → r ≡ constant n
unfolding constant
constant_is r n p q w = ap (λ (o : Option Congruence). unwrap_or o top) (make_zero_if n r p q w)

at_zero : (a : Congruence) → nat_eq (mod_of a) 0 ≡ true → single a ≡ Some a.residue
at_zero a t = single_from a a.residue (eqb-true (mod_of a) 0 t) refl

-- both have one member
pub then_exact : (op : ℤ → ℤ → ℤ) (f : Congruence → Congruence → Option Congruence) (a b r : Congruence) (z : ℤ) → (nat_eq (mod_of a) 0 && nat_eq (mod_of b) 0) ≡ true → r ≡ constant z → z ≡ op a.residue b.residue → IsSigned z → Some r ≡ exact2 constant single op f a b
then_exact op f a b r z t e g w =
    let p = and_parts (nat_eq (mod_of a) 0) (nat_eq (mod_of b) 0) t in
    ap (λ (x : Congruence). Some x) (e ∙ ap constant g) ∙ exact2_single congruences single op f a b a.residue b.residue (at_zero a p.0) (at_zero b p.1) (subst IsSigned g w)
