-- Values: what is read is spelled so, and what is spelled so is read.
use Rattle.std.proofs.Common.{◌≡◌, ℕ, zero, suc, ◌^◌, ◌<◌, ℤ, pos, negsuc, ◌≤ℤ◌, ◌<ℤ◌, ◌-ℤ◌, int_lt, int_le, nat_abs, Bool, true, false, ◌&&◌, ◌||◌, List, ◌++◌, length, Option, Some, None, Ok, refl, sym, ap, subst, ◌∙◌, append_assoc, arith, nat_lt, ltb, ◌⊎◌, ⊎_elim, inl, inr}
use Rattle.std.specs.Ordering.{int_eq}
use Rattle.std.specs.Int.{w32, cast_unsigned}
use Rattle.std.proofs.lemmas.Int.{ints, of_z-to_z, to_z-of_z}
use Rattle.std.proofs.lemmas.Bool.{and_from, lt-ltb, le-ltb, ne_eqb, cases_Bool}
use Rattle.std.proofs.lemmas.Bool.Decides.{Decides-int_eq}
use Rattle.std.proofs.lemmas.Option.{none-some, same_Some}
use Rattle.viper_word.specs.Words.{IsSigned, is_signed, signed_value}
use Rattle.viper_word.specs.Divisors.{Divides, divides}
use Rattle.viper_word.proofs.Integers.{true_is_signed, le_true, le_false}
use Rattle.viper_word.proofs.Multiples.{true_divides}
use Rattle.num_domain.specs.Pairs.{pair}
use Rattle.interval_dom.specs.declared.interval.Interval.{Interval}
use Rattle.interval_dom.specs.evidence.IntervalOrder.{same_ends}
use Rattle.congruence_dom.specs.declared.congruence.Congruence.{Congruence}
use Rattle.congruence_dom.specs.Residues.{mod_of}
use Rattle.congruence_dom.specs.evidence.CongruenceOrder.{same_parts, has_parts, only_member}
use Rattle.val_dom.specs.declared.val.Val.{Val}
use Rattle.val_dom.specs.Normal.{P}
use Rattle.val_dom.specs.evidence.ValLaws.{same_pair}
use Rattle.val_dom.specs.evidence.NormalForms.{residue_is}
use Rattle.cert_format.specs.declared.limits.TheConstants.{VALUE}
use Rattle.cert_format.specs.Values.{word_bytes, value_bytes}
use Rattle.cert_format.specs.Reading.{◌>>=◌, number_at}
use Rattle.cert_format.specs.ReadValues.{value_if, value_of, or_value, parts_at, value_at}
use Rattle.cert_format.specs.evidence.ValueForms.{IsValue, made, is_single, is_several, is_value, residue_of, value_is}
use Rattle.cert_format.specs.evidence.Numbers.{IsBytes, Takes, Takes-then, bind_ok, spared, ok_is, err_not_ok, word_takes, word_again}

-- the numbers of a value
pub record HasParts (v : Val) (l h m r : ℤ) : Type 0 where
  pub lo : v.pair.left.lo ≡ l
  pub hi : v.pair.left.hi ≡ h
  pub modulus : v.pair.right.modulus ≡ m
  pub residue : v.pair.right.residue ≡ r

if_has : (lo hi m r : ℤ) (b : Bool) (h : b ≡ true → IsValue lo hi m r) (v : Val) → value_if lo hi m r b h ≡ Some v → HasParts v lo hi m r
if_has lo hi m r true h v e =
    let made_is = same_Some (record { pair = made lo hi m r (h refl).ends (h refl).form; normal = (h refl).normal }) v e in
    subst (λ (w : Val). HasParts w lo hi m r) made_is (record { lo = refl; hi = refl; modulus = refl; residue = refl })
if_has lo hi m r false h v e = absurd (none-some v e)

same_pairs : (p q : P) → p.left ≡ q.left → p.right ≡ q.right → p ≡ q
same_pairs p q h k = ap (λ (l : Interval). pair l p.right) h ∙ ap (λ (r : Congruence). pair q.left r) k

if_is : (lo hi m r : ℤ) (b : Bool) (h : b ≡ true → IsValue lo hi m r) (v : Val) → b ≡ true → HasParts v lo hi m r → value_if lo hi m r b h ≡ Some v
if_is lo hi m r true h v t p =
    let w : Val = record { pair = made lo hi m r (h refl).ends (h refl).form; normal = (h refl).normal } in
    ap (λ (x : Val). Some x) (same_pair w v (same_pairs w.pair v.pair (same_ends w.pair.left v.pair.left (sym p.lo) (sym p.hi)) (same_parts w.pair.right v.pair.right (sym p.modulus) (sym p.residue))))
if_is lo hi m r false h v t p = absurd (cc)

above_zero : (m r : ℕ) → 0 < m → residue_of m r ≡ pos r
above_zero m r h = rw (ne_eqb m 0 (λ e. omega arith)) refl

pub value_of_is : (lo hi : ℤ) (m r : ℕ) (v : Val) → is_value lo hi m r ≡ true → HasParts v lo hi (pos m) (residue_of m r) → value_of lo hi m r ≡ Some v
unfolding value_of
value_of_is lo hi m r v t p = if_is lo hi (pos m) (residue_of m r) (is_value lo hi m r) (value_is lo hi m r) v t p

if_none : (lo hi m r : ℤ) (b : Bool) (h : b ≡ true → IsValue lo hi m r) → b ≡ false → value_if lo hi m r b h ≡ None
if_none lo hi m r true h t = absurd (cc)
if_none lo hi m r false h t = refl

pub value_of_none : (lo hi : ℤ) (m r : ℕ) → is_value lo hi m r ≡ false → value_of lo hi m r ≡ None
unfolding value_of
value_of_none lo hi m r t = if_none lo hi (pos m) (residue_of m r) (is_value lo hi m r) (value_is lo hi m r) t

-- the same of numbers that are equal
pub value_at_is : (lo hi : ℤ) (m r : ℕ) (l h n s : ℤ) → is_value lo hi m r ≡ true → l ≡ lo → h ≡ hi → n ≡ pos m → s ≡ residue_of m r → IsValue l h n s
value_at_is lo hi m r l h n s t a b c d = rw (a, b, c, d) (value_is lo hi m r t)

residue_word : (m r : ℕ) → r < 2 ^ 32 → cast_unsigned w32 (residue_of m r) ≡ r
residue_word zero r h = of_z-to_z w32 r h
residue_word (suc m) r h = rw (above_zero (suc m) r (omega arith)) refl

zero_or : (z : ℤ) → pos 0 ≤ℤ z → (z ≡ pos 0) ⊎ (pos 0 <ℤ z)
zero_or (pos zero) h = inl refl
zero_or (pos (suc n)) h = inr (omega (arith, ints))
zero_or (negsuc n) h = absurd (omega (arith, ints))

or_value_is : (o : Option Val) (bytes rest : List ℕ) (x : Val × List ℕ) → or_value o bytes rest ≡ Ok x → (o ≡ Some x.0) × (rest ≡ x.1)
or_value_is None bytes rest x e = err_not_ok _ x e
or_value_is (Some v) bytes rest x e = let made_is = ok_is (v, rest) x e in (ap (λ (p : Val × List ℕ). Some p.0) made_is, ap (λ (p : Val × List ℕ). p.1) made_is)

-- the bytes of the four numbers are those of the value
same_bytes : (v : Val) (lo hi m r : ℕ) → lo < 2 ^ 32 → hi < 2 ^ 32 → r < 2 ^ 32 → HasParts v (signed_value lo) (signed_value hi) (pos m) (residue_of m r) → value_bytes v ≡ word_bytes lo ++ (word_bytes hi ++ (word_bytes m ++ word_bytes r))
unfolding value_bytes
same_bytes v lo hi m r a b c p =
    rw (p.lo, p.hi, p.modulus, p.residue, of_z-to_z w32 lo a, of_z-to_z w32 hi b, residue_word m r c) refl

pub value_takes : (bytes : List ℕ) (x : Val × List ℕ) → IsBytes bytes → value_at bytes ≡ Ok x → Takes bytes (value_bytes x.0) x.1
unfolding value_at parts_at value_of
value_takes bytes x fits e =
    let g = spared (nat_lt (length bytes) VALUE) _ (parts_at bytes) x e in
    let l = bind_ok (number_at w32 bytes) (λ l. number_at w32 l.1 >>= λ h. number_at w32 h.1 >>= λ m. number_at w32 m.1 >>= λ r. or_value (value_of (signed_value l.0) (signed_value h.0) m.0 r.0) bytes r.1) x g.1 in
    let h = bind_ok (number_at w32 l.0.1) (λ h. number_at w32 h.1 >>= λ m. number_at w32 m.1 >>= λ r. or_value (value_of (signed_value l.0.0) (signed_value h.0) m.0 r.0) bytes r.1) x l.2 in
    let m = bind_ok (number_at w32 h.0.1) (λ m. number_at w32 m.1 >>= λ r. or_value (value_of (signed_value l.0.0) (signed_value h.0.0) m.0 r.0) bytes r.1) x h.2 in
    let r = bind_ok (number_at w32 m.0.1) (λ r. or_value (value_of (signed_value l.0.0) (signed_value h.0.0) m.0.0 r.0) bytes r.1) x m.2 in
    let o = or_value_is (value_of (signed_value l.0.0) (signed_value h.0.0) m.0.0 r.0.0) bytes r.0.1 x r.2 in
    let p = if_has (signed_value l.0.0) (signed_value h.0.0) (pos m.0.0) (residue_of m.0.0 r.0.0) (is_value (signed_value l.0.0) (signed_value h.0.0) m.0.0 r.0.0) (value_is (signed_value l.0.0) (signed_value h.0.0) m.0.0 r.0.0) x.0 o.0 in
    let t0 = word_takes bytes l.0 fits l.1 in
    let t1 = word_takes l.0.1 h.0 t0.0.rest_fits h.1 in
    let t2 = word_takes h.0.1 m.0 t1.0.rest_fits m.1 in
    let t3 = word_takes m.0.1 r.0 t2.0.rest_fits r.1 in
    let e23 = Takes-then h.0.1 (word_bytes m.0.0) m.0.1 (word_bytes r.0.0) r.0.1 t2.0 t3.0 in
    let e13 = Takes-then l.0.1 (word_bytes h.0.0) h.0.1 (word_bytes m.0.0 ++ word_bytes r.0.0) r.0.1 t1.0 e23 in
    let e03 = Takes-then bytes (word_bytes l.0.0) l.0.1 (word_bytes h.0.0 ++ (word_bytes m.0.0 ++ word_bytes r.0.0)) r.0.1 t0.0 e13 in
    let whole : Takes bytes (value_bytes x.0) r.0.1 = subst (λ (t : List ℕ). Takes bytes t r.0.1) (sym (same_bytes x.0 l.0.0 h.0.0 m.0.0 r.0.0 t0.1 t1.1 t3.1 p)) e03 in
    subst (λ (s : List ℕ). Takes bytes (value_bytes x.0) s) o.1 whole

-- ---- the way back

pub record IsShort (z : ℤ) : Type 0 where
  pub back : signed_value (cast_unsigned w32 z) ≡ z
  pub fits : cast_unsigned w32 z < 2 ^ 32

short_from : (z : ℤ) → IsSigned z → IsShort z
short_from (pos n) h = let l = h.low in let u = h.high in record { back = to_z-of_z w32 (pos n) (record { sfits = omega (arith, ints) }); fits = omega (arith, ints) }
short_from (negsuc n) h = let l = h.low in let u = h.high in record { back = to_z-of_z w32 (negsuc n) (record { sfits = omega (arith, ints) }); fits = omega (arith, ints) }

-- what the four words of a value are
pub record AreWords (v : Val) (m r : ℕ) : Type 0 where
  pub modulus : v.pair.right.modulus ≡ pos m
  pub residue : v.pair.right.residue ≡ residue_of m r
  pub same_modulus : cast_unsigned w32 v.pair.right.modulus ≡ m
  pub same_residue : cast_unsigned w32 v.pair.right.residue ≡ r
  pub m_fits : m < 2 ^ 32
  pub r_fits : r < 2 ^ 32
  pub normal : is_value v.pair.left.lo v.pair.left.hi m r ≡ true

ends_signed : (v : Val) → IsSigned v.pair.left.lo × IsSigned v.pair.left.hi
ends_signed v = let e = v.pair.left.ends in let a = e.low in let b = e.ordered in let c = e.high in (record { low = omega (arith, ints); high = omega (arith, ints) }, record { low = omega (arith, ints); high = omega (arith, ints) })

value_test : (v : Val) (m r : ℕ) → (is_single v.pair.left.lo v.pair.left.hi m r || is_several v.pair.left.lo v.pair.left.hi m r) ≡ true → is_value v.pair.left.lo v.pair.left.hi m r ≡ true
value_test v m r h =
    let s = ends_signed v in
    and_from (is_signed v.pair.left.lo) (is_signed v.pair.left.hi && (is_single v.pair.left.lo v.pair.left.hi m r || is_several v.pair.left.lo v.pair.left.hi m r)) (true_is_signed v.pair.left.lo s.0)
    (and_from (is_signed v.pair.left.hi) (is_single v.pair.left.lo v.pair.left.hi m r || is_several v.pair.left.lo v.pair.left.hi m r) (true_is_signed v.pair.left.hi s.1) h)

single_words : (v : Val) → v.pair.left.lo ≡ v.pair.left.hi → AreWords v 0 (cast_unsigned w32 v.pair.left.lo)
single_words v e =
    let z = v.normal.single e in
    let same = (residue_is v e).1 in
    let s = short_from v.pair.left.lo (ends_signed v).0 in
    let r = cast_unsigned w32 v.pair.left.lo in
    let single : is_single v.pair.left.lo v.pair.left.hi 0 r ≡ true = and_from (int_eq v.pair.left.lo v.pair.left.hi) (int_eq (signed_value r) v.pair.left.lo) ((Decides-int_eq v.pair.left.lo v.pair.left.hi).1 e) ((Decides-int_eq (signed_value r) v.pair.left.lo).1 s.back) in
    record {
      modulus = z;
      residue = sym same ∙ sym s.back;
      same_modulus = ap (cast_unsigned w32) z;
      same_residue = ap (cast_unsigned w32) (sym same);
      m_fits = omega arith;
      r_fits = s.fits;
      normal = value_test v 0 r (rw single refl);
    }

true_lt : (x y : ℤ) → x <ℤ y → int_lt x y ≡ true
true_lt x y h = grind (arith, ints)

or_true : (a b : Bool) → b ≡ true → (a || b) ≡ true
or_true true b h = refl
or_true false b h = h

-- a congruence with two members has a modulus, and a residue below it
several_words : (v : Val) → v.pair.left.lo <ℤ v.pair.left.hi → AreWords v (nat_abs v.pair.right.modulus) (nat_abs v.pair.right.residue)
several_words v l =
    let c = v.pair.right in
    let f = c.form in
    let low = has_parts c v.pair.left.lo v.normal.low_member in
    let high = has_parts c v.pair.left.hi v.normal.high_member in
    let some : pos 0 <ℤ c.modulus = not_single v l f.not_negative in
    let red = f.reduced some in
    let red0 = red.0 in let red1 = red.1 in let fit = f.fits in
    let m = nat_abs c.modulus in
    let r = nat_abs c.residue in
    let m_is : c.modulus ≡ pos m = omega (arith, ints) in
    let r_is : c.residue ≡ pos r = omega (arith, ints) in
    let less : r < m = omega (arith, ints) in
    let d0 : Divides m (v.pair.left.lo -ℤ pos r) = subst (λ (z : ℤ). Divides m (v.pair.left.lo -ℤ z)) r_is low.1 in
    let d1 : Divides m (v.pair.left.hi -ℤ pos r) = subst (λ (z : ℤ). Divides m (v.pair.left.hi -ℤ z)) r_is high.1 in
    let several : is_several v.pair.left.lo v.pair.left.hi m r ≡ true = and_from (int_lt v.pair.left.lo v.pair.left.hi) _ (true_lt v.pair.left.lo v.pair.left.hi l)
    (and_from (nat_lt r m) _ (lt-ltb r m less) (and_from (divides m (nat_abs (v.pair.left.lo -ℤ pos r))) (divides m (nat_abs (v.pair.left.hi -ℤ pos r))) (true_divides m (nat_abs (v.pair.left.lo -ℤ pos r)) d0.holds) (true_divides m (nat_abs (v.pair.left.hi -ℤ pos r)) d1.holds))) in
    record {
      modulus = m_is;
      residue = r_is ∙ sym (above_zero m r (omega arith));
      same_modulus = ap (cast_unsigned w32) m_is;
      same_residue = ap (cast_unsigned w32) r_is;
      m_fits = omega (arith, ints);
      r_fits = omega (arith, ints);
      normal = value_test v m r (or_true (is_single v.pair.left.lo v.pair.left.hi m r) (is_several v.pair.left.lo v.pair.left.hi m r) several);
    }
  where
    not_single : (v : Val) → v.pair.left.lo <ℤ v.pair.left.hi → pos 0 ≤ℤ v.pair.right.modulus → pos 0 <ℤ v.pair.right.modulus
    not_single v l n =
        ⊎_elim (λ (e : v.pair.right.modulus ≡ pos 0).
        let z : mod_of v.pair.right ≡ 0 = omega (arith, ints) in
        let low = only_member (mod_of v.pair.right) v.pair.left.lo v.pair.right.residue (has_parts v.pair.right v.pair.left.lo v.normal.low_member).1 z in
        let high = only_member (mod_of v.pair.right) v.pair.left.hi v.pair.right.residue (has_parts v.pair.right v.pair.left.hi v.normal.high_member).1 z in
        absurd (omega (arith, ints)))
        (λ (p : pos 0 <ℤ v.pair.right.modulus). p) (zero_or v.pair.right.modulus n)

sixteen : (a b m r : ℕ) (rest : List ℕ) → ltb (length (word_bytes a ++ (word_bytes b ++ (word_bytes m ++ (word_bytes r ++ rest))))) VALUE ≡ false
unfolding word_bytes
sixteen a b m r rest = le-ltb (length (word_bytes a ++ (word_bytes b ++ (word_bytes m ++ (word_bytes r ++ rest))))) VALUE (omega arith)

words_again : (v : Val) (m r : ℕ) (rest : List ℕ) → AreWords v m r → value_at (value_bytes v ++ rest) ≡ Ok (v, rest)
unfolding value_at parts_at value_of value_bytes
words_again v m r rest w =
    let s = ends_signed v in
    let lo = short_from v.pair.left.lo s.0 in
    let hi = short_from v.pair.left.hi s.1 in
    let a = cast_unsigned w32 v.pair.left.lo in
    let b = cast_unsigned w32 v.pair.left.hi in
    let found : value_of (signed_value a) (signed_value b) m r ≡ Some v =
    if_is (signed_value a) (signed_value b) (pos m) (residue_of m r) (is_value (signed_value a) (signed_value b) m r) (value_is (signed_value a) (signed_value b) m r) v
    (rw (lo.back, hi.back) w.normal)
    (record { lo = sym lo.back; hi = sym hi.back; modulus = w.modulus; residue = w.residue }) in
    let regrouped : value_bytes v ++ rest ≡ word_bytes a ++ (word_bytes b ++ (word_bytes m ++ (word_bytes r ++ rest))) = rw (w.same_modulus, w.same_residue) (regroup (word_bytes a) (word_bytes b) (word_bytes m) (word_bytes r) rest) in
    let tail = word_bytes b ++ (word_bytes m ++ (word_bytes r ++ rest)) in
    let long : ltb (length (word_bytes a ++ tail)) VALUE ≡ false = sixteen a b m r rest in
    ap value_at regrouped ∙ rw (long, word_again a (word_bytes b ++ (word_bytes m ++ (word_bytes r ++ rest))) lo.fits, word_again b (word_bytes m ++ (word_bytes r ++ rest)) hi.fits, word_again m (word_bytes r ++ rest) w.m_fits, word_again r rest w.r_fits, found) refl
  where
    regroup : (a b c d e : List ℕ) → (a ++ (b ++ (c ++ d))) ++ e ≡ a ++ (b ++ (c ++ (d ++ e)))
    regroup a b c d e = simp append_assoc

pub value_again : (v : Val) (rest : List ℕ) → value_at (value_bytes v ++ rest) ≡ Ok (v, rest)
value_again v rest =
    ⊎_elim (λ (e : v.pair.left.lo ≡ v.pair.left.hi). words_again v 0 (cast_unsigned w32 v.pair.left.lo) rest (single_words v e))
    (λ (l : v.pair.left.lo <ℤ v.pair.left.hi). words_again v (nat_abs v.pair.right.modulus) (nat_abs v.pair.right.residue) rest (several_words v l))
    (apart v.pair.left.lo v.pair.left.hi v.pair.left.ends.ordered)
  where
    apart : (x y : ℤ) → x ≤ℤ y → (x ≡ y) ⊎ (x <ℤ y)
    apart x y h = ⊎_elim (λ (t : int_le y x ≡ true). let l = le_true y x t in inl (omega (arith, ints))) (λ (t : int_le y x ≡ false). inr (le_false y x t)) (cases_Bool (int_le y x))

abbrev pub IsAny : Val → Type 0
IsAny v = Unit {0}
