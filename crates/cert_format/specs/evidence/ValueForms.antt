-- Four numbers that are a value in normal form.
use Rattle.std.specs.Prelude.{◌≡◌, ℕ, ◌-◌, ◌^◌, ◌<◌, ◌≤◌, ℤ, pos, ◌-ℤ◌, ◌<ℤ◌, nat_abs, int_lt, nat_lt, ◌==◌, Bool, true, ◌&&◌, ◌||◌, if◌then◌else◌}
use Rattle.std.specs.Ordering.{int_eq}
use Rattle.std.proofs.Common.{refl, arith, subst, ⊎_elim}
use Rattle.std.proofs.Math.Nat.{le_of_dvd}
use Rattle.std.proofs.lemmas.Int.{ints}
use Rattle.std.proofs.lemmas.Bool.{and_parts, or_cases, ltb-true, eqb-true}
use Rattle.std.proofs.lemmas.Bool.Decides.{Decides-int_eq}
use Rattle.viper_word.specs.Words.{IsSigned, is_signed, signed_value}
use Rattle.viper_word.specs.Divisors.{Divides, divides}
use Rattle.viper_word.proofs.Integers.{is_signed_true}
use Rattle.viper_word.proofs.Multiples.{divides_true, Divides-zero, Divides_is, Divides-difference}
use Rattle.num_domain.specs.Pairs.{pair}
use Rattle.interval_dom.specs.Bounds.{AreEnds}
use Rattle.congruence_dom.specs.Form.{IsForm}
use Rattle.congruence_dom.specs.evidence.Forms.{single_form}
use Rattle.congruence_dom.specs.evidence.CongruenceOrder.{parts_has}
use Rattle.val_dom.specs.Normal.{P, IsNormal}

-- the interval of both ends with the congruence of modulus and residue
abbrev pub made : (lo hi m r : ℤ) → AreEnds lo hi → IsForm m r → P
made lo hi m r e f = pair (record { lo = lo; hi = hi; ends = e }) (record { modulus = m; residue = r; form = f })

pub record IsValue (lo hi m r : ℤ) : Type 0 where
  pub ends : AreEnds lo hi
  pub form : IsForm m r
  pub normal : IsNormal (made lo hi m r ends form)

-- one number: the modulus is 0, and the residue its word
abbrev pub is_single : ℤ → ℤ → ℕ → ℕ → Bool
is_single lo hi m r = int_eq lo hi && ((m == 0) && int_eq (signed_value r) lo)

-- several: both ends have the residue, which is below the modulus
abbrev pub is_several : ℤ → ℤ → ℕ → ℕ → Bool
is_several lo hi m r = int_lt lo hi && (nat_lt r m
    && (divides m (nat_abs (lo -ℤ pos r)) && divides m (nat_abs (hi -ℤ pos r))))

-- the ends stand for words
abbrev pub is_value : ℤ → ℤ → ℕ → ℕ → Bool
is_value lo hi m r = is_signed lo && (is_signed hi && (is_single lo hi m r || is_several lo hi m r))

-- a single number's residue is signed
abbrev pub residue_of : ℕ → ℕ → ℤ
residue_of m r = (if m == 0 then signed_value r else pos r)

single_is : (lo hi : ℤ) → IsSigned lo → lo ≡ hi → IsValue lo hi (pos 0) lo
single_is lo hi w e = record {
  ends = record { low = w.low; ordered = omega (arith, ints); high = omega (arith, ints) };
  form = single_form lo w;
  normal = record {
    low_member = parts_has _ lo w (Divides_is 0 (pos 0) (lo -ℤ lo) (Divides-zero 0) (omega (arith, ints)));
    high_member = parts_has _ hi (subst IsSigned e w) (Divides_is 0 (pos 0) (hi -ℤ lo) (Divides-zero 0) (omega (arith, ints)));
    single = λ _. refl;
  };
}

several_is : (lo hi : ℤ) (m r : ℕ) → IsSigned lo → IsSigned hi → lo <ℤ hi → r < m → Divides m (lo -ℤ pos r) → Divides m (hi -ℤ pos r) → IsValue lo hi (pos m) (pos r)
several_is lo hi m r v w l q d f =
    let gap : Divides m (hi -ℤ lo) = Divides-difference m (hi -ℤ pos r) (lo -ℤ pos r) (hi -ℤ lo) f d (omega (arith, ints)) in
    let positive : 0 < nat_abs (hi -ℤ lo) = omega (arith, ints) in
    let low : m ≤ nat_abs (hi -ℤ lo) = le_of_dvd positive gap.holds in
    let a = v.low in let b = w.high in
    let fits : m ≤ 2 ^ 32 - 1 = omega (arith, ints) in
    record {
      ends = record { low = v.low; ordered = omega (arith, ints); high = w.high };
      form = record {
        not_negative = omega (arith, ints);
        fits = omega (arith, ints);
        low = omega (arith, ints);
        high = omega (arith, ints);
        single = λ e. absurd (omega (arith, ints));
        reduced = λ e. (omega (arith, ints), omega (arith, ints));
      };
      normal = record {
        low_member = parts_has _ lo v d;
        high_member = parts_has _ hi w f;
        single = λ e. absurd (omega (arith, ints));
      };
    }

lt_true : (x y : ℤ) → int_lt x y ≡ true → x <ℤ y
lt_true x y h = grind (arith, ints)

pub value_is : (lo hi : ℤ) (m r : ℕ) → is_value lo hi m r ≡ true → IsValue lo hi (pos m) (residue_of m r)
value_is lo hi m r h =
    let p = and_parts (is_signed lo) (is_signed hi && (is_single lo hi m r || is_several lo hi m r)) h in
    let q = and_parts (is_signed hi) (is_single lo hi m r || is_several lo hi m r) p.1 in
    let v = is_signed_true lo p.0 in
    let w = is_signed_true hi q.0 in
    ⊎_elim
    (λ (s : is_single lo hi m r ≡ true).
    let a = and_parts (int_eq lo hi) ((m == 0) && int_eq (signed_value r) lo) s in
    let b = and_parts (m == 0) (int_eq (signed_value r) lo) a.1 in
    let e = (Decides-int_eq lo hi).0 a.0 in
    let z : signed_value r ≡ lo = (Decides-int_eq (signed_value r) lo).0 b.1 in
    let zero_is : m ≡ 0 = eqb-true m 0 b.0 in
    let x : residue_of m r ≡ lo = rw b.0 z in
    rw (x, zero_is) (single_is lo hi v e))
    (λ (s : is_several lo hi m r ≡ true).
    let a = and_parts (int_lt lo hi) (nat_lt r m && (divides m (nat_abs (lo -ℤ pos r)) && divides m (nat_abs (hi -ℤ pos r)))) s in
    let b = and_parts (nat_lt r m) (divides m (nat_abs (lo -ℤ pos r)) && divides m (nat_abs (hi -ℤ pos r))) a.1 in
    let c = and_parts (divides m (nat_abs (lo -ℤ pos r))) (divides m (nat_abs (hi -ℤ pos r))) b.1 in
    let less = ltb-true r m b.0 in
    let x : residue_of m r ≡ pos r = not_zero m r less in
    rw x (several_is lo hi m r v w (lt_true lo hi a.0) less (record { holds = divides_true m (nat_abs (lo -ℤ pos r)) c.0 }) (record { holds = divides_true m (nat_abs (hi -ℤ pos r)) c.1 })))
    (or_cases (is_single lo hi m r) (is_several lo hi m r) q.1)
  where
    not_zero : (m r : ℕ) → r < m → residue_of m r ≡ pos r
    not_zero m r h = grind arith
