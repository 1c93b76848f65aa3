-- The first common member, as the code finds it.
use Rattle.std.specs.Prelude.{◌≡◌, ℕ, ◌+◌, ◌-◌, ◌*◌, ◌/◌, ◌%◌, ◌<◌, ◌≤◌, ℤ, pos, ◌+ℤ◌, ◌-ℤ◌, ◌≤ℤ◌, ◌<ℤ◌, negsuc, neg_ℤ, nat_abs, Option, Some, None, IsSomeAnd, IfSome}
use Rattle.std.specs.Int.{w64, cast_signed, cast_unsigned, int_rem_euclid}
use Rattle.std.proofs.Math.Path.{ap₂}
use Rattle.std.specs.Int.RustNames.{FitsSigned}
use Rattle.std.proofs.Common.{refl, sym, ap, subst, arith, ◌∙◌}
use Rattle.std.proofs.Math.Nat.{div-add-mod, dvd-mul_right, mul-div_cancel'}
use Rattle.std.proofs.lemmas.Nat.{mod_below}
use Rattle.std.proofs.lemmas.Int.{ints}
use Rattle.viper_word.specs.Words.{least_signed, greatest_signed, IsSigned}
use Rattle.num_domain.specs.Domain.{Has}
use Rattle.viper_word.specs.Options.{bind}
use Rattle.congruence_dom.specs.Limits.{row_limit}
use Rattle.viper_word.specs.Divisors.{Divides}
use Rattle.viper_word.proofs.Multiples.{Divides-sum, Divides-difference, Divides_is, small_multiple, rem_divides, rem_bounds}
use Rattle.congruence_dom.specs.Residues.{mod_of}
use Rattle.congruence_dom.specs.Congruences.{least_from, next_common, through, refine_eq, congruences}
use Rattle.congruence_dom.specs.evidence.CongruenceOrder.{has_parts, parts_has, least_is, least_first, only_member}
use Rattle.congruence_dom.specs.evidence.CommonMembers.{AreCommon, IsNextCommon, next_common_is}
use Rattle.congruence_dom.specs.evidence.Solutions.{IsSolution, spread_at, product_sum}
use Rattle.congruence_dom.specs.declared.congruence.Congruence.{Congruence}

-- ---- what the least member from n on says

least_some : (a : Congruence) (n k : ℤ) → Some k ≡ least_from a n → Has congruences a k × (n ≤ℤ k)
least_some a n k e = subst (λ (o : Option ℤ). IfSome o (λ k. Has congruences a k × (n ≤ℤ k))) (sym e) (least_is a n)

least_at : (a : Congruence) (n k x : ℤ) → Some k ≡ least_from a n → Has congruences a x → n ≤ℤ x → k ≤ℤ x
least_at a n k x e h l = subst (λ (o : Option ℤ). IsSomeAnd o (λ k. k ≤ℤ x)) (sym e) (least_first a n x h l)

least_none : (a : Congruence) (n x : ℤ) → None ≡ least_from a n → Has congruences a x → n ≤ℤ x → ⊥
least_none a n x e h l = subst (λ (o : Option ℤ). IsSomeAnd o (λ k. k ≤ℤ x)) (sym e) (least_first a n x h l)

-- ---- where one of them has one member

pub one_none : (a b : Congruence) (n : ℤ) → None ≡ least_from a n → IsNextCommon a b n None
one_none a b n e = record { is = tt; first = λ x c l. absurd (least_none a n x e c.left l) }

only_one : (a : Congruence) (x y : ℤ) → mod_of a ≡ 0 → Has congruences a x → Has congruences a y → x ≡ y
only_one a x y z h k = only_member (mod_of a) x a.residue (has_parts a x h).1 z ∙ sym (only_member (mod_of a) y a.residue (has_parts a y k).1 z)

pub one_missed : (a b : Congruence) (n k m : ℤ) → mod_of a ≡ 0 → Some k ≡ least_from a n → m ≡ k → None ≡ least_from b m → IsNextCommon a b n None
one_missed a b n k m z e s f =
    record { is = tt; first = λ x c l. let same = only_one a x k z c.left (least_some a n k e).0 in absurd (least_none b m x f c.right (omega (arith, ints))) }

pub one_found : (a b : Congruence) (n k m r : ℤ) → mod_of a ≡ 0 → Some k ≡ least_from a n → m ≡ k → Some r ≡ least_from b m → r ≡ k → IsNextCommon a b n (Some k)
one_found a b n k m r z e s f g =
    let p = least_some a n k e in
    record {
      is = (record { left = p.0; right = subst (λ (y : ℤ). Has congruences b y) g (least_some b m r f).0 }, p.1);
      first = λ x c l. least_at a n k x e c.left l;
    }

pub one_apart : (a b : Congruence) (n k m r : ℤ) → mod_of a ≡ 0 → Some k ≡ least_from a n → m ≡ k → Some r ≡ least_from b m → (r ≡ k → ⊥) → IsNextCommon a b n None
one_apart a b n k m r z e s f g =
    let q = (least_some b m r f).1 in
    record { is = tt; first = λ x c l. let same = only_one a x k z c.left (least_some a n k e).0 in let u = least_at b m r x f c.right (omega (arith, ints)) in absurd (g (omega (arith, ints))) }

pub next_swapped : (a b : Congruence) (n : ℤ) (o : Option ℤ) → IsNextCommon b a n o → IsNextCommon a b n o
next_swapped a b n None h = record { is = tt; first = λ x c l. h.first x (record { left = c.right; right = c.left }) l }
next_swapped a b n (Some k) h = record { is = (record { left = h.is.0.right; right = h.is.0.left }, h.is.1); first = λ x c l. h.first x (record { left = c.right; right = c.left }) l }

-- ---- where both have many

-- the distance from a member of a to the residue of b
pub record IsGap (b : Congruence) (from : ℤ) (gap : ℕ) : Type 0 where
  pub small : gap < mod_of b
  pub divides : Divides (mod_of b) (b.residue -ℤ from -ℤ pos gap)

pub gap_is : (b : Congruence) (from z : ℤ) (gap : ℕ) → 0 < mod_of b → z ≡ b.residue -ℤ from → pos gap ≡ int_rem_euclid z (pos (mod_of b)) → IsGap b from gap
gap_is b from z gap h e f =
    let p = rem_bounds z (mod_of b) h in
    let p1 = p.1 in
    record { small = omega (arith, ints); divides = Divides_is (mod_of b) (z -ℤ int_rem_euclid z (pos (mod_of b))) (b.residue -ℤ from -ℤ pos gap) (rem_divides z (mod_of b) h) (omega (arith, ints)) }

solution_in : (m n gap k : ℕ) → IsSolution (m % n) gap n k → Divides n (pos (m * k) -ℤ pos gap)
solution_in m n gap k s =
    let e = s.holds in
    let i = spread_at m n k in
    let j = product_sum n ((m / n) * k + s.steps) ((m / n) * k) s.steps refl in
    let f : nat_abs (pos (m * k) -ℤ pos gap) ≡ n * ((m / n) * k + s.steps) = omega (arith, ints) in
    record { holds = rw f (dvd-mul_right n ((m / n) * k + s.steps)) }

in_solution : (m n gap k : ℕ) → gap < n → Divides n (pos (m * k) -ℤ pos gap) → IsSolution (m % n) gap n k
in_solution m n gap k l d =
    let i = spread_at m n k in
    let x = (m % n) * k in
    let q = div-add-mod ((m % n) * k) n in
    let b = mod_below ((m % n) * k) n (omega arith) in
    let j = product_sum n ((m / n) * k + ((m % n) * k) / n) ((m / n) * k) (((m % n) * k) / n) refl in
    let whole : Divides n (pos (n * ((m / n) * k + ((m % n) * k) / n))) = record { holds = dvd-mul_right n ((m / n) * k + ((m % n) * k) / n) } in
    let rest : Divides n (pos (((m % n) * k) % n) -ℤ pos gap) = Divides-difference n (pos (m * k) -ℤ pos gap) (pos (n * ((m / n) * k + ((m % n) * k) / n))) (pos (((m % n) * k) % n) -ℤ pos gap) d whole (omega (arith, ints)) in
    let z = small_multiple n (pos (((m % n) * k) % n) -ℤ pos gap) rest (omega (arith, ints)) in
    record { steps = ((m % n) * k) / n; holds = omega (arith, ints) }

-- a common member is so many steps away
pub record IsAway (a b : Congruence) (from : ℤ) (gap : ℕ) (x : ℤ) : Type 0 where
  pub steps : ℕ
  pub at : x ≡ from +ℤ pos (mod_of a * steps)
  pub solution : IsSolution (mod_of a % mod_of b) gap (mod_of b) steps

away : (a b : Congruence) (from : ℤ) (gap : ℕ) (x : ℤ) → IsGap b from gap → Has congruences a from → AreCommon a b x → from ≤ℤ x → IsAway a b from gap x
away a b from gap x g h c l =
    let m = mod_of a in
    let d : Divides (mod_of a) (x -ℤ from) = Divides-difference (mod_of a) (x -ℤ a.residue) (from -ℤ a.residue) (x -ℤ from) (has_parts a x c.left).1 (has_parts a from h).1 (omega (arith, ints)) in
    let k = nat_abs (x -ℤ from) / mod_of a in
    let e : mod_of a * (nat_abs (x -ℤ from) / mod_of a) ≡ nat_abs (x -ℤ from) = mul-div_cancel' (mod_of a) d.holds in
    let at : x ≡ from +ℤ pos (mod_of a * (nat_abs (x -ℤ from) / mod_of a)) = omega (arith, ints) in
    record {
      steps = nat_abs (x -ℤ from) / mod_of a;
      at = at;
      solution = in_solution (mod_of a) (mod_of b) gap (nat_abs (x -ℤ from) / mod_of a) g.small
          (Divides-sum (mod_of b) (x -ℤ b.residue) (b.residue -ℤ from -ℤ pos gap) (pos (mod_of a * (nat_abs (x -ℤ from) / mod_of a)) -ℤ pos gap) (has_parts b x c.right).1 g.divides (omega (arith, ints)));
    }

common_at : (a b : Congruence) (from : ℤ) (gap k : ℕ) → IsGap b from gap → Has congruences a from → IsSolution (mod_of a % mod_of b) gap (mod_of b) k → (from +ℤ pos (mod_of a * k)) ≤ℤ greatest_signed → AreCommon a b (from +ℤ pos (mod_of a * k))
common_at a b from gap k g h s l =
    let w = (has_parts a from h).0 in
    let low = w.low in
    let x = from +ℤ pos (mod_of a * k) in
    let v : IsSigned (from +ℤ pos (mod_of a * k)) = record { low = omega (arith, ints); high = l } in
    let steps : Divides (mod_of a) (pos (mod_of a * k)) = record { holds = dvd-mul_right (mod_of a) k } in
    record {
      left = parts_has a (from +ℤ pos (mod_of a * k)) v (Divides-sum (mod_of a) (from -ℤ a.residue) (pos (mod_of a * k)) (from +ℤ pos (mod_of a * k) -ℤ a.residue) (has_parts a from h).1 steps (omega (arith, ints)));
      right = parts_has b (from +ℤ pos (mod_of a * k)) v (Divides-difference (mod_of b) (pos (mod_of a * k) -ℤ pos gap) (b.residue -ℤ from -ℤ pos gap) (from +ℤ pos (mod_of a * k) -ℤ b.residue) (solution_in (mod_of a) (mod_of b) gap k s) g.divides (omega (arith, ints)));
    }

pub many_unsolved : (a b : Congruence) (n from : ℤ) (gap : ℕ) → Some from ≡ least_from a n → IsGap b from gap → ((k : ℕ) → IsSolution (mod_of a % mod_of b) gap (mod_of b) k → ⊥) → IsNextCommon a b n None
many_unsolved a b n from gap e g f =
    record { is = tt; first = λ x c l. let w = away a b from gap x g (least_some a n from e).0 c (least_at a n from x e c.left l) in absurd (f w.steps w.solution) }

farther : (m j k : ℕ) → j ≤ k → m * j ≤ m * k
farther m j k h = let e = product_sum m k j (k - j) (omega arith) in omega arith

pub many_found : (a b : Congruence) (n from : ℤ) (gap k : ℕ) → Some from ≡ least_from a n → IsGap b from gap → IsSolution (mod_of a % mod_of b) gap (mod_of b) k → ((j : ℕ) → IsSolution (mod_of a % mod_of b) gap (mod_of b) j → k ≤ j) → (r : ℤ) → r ≡ from +ℤ pos (mod_of a * k) → r ≤ℤ greatest_signed → IsNextCommon a b n (Some r)
many_found a b n from gap k e g s f r q u =
    let p = least_some a n from e in
    let p1 = p.1 in
    let common = common_at a b from gap k g p.0 s (omega (arith, ints)) in
    record {
      is = (subst (λ (y : ℤ). AreCommon a b y) (sym q) common, omega (arith, ints));
      first = λ x c l. let w = away a b from gap x g p.0 c (least_at a n from x e c.left l) in let at = w.at in let o = farther (mod_of a) k w.steps (f w.steps w.solution) in omega (arith, ints);
    }

pub many_beyond : (a b : Congruence) (n from : ℤ) (gap k : ℕ) → Some from ≡ least_from a n → IsGap b from gap → ((j : ℕ) → IsSolution (mod_of a % mod_of b) gap (mod_of b) j → k ≤ j) → greatest_signed <ℤ (from +ℤ pos (mod_of a * k)) → IsNextCommon a b n None
many_beyond a b n from gap k e g f u =
    let p = least_some a n from e in
    record {
      is = tt;
      first = λ x c l. let w = away a b from gap x g p.0 c (least_at a n from x e c.left l) in let at = w.at in let v = (has_parts a x c.left).0.high in let o = farther (mod_of a) k w.steps (f w.steps w.solution) in absurd (omega (arith, ints));
    }

-- ---- the congruence of the first two

pub first_signed : (a b : Congruence) (n k : ℤ) → IsNextCommon a b n (Some k) → IsSigned k
first_signed a b n k h = (has_parts a k h.is.0.left).0

pub no_first : (a b : Congruence) → IsNextCommon a b least_signed None → None ≡ refine_eq a b
unfolding refine_eq
no_first a b h =
    let e = next_common_is a b least_signed None (omega (arith, ints)) h in
    subst (λ (o : Option ℤ). None ≡ bind o (λ i. through i (next_common a b (i +ℤ pos 1)))) e refl

pub first_and : (a b : Congruence) (i n : ℤ) (q : Option ℤ) → IsNextCommon a b least_signed (Some i) → n ≡ i +ℤ pos 1 → IsNextCommon a b n q → through i q ≡ refine_eq a b
unfolding refine_eq
first_and a b i n q h s k =
    let w = (first_signed a b least_signed i h).low in
    let e = next_common_is a b least_signed (Some i) (omega (arith, ints)) h in
    let f = next_common_is a b (i +ℤ pos 1) q (omega (arith, ints)) (subst (λ (z : ℤ). IsNextCommon a b z q) s k) in
    subst (λ (o : Option ℤ). through i q ≡ bind o (λ i. through i (next_common a b (i +ℤ pos 1)))) e (ap (through i) f)

-- ---- numbers of the code

pub fits_small : (z : ℤ) → neg_ℤ (pos row_limit) ≤ℤ z → z ≤ℤ pos row_limit → FitsSigned w64 z
fits_small (pos n) l h = record { sfits = omega (arith, ints) }
fits_small (negsuc n) l h = record { sfits = omega (arith, ints) }

pub solved : (a b : Congruence) (m n gap k : ℕ) → m ≡ mod_of a → n ≡ mod_of b → IsSolution (m % n) gap n k → IsSolution (mod_of a % mod_of b) gap (mod_of b) k
solved a b m n gap k e f s = subst (λ (x : ℕ). IsSolution (x % mod_of b) gap (mod_of b) k) e (subst (λ (y : ℕ). IsSolution (m % y) gap y k) f s)

pub unsolved : (a b : Congruence) (m n gap k : ℕ) → m ≡ mod_of a → n ≡ mod_of b → IsSolution (mod_of a % mod_of b) gap (mod_of b) k → IsSolution (m % n) gap n k
unsolved a b m n gap k e f s = subst (λ (y : ℕ). IsSolution (m % y) gap y k) (sym f) (subst (λ (x : ℕ). IsSolution (x % mod_of b) gap (mod_of b) k) (sym e) s)

pub gap_code : (b : Congruence) (from r : ℤ) (size : ℕ) → IsSigned from → 0 < mod_of b → size ≡ mod_of b → r ≡ int_rem_euclid (cast_signed w64 (cast_unsigned w64 (cast_signed w64 (cast_unsigned w64 b.residue) -ℤ cast_signed w64 (cast_unsigned w64 from)))) (cast_signed w64 size) → IsGap b from (nat_abs (cast_signed w64 (cast_unsigned w64 r)))
gap_code b from r size w h d v =
    let l = w.low in
    let u = w.high in
    let f = b.form in
    let z : cast_signed w64 (cast_unsigned w64 (cast_signed w64 (cast_unsigned w64 b.residue) -ℤ cast_signed w64 (cast_unsigned w64 from))) ≡ b.residue -ℤ from = omega (arith, ints) in
    let m : cast_signed w64 size ≡ pos (mod_of b) = omega (arith, ints) in
    let e = v ∙ ap₂ int_rem_euclid z m in
    let p = rem_bounds (b.residue -ℤ from) (mod_of b) h in
    let p0 = p.0 in
    let p1 = p.1 in
    gap_is b from (b.residue -ℤ from) (nat_abs (cast_signed w64 (cast_unsigned w64 r))) h refl (omega (arith, ints))
