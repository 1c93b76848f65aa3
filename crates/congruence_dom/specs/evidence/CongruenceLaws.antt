-- The laws of congruences.
use Rattle.std.specs.Prelude.{◌≡◌, ℕ, ◌*◌, ◌/◌, ◌%◌, ◌<◌, ◌^◌, ℤ, pos, neg_ℤ, ◌+ℤ◌, ◌-ℤ◌, ◌≤ℤ◌, Bool, true, false, cond, nat_abs, nat_eq, Option, Some, None, IsSomeAnd, IfSome}
use Rattle.std.specs.Int.{◌∣◌}
use Rattle.std.proofs.Common.{refl, sym, ap, subst, arith, ◌∙◌}
use Rattle.std.proofs.Math.Nat.{dvd_trans, one-dvd, mod-eq-zero_of_dvd, dvd_of_mod-eq-zero, mul-dvd-mul_left, dvd_of_mul-dvd-mul_left, eq-zero_of_zero-dvd}
use Rattle.std.proofs.lemmas.Int.{ints}
use Rattle.std.proofs.lemmas.Bool.{and_parts, and_from, eqb-true, eq-eqb, cond_both}
use Rattle.viper_word.specs.Words.{IsSigned}
use Rattle.viper_word.specs.Signed.{wrapped, signed_xor, signed_and, signed_nor, signed_and_not, halved, shifted_right, shifted_left, signed_compares}
use Rattle.viper_word.specs.declared.kind.Kind.{Kind}
use Rattle.viper_word.specs.declared.kind.Kind.TheVariants.{Lt, Ge, Eq, Ne, Le, Gt, Ult, Uge}
use Rattle.num_domain.specs.Domain.{Has, Below, BelowOption}
use Rattle.num_domain.specs.Exact.{SingleLaws}
use Rattle.viper_word.specs.Ranges.{OnStep}
use Rattle.num_domain.specs.Laws.{Sound1, Sound2, SoundFlag, Mono1, Mono2, MonoFlag, OrderLaws, SoundLaws, MonoLaws, SpanLaws, DomainLaws}
use Rattle.num_domain.specs.evidence.ExactLaws.{exact2_sound, exact2_mono, exact_flag_sound, exact_flag_mono}
use Rattle.viper_word.proofs.Options.{all_some, some_or_else}
use Rattle.viper_word.proofs.Steps.{on_step_from, step_divides}
use Rattle.viper_word.specs.Divisors.{gcd}
use Rattle.viper_word.proofs.Gcd.{gcd_left, gcd_right, gcd_greatest}
use Rattle.viper_word.specs.Divisors.{Divides, divides}
use Rattle.viper_word.proofs.Multiples.{Divides-sum, Divides-difference, Divides-zero, Divides-neg_is, Divides_is, Divides_trans, divides_true, true_divides}
use Rattle.congruence_dom.specs.evidence.Wraps.{wrapped_divides, Divides-twice, Divides-halved}
use Rattle.congruence_dom.specs.Residues.{mod_of, join_modulus}
use Rattle.congruence_dom.specs.evidence.Forms.{join_divides}
use Rattle.congruence_dom.specs.Congruences.{make, top, single, constant, join, common_modulus, wrapped_modulus, sar, left_through, no_row, no_flag_row, all_on, least_from, greatest_to, refine, congruences}
use Rattle.congruence_dom.specs.evidence.CongruenceOrder.{has_parts, parts_has, below_parts, parts_below, reduced_below, make_has, make_mono, make_zero_below, only_member, least_is, greatest_is, least_first, greatest_first, below_has, below_refl, below_trans, below_antisym, height_falls, narrow_has, narrow_below, narrow_mono, join_least}
use Rattle.congruence_dom.specs.evidence.CommonMembers.{refine_eq_sound, refine_eq_mono, refine_eq_below}
use Rattle.congruence_dom.specs.declared.congruence.Congruence.{Congruence}
use Rattle.viper_word.proofs.Integers.{eq_true}

below_top : (a : Congruence) → Below congruences a top
below_top a = parts_below a top (one-dvd (mod_of a)) (record { holds = one-dvd (nat_abs (a.residue -ℤ pos 0)) })

below_some_top : (o : Option Congruence) → BelowOption congruences o (Some top)
below_some_top None = tt
below_some_top (Some a) = below_top a

top_has : (n : ℤ) → IsSigned n → Has congruences top n
top_has n h = parts_has top n h (record { holds = one-dvd (nat_abs (n -ℤ pos 0)) })

-- ---- single values

single_when : (a : Congruence) (x : ℤ) (b : Bool) → cond b (Some a.residue) None ≡ Some x → (b ≡ true) × (a.residue ≡ x)
single_when a x true e = let f : a.residue ≡ x = cc in (refl, f)
single_when a x false e = cc

pub single_is : (a : Congruence) (x : ℤ) → single a ≡ Some x → (mod_of a ≡ 0) × (a.residue ≡ x)
single_is a x e = let p = single_when a x (nat_eq (mod_of a) 0) e in (eqb-true (mod_of a) 0 p.0, p.1)

pub single_from : (a : Congruence) (x : ℤ) → mod_of a ≡ 0 → a.residue ≡ x → single a ≡ Some x
single_from a x e f = rw (eq-eqb (mod_of a) 0 e) (ap (λ (n : ℤ). Some n) f)

same_zero : (x y : ℤ) → x ≡ y → Divides 0 (x -ℤ y)
same_zero x y e = Divides_is 0 (pos 0) (x -ℤ y) (Divides-zero 0) (omega (arith, ints))

constant_has : (n : ℤ) → IsSigned n → Has congruences (constant n) n
unfolding constant
constant_has n w = some_or_else (λ r. Has congruences r n) (make 0 n) top (make_has 0 n n w (same_zero n n refl))

constant_below : (a : Congruence) (n : ℤ) → Has congruences a n → Below congruences (constant n) a
unfolding constant
constant_below a n h =
    some_or_else (λ r. Below congruences r a) (make 0 n) top
    (both (λ r. Below congruences r a) (λ r. Has congruences r n) (make 0 n) (make_zero_below n (Some a) h) (make_has 0 n n (has_parts a n h).0 (same_zero n n refl)))
  where
    both : (P Q : Congruence → Type 0) (o : Option Congruence) → IfSome o P → IsSomeAnd o Q → IsSomeAnd o P
    both P Q None h k = absurd k
    both P Q (Some x) h k = h

zero_divides : (a a' : Congruence) → Below congruences a a' → mod_of a' ≡ 0 → (mod_of a ≡ 0) × (a.residue ≡ a'.residue)
zero_divides a a' h e =
    let p = below_parts a a' h in
    (only_zero (mod_of a) (subst (λ (m : ℕ). m ∣ mod_of a) e p.modulus), only_member (mod_of a') a.residue a'.residue p.residue e)
  where
    only_zero : (n : ℕ) → 0 ∣ n → n ≡ 0
    only_zero n d = eq-zero_of_zero-dvd d

pub single_laws : SingleLaws congruences single
single_laws = record {
  has = λ a x e. let p = single_is a x e in let p0 = p.0 in let p1 = p.1 in
      parts_has a x (subst IsSigned p.1 (a.form.single (omega (arith, ints)))) (Divides_is (mod_of a) (pos 0) (x -ℤ a.residue) (Divides-zero (mod_of a)) (omega (arith, ints)));
  only = λ a x n e h. let p = single_is a x e in only_member (mod_of a) n a.residue (has_parts a n h).1 p.0 ∙ p.1;
  below = λ a a' x h e. let p = single_is a' x e in let q = zero_divides a a' h p.0 in single_from a x q.0 (q.1 ∙ p.1);
  least = λ a x h. constant_below a x h;
}

-- ---- sums and differences

sum_in : (g : ℕ) (a b : Congruence) (x y : ℤ) → g ∣ mod_of a → g ∣ mod_of b → Divides (mod_of a) (x -ℤ a.residue) → Divides (mod_of b) (y -ℤ b.residue) → Divides g (x +ℤ y -ℤ (a.residue +ℤ b.residue))
sum_in g a b x y h k p q = Divides-sum g (x -ℤ a.residue) (y -ℤ b.residue) (x +ℤ y -ℤ (a.residue +ℤ b.residue)) (Divides_trans g (mod_of a) (x -ℤ a.residue) h p) (Divides_trans g (mod_of b) (y -ℤ b.residue) k q) (omega (arith, ints))

difference_in : (g : ℕ) (a b : Congruence) (x y : ℤ) → g ∣ mod_of a → g ∣ mod_of b → Divides (mod_of a) (x -ℤ a.residue) → Divides (mod_of b) (y -ℤ b.residue) → Divides g (x -ℤ y -ℤ (a.residue -ℤ b.residue))
difference_in g a b x y h k p q = Divides-difference g (x -ℤ a.residue) (y -ℤ b.residue) (x -ℤ y -ℤ (a.residue -ℤ b.residue)) (Divides_trans g (mod_of a) (x -ℤ a.residue) h p) (Divides_trans g (mod_of b) (y -ℤ b.residue) k q) (omega (arith, ints))

common_grows : (a a' b b' : Congruence) → Below congruences a a' → Below congruences b b' → common_modulus a' b' ∣ common_modulus a b
common_grows a a' b b' h k =
    let p = below_parts a a' h in
    let q = below_parts b b' k in
    gcd_greatest (mod_of a) (mod_of b) (common_modulus a' b') (dvd_trans (common_modulus a' b') (gcd_left (mod_of a') (mod_of b')) p.modulus) (dvd_trans (common_modulus a' b') (gcd_right (mod_of a') (mod_of b')) q.modulus)

wrapped_grows : (a a' b b' : Congruence) → Below congruences a a' → Below congruences b b' → wrapped_modulus a' b' ∣ wrapped_modulus a b
wrapped_grows a a' b b' h k =
    gcd_greatest (common_modulus a b) (2 ^ 32) (wrapped_modulus a' b') (dvd_trans (wrapped_modulus a' b') (gcd_left (common_modulus a' b') (2 ^ 32)) (common_grows a a' b b' h k)) (gcd_right (common_modulus a' b') (2 ^ 32))

wrapped_left : (a b : Congruence) → wrapped_modulus a b ∣ mod_of a
wrapped_left a b = dvd_trans (wrapped_modulus a b) (gcd_left (common_modulus a b) (2 ^ 32)) (gcd_left (mod_of a) (mod_of b))

wrapped_right : (a b : Congruence) → wrapped_modulus a b ∣ mod_of b
wrapped_right a b = dvd_trans (wrapped_modulus a b) (gcd_left (common_modulus a b) (2 ^ 32)) (gcd_right (mod_of a) (mod_of b))

-- a wrapped number has the residue of the number
wrapped_in : (g : ℕ) (z s : ℤ) → g ∣ 2 ^ 32 → Divides g (z -ℤ s) → Divides g (wrapped z -ℤ s)
wrapped_in g z s h d = Divides-sum g (wrapped z -ℤ z) (z -ℤ s) (wrapped z -ℤ s) (Divides_trans g (2 ^ 32) (wrapped z -ℤ z) h (wrapped_divides z)) d (omega (arith, ints))

neg_in : (g : ℕ) (a : Congruence) (x : ℤ) → g ∣ mod_of a → Divides (mod_of a) (x -ℤ a.residue) → Divides g (neg_ℤ x -ℤ neg_ℤ a.residue)
neg_in g a x h p = Divides-neg_is g (x -ℤ a.residue) (neg_ℤ x -ℤ neg_ℤ a.residue) (Divides_trans g (mod_of a) (x -ℤ a.residue) h p) (omega (arith, ints))

-- ---- shifts

sar_sound : Sound1 congruences sar halved
unfolding sar
sar_sound a x h w =
    cond_both (nat_eq (mod_of a % 2) 0) (make (mod_of a / 2) (halved a.residue)) (Some top) (λ o. IsSomeAnd o (λ r. Has congruences r (halved x)))
    (λ e. make_has (mod_of a / 2) (halved a.residue) (halved x) w (Divides-halved (mod_of a) x a.residue (eqb-true (mod_of a % 2) 0 e) (has_parts a x h).1))
    (λ e. top_has (halved x) w)

halves_divide : (m n : ℕ) → m % 2 ≡ 0 → n % 2 ≡ 0 → m ∣ n → m / 2 ∣ n / 2
halves_divide m n e f h =
    let me : m ≡ 2 * (m / 2) = omega arith in
    let ne : n ≡ 2 * (n / 2) = omega arith in
    let two : 0 < 2 = omega arith in
    dvd_of_mul-dvd-mul_left (m / 2) {n = n / 2} two (subst (λ (k : ℕ). 2 * (m / 2) ∣ k) ne (subst (λ (k : ℕ). k ∣ n) me h))

sar_mono : Mono1 congruences sar
unfolding sar
sar_mono a a' h =
    let p = below_parts a a' h in
    cond_both (nat_eq (mod_of a' % 2) 0) (make (mod_of a' / 2) (halved a'.residue)) (Some top) (λ o. BelowOption congruences (cond (nat_eq (mod_of a % 2) 0) (make (mod_of a / 2) (halved a.residue)) (Some top)) o)
    (λ e.
    let even' = eqb-true (mod_of a' % 2) 0 e in
    let even : mod_of a % 2 ≡ 0 = mod-eq-zero_of_dvd 2 (dvd_trans 2 (dvd_of_mod-eq-zero 2 even') p.modulus) in
    rw (eq-eqb (mod_of a % 2) 0 even) (make_mono (mod_of a / 2) (mod_of a' / 2) (halved a.residue) (halved a'.residue) (halves_divide (mod_of a') (mod_of a) even' even p.modulus) (Divides-halved (mod_of a') a.residue a'.residue even' p.residue)))
    (λ e. below_some_top (cond (nat_eq (mod_of a % 2) 0) (make (mod_of a / 2) (halved a.residue)) (Some top)))

twice_in : (m : ℕ) (x s : ℤ) → Divides m (x -ℤ s) → Divides (2 * m) (x +ℤ x -ℤ (s +ℤ s))
twice_in m x s d = Divides_is (2 * m) (x -ℤ s +ℤ (x -ℤ s)) (x +ℤ x -ℤ (s +ℤ s)) (Divides-twice m (x -ℤ s) d) (omega (arith, ints))

left_in : (m : ℕ) (x s : ℤ) (c : Bool) → Divides m (x -ℤ s) → Divides (2 * m) (x +ℤ x +ℤ cond c (pos 1) (pos 0) -ℤ (s +ℤ s +ℤ cond c (pos 1) (pos 0)))
left_in m x s c d = Divides_is (2 * m) (x +ℤ x -ℤ (s +ℤ s)) (x +ℤ x +ℤ cond c (pos 1) (pos 0) -ℤ (s +ℤ s +ℤ cond c (pos 1) (pos 0))) (twice_in m x s d) (omega (arith, ints))

left_sound_at : (a : Congruence) (c : Bool) (x : ℤ) → Has congruences a x → IsSigned (shifted_left c x) → IsSomeAnd (left_through a (Some c)) (λ r. Has congruences r (shifted_left c x))
unfolding left_through shifted_left
left_sound_at a c x h w =
    let g = gcd (2 * mod_of a) (2 ^ 32) in
    make_has g (a.residue +ℤ a.residue +ℤ cond c (pos 1) (pos 0)) (wrapped (x +ℤ x +ℤ cond c (pos 1) (pos 0))) w
    (wrapped_in g (x +ℤ x +ℤ cond c (pos 1) (pos 0)) (a.residue +ℤ a.residue +ℤ cond c (pos 1) (pos 0)) (gcd_right (2 * mod_of a) (2 ^ 32))
    (Divides_trans g (2 * mod_of a) (x +ℤ x +ℤ cond c (pos 1) (pos 0) -ℤ (a.residue +ℤ a.residue +ℤ cond c (pos 1) (pos 0))) (gcd_left (2 * mod_of a) (2 ^ 32)) (left_in (mod_of a) x a.residue c (has_parts a x h).1)))

left_sound : SoundFlag congruences left_through shifted_left
unfolding left_through
left_sound a None c x h m w = top_has (shifted_left c x) w
left_sound a (Some b) c x h m w = subst (λ (d : Bool). IsSomeAnd (left_through a (Some d)) (λ r. Has congruences r (shifted_left c x))) (sym m) (left_sound_at a c x h w)

left_mono_at : (a a' : Congruence) (c : Bool) → Below congruences a a' → BelowOption congruences (left_through a (Some c)) (left_through a' (Some c))
unfolding left_through
left_mono_at a a' c h =
    let p = below_parts a a' h in
    let g' = gcd (2 * mod_of a') (2 ^ 32) in
    make_mono (gcd (2 * mod_of a) (2 ^ 32)) g' (a.residue +ℤ a.residue +ℤ cond c (pos 1) (pos 0)) (a'.residue +ℤ a'.residue +ℤ cond c (pos 1) (pos 0))
    (gcd_greatest (2 * mod_of a) (2 ^ 32) g' (dvd_trans g' (gcd_left (2 * mod_of a') (2 ^ 32)) (mul-dvd-mul_left (mod_of a') 2 p.modulus)) (gcd_right (2 * mod_of a') (2 ^ 32)))
    (Divides_trans g' (2 * mod_of a') (a.residue +ℤ a.residue +ℤ cond c (pos 1) (pos 0) -ℤ (a'.residue +ℤ a'.residue +ℤ cond c (pos 1) (pos 0))) (gcd_left (2 * mod_of a') (2 ^ 32)) (left_in (mod_of a') a.residue a'.residue c p.residue))

left_mono : MonoFlag congruences left_through
unfolding left_through
left_mono a a' b None h l = below_some_top (left_through a b)
left_mono a a' None (Some c) h l = absurd l
left_mono a a' (Some b) (Some c) h l = subst (λ (d : Bool). BelowOption congruences (left_through a (Some b)) (left_through a' (Some d))) l (left_mono_at a a' b h)

-- ---- refining

below_self : (a : Congruence) → BelowOption congruences (Some a) (Some a)
below_self a = below_refl a

refine_sound : (a b : Congruence) (k : Kind) (x y : ℤ) → Has congruences a x → Has congruences b y → signed_compares k x y ≡ true → IsSomeAnd (refine a k b) (λ r. Has congruences r x)
unfolding refine
refine_sound a b Eq x y h k e = refine_eq_sound a b x (record { left = h; right = subst (λ (z : ℤ). Has congruences b z) (sym (eq_true x y e)) k })
refine_sound a b Lt x y h k e = h
refine_sound a b Ge x y h k e = h
refine_sound a b Ne x y h k e = h
refine_sound a b Le x y h k e = h
refine_sound a b Gt x y h k e = h
refine_sound a b Ult x y h k e = h
refine_sound a b Uge x y h k e = h

refine_mono : (k : Kind) → Mono2 congruences (λ a b. refine a k b)
unfolding refine
refine_mono Eq a a' b b' h i = refine_eq_mono a a' b b' h i
refine_mono Lt a a' b b' h i = h
refine_mono Ge a a' b b' h i = h
refine_mono Ne a a' b b' h i = h
refine_mono Le a a' b b' h i = h
refine_mono Gt a a' b b' h i = h
refine_mono Ult a a' b b' h i = h
refine_mono Uge a a' b b' h i = h

refine_below : (a b : Congruence) (k : Kind) → BelowOption congruences (refine a k b) (Some a)
unfolding refine
refine_below a b Eq = refine_eq_below a b
refine_below a b Lt = below_refl a
refine_below a b Ge = below_refl a
refine_below a b Ne = below_refl a
refine_below a b Le = below_refl a
refine_below a b Gt = below_refl a
refine_below a b Ult = below_refl a
refine_below a b Uge = below_refl a

-- ---- a modulus and a residue

all_on_parts : (a : Congruence) (q t : ℤ) → all_on a q t ≡ true → (nat_abs q ∣ mod_of a) × Divides (nat_abs q) (a.residue -ℤ t)
unfolding all_on
all_on_parts a q t e =
    let p = and_parts (divides (nat_abs q) (mod_of a)) (divides (nat_abs q) (nat_abs (a.residue -ℤ t))) e in
    (divides_true (nat_abs q) (mod_of a) p.0, record { holds = divides_true (nat_abs q) (nat_abs (a.residue -ℤ t)) p.1 })

all_on_sound : (a : Congruence) (q t n : ℤ) → pos 1 ≤ℤ q → Has congruences a n → all_on a q t ≡ true → OnStep q t n
all_on_sound a q t n l h e =
    let p = all_on_parts a q t e in
    let d : Divides (nat_abs q) (n -ℤ t) = Divides-sum (nat_abs q) (n -ℤ a.residue) (a.residue -ℤ t) (n -ℤ t) (Divides_trans (nat_abs q) (mod_of a) (n -ℤ a.residue) p.0 (has_parts a n h).1) p.1 (omega (arith, ints)) in
    on_step_from q t n n l (true_divides (nat_abs q) (nat_abs (n -ℤ t)) d.holds) refl

all_on_mono : (a a' : Congruence) (q t : ℤ) → Below congruences a a' → all_on a' q t ≡ true → all_on a q t ≡ true
unfolding all_on
all_on_mono a a' q t h e =
    let p = all_on_parts a' q t e in
    let b = below_parts a a' h in
    let d : Divides (nat_abs q) (a.residue -ℤ t) = Divides-sum (nat_abs q) (a.residue -ℤ a'.residue) (a'.residue -ℤ t) (a.residue -ℤ t) (Divides_trans (nat_abs q) (mod_of a') (a.residue -ℤ a'.residue) p.0 b.residue) p.1 (omega (arith, ints)) in
    and_from (divides (nat_abs q) (mod_of a)) (divides (nat_abs q) (nat_abs (a.residue -ℤ t))) (true_divides (nat_abs q) (mod_of a) (dvd_trans (nat_abs q) p.0 b.modulus)) (true_divides (nat_abs q) (nat_abs (a.residue -ℤ t)) d.holds)

-- ---- all together

order_laws : OrderLaws congruences
order_laws = record {
  in_w = λ a n h. (has_parts a n h).0;
  refl = below_refl;
  trans = below_trans;
  antisym = below_antisym;
  has = below_has;
  height_falls = height_falls;
  constant_has = constant_has;
  top_greatest = below_top;
  top_has = top_has;
  join_left = λ a b. let p = join_divides a b in
      parts_below a (join a b) p.0 (reduced_below (join_modulus a b) a.residue a.residue (Divides_is (join_modulus a b) (pos 0) (a.residue -ℤ a.residue) (Divides-zero (join_modulus a b)) (omega (arith, ints))));
  join_right = λ a b. let p = join_divides a b in
      parts_below b (join a b) p.1 (reduced_below (join_modulus a b) b.residue a.residue (Divides-neg_is (join_modulus a b) (a.residue -ℤ b.residue) (b.residue -ℤ a.residue) (record { holds = p.2 }) (omega (arith, ints))));
  join_least = join_least;
  round_above = λ a ts. below_refl a;
  round_mono = λ a a' ts h. h;
  all_on_mono = all_on_mono;
}

no_row_sound : (op : ℤ → ℤ → ℤ) → Sound2 congruences no_row op
no_row_sound op a b x y h k w = top_has (op x y) w

no_row_mono : Mono2 congruences no_row
no_row_mono a a' b b' h k = below_top top

no_flag_sound : (op : Bool → ℤ → ℤ) → SoundFlag congruences no_flag_row op
no_flag_sound op a b c x h m w = top_has (op c x) w

no_flag_mono : MonoFlag congruences no_flag_row
no_flag_mono a a' b b' h l = below_top top

sound_laws : SoundLaws congruences
sound_laws = record {
  add = λ a b x y h k w. make_has (common_modulus a b) (a.residue +ℤ b.residue) (x +ℤ y) w (sum_in (common_modulus a b) a b x y (gcd_left (mod_of a) (mod_of b)) (gcd_right (mod_of a) (mod_of b)) (has_parts a x h).1 (has_parts b y k).1);
  sub = λ a b x y h k w. make_has (common_modulus a b) (a.residue -ℤ b.residue) (x -ℤ y) w (difference_in (common_modulus a b) a b x y (gcd_left (mod_of a) (mod_of b)) (gcd_right (mod_of a) (mod_of b)) (has_parts a x h).1 (has_parts b y k).1);
  add_wrap = λ a b x y h k w. make_has (wrapped_modulus a b) (a.residue +ℤ b.residue) (wrapped (x +ℤ y)) w (wrapped_in (wrapped_modulus a b) (x +ℤ y) (a.residue +ℤ b.residue) (gcd_right (common_modulus a b) (2 ^ 32)) (sum_in (wrapped_modulus a b) a b x y (wrapped_left a b) (wrapped_right a b) (has_parts a x h).1 (has_parts b y k).1));
  sub_wrap = λ a b x y h k w. make_has (wrapped_modulus a b) (a.residue -ℤ b.residue) (wrapped (x -ℤ y)) w (wrapped_in (wrapped_modulus a b) (x -ℤ y) (a.residue -ℤ b.residue) (gcd_right (common_modulus a b) (2 ^ 32)) (difference_in (wrapped_modulus a b) a b x y (wrapped_left a b) (wrapped_right a b) (has_parts a x h).1 (has_parts b y k).1));
  xor = exact2_sound congruences single order_laws single_laws signed_xor no_row (no_row_sound signed_xor);
  bit_and = exact2_sound congruences single order_laws single_laws signed_and no_row (no_row_sound signed_and);
  nor = exact2_sound congruences single order_laws single_laws signed_nor no_row (no_row_sound signed_nor);
  and_not = exact2_sound congruences single order_laws single_laws signed_and_not no_row (no_row_sound signed_and_not);
  neg = λ a x h w. let g = gcd (mod_of a) (2 ^ 32) in make_has g (neg_ℤ a.residue) (wrapped (neg_ℤ x)) w (wrapped_in g (neg_ℤ x) (neg_ℤ a.residue) (gcd_right (mod_of a) (2 ^ 32)) (neg_in g a x (gcd_left (mod_of a) (2 ^ 32)) (has_parts a x h).1));
  sar = sar_sound;
  shl = λ a x h w. make_has (2 * mod_of a) (a.residue +ℤ a.residue) (x +ℤ x) w (twice_in (mod_of a) x a.residue (has_parts a x h).1);
  moved = λ k a x h w. make_has (mod_of a) (a.residue +ℤ k) (x +ℤ k) w (Divides_is (mod_of a) (x -ℤ a.residue) (x +ℤ k -ℤ (a.residue +ℤ k)) (has_parts a x h).1 (omega (arith, ints)));
  right_through = exact_flag_sound congruences single order_laws single_laws shifted_right no_flag_row (no_flag_sound shifted_right);
  left_through = left_sound;
  refine = refine_sound;
}

mono_laws : MonoLaws congruences
mono_laws = record {
  add = λ a a' b b' h k. let g' = common_modulus a' b' in make_mono (common_modulus a b) g' (a.residue +ℤ b.residue) (a'.residue +ℤ b'.residue) (common_grows a a' b b' h k) (sum_in g' a' b' a.residue b.residue (gcd_left (mod_of a') (mod_of b')) (gcd_right (mod_of a') (mod_of b')) (below_parts a a' h).residue (below_parts b b' k).residue);
  sub = λ a a' b b' h k. let g' = common_modulus a' b' in make_mono (common_modulus a b) g' (a.residue -ℤ b.residue) (a'.residue -ℤ b'.residue) (common_grows a a' b b' h k) (difference_in g' a' b' a.residue b.residue (gcd_left (mod_of a') (mod_of b')) (gcd_right (mod_of a') (mod_of b')) (below_parts a a' h).residue (below_parts b b' k).residue);
  add_wrap = λ a a' b b' h k. let g' = wrapped_modulus a' b' in make_mono (wrapped_modulus a b) g' (a.residue +ℤ b.residue) (a'.residue +ℤ b'.residue) (wrapped_grows a a' b b' h k) (sum_in g' a' b' a.residue b.residue (wrapped_left a' b') (wrapped_right a' b') (below_parts a a' h).residue (below_parts b b' k).residue);
  sub_wrap = λ a a' b b' h k. let g' = wrapped_modulus a' b' in make_mono (wrapped_modulus a b) g' (a.residue -ℤ b.residue) (a'.residue -ℤ b'.residue) (wrapped_grows a a' b b' h k) (difference_in g' a' b' a.residue b.residue (wrapped_left a' b') (wrapped_right a' b') (below_parts a a' h).residue (below_parts b b' k).residue);
  xor = exact2_mono congruences single order_laws single_laws signed_xor no_row (no_row_sound signed_xor) no_row_mono;
  bit_and = exact2_mono congruences single order_laws single_laws signed_and no_row (no_row_sound signed_and) no_row_mono;
  nor = exact2_mono congruences single order_laws single_laws signed_nor no_row (no_row_sound signed_nor) no_row_mono;
  and_not = exact2_mono congruences single order_laws single_laws signed_and_not no_row (no_row_sound signed_and_not) no_row_mono;
  neg = λ a a' h. let p = below_parts a a' h in let g' = gcd (mod_of a') (2 ^ 32) in make_mono (gcd (mod_of a) (2 ^ 32)) g' (neg_ℤ a.residue) (neg_ℤ a'.residue) (gcd_greatest (mod_of a) (2 ^ 32) g' (dvd_trans g' (gcd_left (mod_of a') (2 ^ 32)) p.modulus) (gcd_right (mod_of a') (2 ^ 32))) (neg_in g' a' a.residue (gcd_left (mod_of a') (2 ^ 32)) p.residue);
  sar = sar_mono;
  shl = λ a a' h. let p = below_parts a a' h in make_mono (2 * mod_of a) (2 * mod_of a') (a.residue +ℤ a.residue) (a'.residue +ℤ a'.residue) (mul-dvd-mul_left (mod_of a') 2 p.modulus) (twice_in (mod_of a') a.residue a'.residue p.residue);
  moved = λ k a a' h. let p = below_parts a a' h in make_mono (mod_of a) (mod_of a') (a.residue +ℤ k) (a'.residue +ℤ k) p.modulus (Divides_is (mod_of a') (a.residue -ℤ a'.residue) (a.residue +ℤ k -ℤ (a'.residue +ℤ k)) p.residue (omega (arith, ints)));
  right_through = exact_flag_mono congruences single order_laws single_laws shifted_right no_flag_row (no_flag_sound shifted_right) no_flag_mono;
  left_through = left_mono;
  refine = refine_mono;
  refine_below = refine_below;
}

span_laws : SpanLaws congruences
span_laws = record {
  span_has = λ lo hi m n r i. let w = r.low.low in let v = r.high.high in let il = i.low in let ih = i.high in
      some_or_else (λ s. Has congruences s n) (make (nat_abs m) lo) top (make_has (nat_abs m) lo n (record { low = omega (arith, ints); high = omega (arith, ints) }) (record { holds = step_divides m lo n i.step }));
  all_on_sound = all_on_sound;
  least_in_w = λ a n. all_some (λ k. Has congruences a k × (n ≤ℤ k)) IsSigned (least_from a n) (least_is a n) (λ k p. (has_parts a k p.0).0);
  greatest_in_w = λ a n. all_some (λ k. Has congruences a k × (k ≤ℤ n)) IsSigned (greatest_to a n) (greatest_is a n) (λ k p. (has_parts a k p.0).0);
  narrow_sound = narrow_has;
  narrow_below = narrow_below;
  narrow_mono = narrow_mono;
  least_above = λ a n. all_some (λ k. Has congruences a k × (n ≤ℤ k)) (λ k. n ≤ℤ k) (least_from a n) (least_is a n) (λ k p. p.1);
  least_first = least_first;
  least_mono = λ a a' n n' h p. all_some (λ k. Has congruences a k × (n ≤ℤ k)) (λ k. IsSomeAnd (least_from a' n') (λ k'. k' ≤ℤ k)) (least_from a n) (least_is a n) (λ k q. let l = q.1 in least_first a' n' k (below_has a a' k h q.0) (omega (arith, ints)));
  greatest_below = λ a n. all_some (λ k. Has congruences a k × (k ≤ℤ n)) (λ k. k ≤ℤ n) (greatest_to a n) (greatest_is a n) (λ k p. p.1);
  greatest_first = greatest_first;
  greatest_mono = λ a a' n n' h p. all_some (λ k. Has congruences a k × (k ≤ℤ n)) (λ k. IsSomeAnd (greatest_to a' n') (λ k'. k ≤ℤ k')) (greatest_to a n) (greatest_is a n) (λ k q. let l = q.1 in greatest_first a' n' k (below_has a a' k h q.0) (omega (arith, ints)));
}

pub congruence_laws : DomainLaws congruences
congruence_laws = record { order = order_laws; sound = sound_laws; mono = mono_laws; spans = span_laws }
