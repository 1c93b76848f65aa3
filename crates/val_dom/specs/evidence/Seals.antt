-- What is sealed is in normal form.
use Rattle.std.specs.Prelude.{◌≡◌, ◌-ℤ◌, ℤ, pos, ◌≤ℤ◌, int_le, Bool, true, false, cond, Option, Some, None, IfSome}
use Rattle.std.specs.Int.{int_min, int_max}
use Rattle.std.proofs.Common.{refl, sym, subst, arith, ◌∙◌}
use Rattle.std.proofs.lemmas.Int.{ints, clamps}
use Rattle.std.proofs.lemmas.Bool.{cond_both}
use Rattle.viper_word.specs.Words.{IsSigned, least_signed, greatest_signed}
use Rattle.num_domain.specs.Domain.{Has}
use Rattle.viper_word.specs.Options.{bind}
use Rattle.viper_word.proofs.Options.{all_bind, all_when, all_some, both_all}
use Rattle.viper_word.proofs.Integers.{le_true, le_false}
use Rattle.num_domain.specs.Pairs.{seal, both, pair_least, pair_greatest}
use Rattle.interval_dom.specs.Bounds.{AreEnds}
use Rattle.interval_dom.specs.Intervals.{intervals, interval_if, cut}
use Rattle.congruence_dom.specs.Form.{IsForm}
use Rattle.viper_word.proofs.Multiples.{Divides_is, Divides-zero}
use Rattle.congruence_dom.specs.Residues.{mod_of, next_from}
use Rattle.congruence_dom.specs.evidence.Forms.{reduce_zero}
use Rattle.congruence_dom.specs.Congruences.{congruences, narrow, make, congruence_if}
use Rattle.congruence_dom.specs.evidence.CongruenceOrder.{least_is, greatest_is, least_first, greatest_first, has_parts, parts_has}
use Rattle.congruence_dom.specs.declared.congruence.Congruence.{Congruence}
use Rattle.val_dom.specs.Normal.{P, IsNormal}

-- a common member
pub record IsCommon (p : P) (k : ℤ) : Type 0 where
  pub member : Has congruences p.right k
  pub from : p.left.lo ≤ℤ k
  pub to : k ≤ℤ p.left.hi

pub least_common : (p : P) → IfSome (pair_least intervals congruences p least_signed) (IsCommon p)
least_common p =
    all_bind (λ i. p.left.lo ≤ℤ i) (IsCommon p) (intervals.least_from p.left least_signed) _
    (all_when (int_le least_signed p.left.hi) (Some (int_max p.left.lo least_signed)) (λ i. p.left.lo ≤ℤ i) (λ _. omega (arith, ints, clamps)))
    (λ i e. all_bind (λ j. Has congruences p.right j × (i ≤ℤ j)) (IsCommon p) (congruences.least_from p.right i) _ (least_is p.right i)
    (λ j f. all_when (int_le j p.left.hi) (Some (int_max p.left.lo j)) (IsCommon p)
    (λ t. let g = le_true j p.left.hi t in let fl = f.1 in
    let same : j ≡ int_max p.left.lo j = omega (arith, ints, clamps) in
    record { member = subst (λ (x : ℤ). Has congruences p.right x) same f.0; from = omega (arith, ints, clamps); to = omega (arith, ints, clamps) })))

pub greatest_common : (p : P) → IfSome (pair_greatest intervals congruences p greatest_signed) (IsCommon p)
greatest_common p =
    all_bind (λ i. i ≤ℤ p.left.hi) (IsCommon p) (intervals.greatest_to p.left greatest_signed) _
    (all_when (int_le p.left.lo greatest_signed) (Some (int_min p.left.hi greatest_signed)) (λ i. i ≤ℤ p.left.hi) (λ _. omega (arith, ints, clamps)))
    (λ i e. all_bind (λ j. Has congruences p.right j × (j ≤ℤ i)) (IsCommon p) (congruences.greatest_to p.right i) _ (greatest_is p.right i)
    (λ j f. all_when (int_le p.left.lo j) (Some (int_min p.left.hi j)) (IsCommon p)
    (λ t. let g = le_true p.left.lo j t in let fl = f.1 in
    let same : j ≡ int_min p.left.hi j = omega (arith, ints, clamps) in
    record { member = subst (λ (x : ℤ). Has congruences p.right x) same f.0; from = omega (arith, ints, clamps); to = omega (arith, ints, clamps) })))

-- the ends of a cut
pub interval_if_ends : (lo hi : ℤ) (b : Bool) (h : b ≡ true → AreEnds lo hi) → IfSome (interval_if lo hi b h) (λ r. (r.lo ≡ lo) × (r.hi ≡ hi))
interval_if_ends lo hi true h = (refl, refl)
interval_if_ends lo hi false h = tt

pub cut_ends_are : (lo hi : ℤ) → IfSome (cut lo hi) (λ r. (r.lo ≡ int_max lo least_signed) × (r.hi ≡ int_min hi greatest_signed))
unfolding cut
cut_ends_are lo hi = interval_if_ends (int_max lo least_signed) (int_min hi greatest_signed) _ _

-- a congruence narrowed to two of its members
pub record Keeps (c : Congruence) (a b : ℤ) : Type 0 where
  pub low : Has congruences c a
  pub high : Has congruences c b
  pub single : a ≡ b → c.modulus ≡ pos 0

pub congruence_if_parts : (r : ℤ) (b : Bool) (h : b ≡ true → IsForm (pos 0) r) → IfSome (congruence_if (pos 0) r b h) (λ c. (c.modulus ≡ pos 0) × (c.residue ≡ r))
congruence_if_parts r true h = (refl, refl)
congruence_if_parts r false h = tt

pub make_zero_keeps : (z : ℤ) → IsSigned z → IfSome (make 0 z) (λ c. Has congruences c z × (c.modulus ≡ pos 0))
unfolding make
make_zero_keeps z w =
    let e : next_from 0 z least_signed ≡ z = let f = reduce_zero 0 (z -ℤ least_signed) refl in omega (arith, ints) in
    all_some (λ c. (c.modulus ≡ pos 0) × (c.residue ≡ next_from 0 z least_signed)) (λ c. Has congruences c z × (c.modulus ≡ pos 0)) (make 0 z) (congruence_if_parts (next_from 0 z least_signed) _ _)
    (λ c p. (parts_has c z w (Divides_is (mod_of c) (pos 0) (z -ℤ c.residue) (Divides-zero (mod_of c)) (let q = p.1 in omega (arith, ints))), p.0))

pub narrow_keeps : (c : Congruence) (a b : ℤ) → Has congruences c a → Has congruences c b → a ≤ℤ b → IfSome (narrow c a b) (λ r. Keeps r a b)
narrow_keeps c a b h k l =
    all_bind (λ i. i ≡ a) (λ r. Keeps r a b) (congruences.least_from c a) _
    (both_all (λ i. Has congruences c i × (a ≤ℤ i)) (λ i. i ≤ℤ a) (λ i. i ≡ a) (congruences.least_from c a) (least_is c a) (least_first c a a h (omega (arith, ints))) (λ i p q. let pl = p.1 in omega (arith, ints)))
    (λ i e. all_bind (λ j. j ≡ b) (λ r. Keeps r a b) (congruences.greatest_to c b) _
    (both_all (λ j. Has congruences c j × (j ≤ℤ b)) (λ j. b ≤ℤ j) (λ j. j ≡ b) (congruences.greatest_to c b) (greatest_is c b) (greatest_first c b b k (omega (arith, ints))) (λ j p q. let pl = p.1 in omega (arith, ints)))
    (λ j f. all_when (int_le i j) (cond (int_le j i) (make 0 i) (Some c)) (λ r. Keeps r a b)
    (λ _. cond_both (int_le j i) (make 0 i) (Some c) (λ o. IfSome o (λ r. Keeps r a b))
    (λ t. let u = le_true j i t in let same : a ≡ b = omega (arith, ints) in
    all_some (λ r. Has congruences r i × (r.modulus ≡ pos 0)) (λ r. Keeps r a b) (make 0 i) (make_zero_keeps i (subst IsSigned (sym e) (has_parts c a h).0))
    (λ r p. record { low = subst (λ (x : ℤ). Has congruences r x) e p.0; high = subst (λ (x : ℤ). Has congruences r x) (e ∙ same) p.0; single = λ _. p.1 }))
    (λ t. let u = le_false j i t in record { low = h; high = k; single = λ s. absurd (omega (arith, ints)) }))))

pub seal_normal : (p : P) → IfSome (seal intervals congruences p) IsNormal
unfolding seal
seal_normal p =
    all_bind (IsCommon p) IsNormal (pair_least intervals congruences p least_signed) _ (least_common p)
    (λ a e. all_bind (IsCommon p) IsNormal (pair_greatest intervals congruences p greatest_signed) _ (greatest_common p)
    (λ b f. all_when (int_le a b) (both intervals congruences (intervals.narrow p.left a b) (congruences.narrow p.right a b)) IsNormal
    (λ t. let o = le_true a b t in
    all_bind (λ x. (x.lo ≡ a) × (x.hi ≡ b)) IsNormal (intervals.narrow p.left a b) _
    (all_some (λ x. (x.lo ≡ int_max (int_max p.left.lo a) least_signed) × (x.hi ≡ int_min (int_min p.left.hi b) greatest_signed)) (λ x. (x.lo ≡ a) × (x.hi ≡ b)) (cut (int_max p.left.lo a) (int_min p.left.hi b)) (cut_ends_are (int_max p.left.lo a) (int_min p.left.hi b))
    (λ x g. let wa = (has_parts p.right a e.member).0 in let wb = (has_parts p.right b f.member).0 in let g0 = g.0 in let g1 = g.1 in (omega (arith, ints, clamps), omega (arith, ints, clamps))))
    (λ x g. all_bind (λ y. Keeps y a b) IsNormal (congruences.narrow p.right a b) _ (narrow_keeps p.right a b e.member f.member o)
    (λ y h. record { low_member = subst (λ (z : ℤ). Has congruences y z) (sym g.0) h.low; high_member = subst (λ (z : ℤ). Has congruences y z) (sym g.1) h.high; single = λ s. h.single (sym g.0 ∙ s ∙ g.1) })))))

pub sealed_normal : (o : Option P) → IfSome (bind o (seal intervals congruences)) IsNormal
sealed_normal None = tt
sealed_normal (Some p) = seal_normal p
