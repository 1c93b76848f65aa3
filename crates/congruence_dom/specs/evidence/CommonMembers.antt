-- The common members of two congruences: a congruence of the first two of them.
use Rattle.std.specs.Prelude.{◌≡◌, ◌<◌, ◌^◌, ◌-ℤ◌, ◌+ℤ◌, ℤ, pos, ◌≤ℤ◌, ◌<ℤ◌, true, false, int_le, nat_abs, Option, Some, None, IsSomeAnd, IfSome}
use Rattle.std.proofs.Common.{refl, ap, arith, ⊎_elim}
use Rattle.std.proofs.lemmas.Int.{ints}
use Rattle.std.proofs.lemmas.Bool.{cases_Bool, and_parts, and_from}
use Rattle.viper_word.specs.Words.{least_signed, IsSigned}
use Rattle.num_domain.specs.Domain.{Has, Below, BelowOption}
use Rattle.viper_word.specs.Options.{bind}
use Rattle.viper_word.proofs.Options.{some_bind, all_bind, all_some, some_and}
use Rattle.viper_word.proofs.Integers.{le_true, le_false}
use Rattle.viper_word.specs.Search.{find_from}
use Rattle.viper_word.proofs.Search.{find_is, find_first}
use Rattle.viper_word.specs.Divisors.{Divides}
use Rattle.viper_word.proofs.Multiples.{Divides-difference, Divides-zero, Divides_is, Divides_trans}
use Rattle.congruence_dom.specs.Residues.{mod_of, reduce}
use Rattle.congruence_dom.specs.evidence.Forms.{reduce_divides, reduce_bounds}
use Rattle.congruence_dom.specs.Congruences.{congruences, make, is_common, next_common, through, refine_eq}
use Rattle.congruence_dom.specs.evidence.CongruenceOrder.{make_has, make_below, make_mono, make_zero_below, has_parts, parts_has, below_has}
use Rattle.congruence_dom.specs.declared.congruence.Congruence.{Congruence}

pub record AreCommon (a b : Congruence) (n : ℤ) : Type 0 where
  pub left : Has congruences a n
  pub right : Has congruences b n

pub next_is : (a b : Congruence) (n : ℤ) → IfSome (next_common a b n) (λ r. AreCommon a b r × (n ≤ℤ r))
unfolding next_common
next_is a b n =
    all_some (λ r. (is_common a b r ≡ true) × (n ≤ℤ r)) (λ r. AreCommon a b r × (n ≤ℤ r)) (find_from (is_common a b) (2 ^ 32) n) (find_is (is_common a b) (2 ^ 32) n)
    (λ r p. let q = and_parts (congruences.has a r) (congruences.has b r) p.0 in (record { left = record { holds = q.0 }; right = record { holds = q.1 } }, p.1))

pub next_first : (a b : Congruence) (n m : ℤ) → AreCommon a b m → least_signed ≤ℤ n → n ≤ℤ m → IsSomeAnd (next_common a b n) (λ r. r ≤ℤ m)
unfolding next_common
next_first a b n m h w l =
    let v = (has_parts a m h.left).0 in
    find_first (is_common a b) (2 ^ 32) n m (and_from (congruences.has a m) (congruences.has b m) h.left.holds h.right.holds) l (omega (arith, ints))

-- common members are apart by multiples of the first gap
pub gap_divides : (a b : Congruence) (i j x : ℤ) → AreCommon a b i → AreCommon a b j → AreCommon a b x → i <ℤ j → ((m : ℤ) → AreCommon a b m → i <ℤ m → j ≤ℤ m) → Divides (nat_abs (j -ℤ i)) (x -ℤ i)
gap_divides a b i j x hi hj hx l none =
    let d = nat_abs (j -ℤ i) in
    let big : 0 < d = omega (arith, ints) in
    let r = reduce d (x -ℤ i) in
    let bounds = reduce_bounds d (x -ℤ i) big in
    let whole = reduce_divides d (x -ℤ i) in
    let y = i +ℤ r in
    let wi = (has_parts a i hi.left).0 in
    let wj = (has_parts a j hj.left).0 in
    let w : IsSigned y = record { low = omega (arith, ints); high = omega (arith, ints) } in
    let same_in : (c : Congruence) → Has congruences c i → Has congruences c j → Has congruences c x → Has congruences c y = λ c p q s.
    let di = (has_parts c i p).1 in
    let dj = (has_parts c j q).1 in
    let dx = (has_parts c x s).1 in
    let gap : Divides (mod_of c) (j -ℤ i) = Divides-difference (mod_of c) (j -ℤ c.residue) (i -ℤ c.residue) (j -ℤ i) dj di (omega (arith, ints)) in
    parts_has c y w (Divides-difference (mod_of c) (x -ℤ c.residue) (x -ℤ i -ℤ r) (y -ℤ c.residue) dx (Divides_trans (mod_of c) d (x -ℤ i -ℤ r) gap.holds whole) (omega (arith, ints))) in
    let common : AreCommon a b y = record { left = same_in a hi.left hj.left hx.left; right = same_in b hi.right hj.right hx.right } in
    ⊎_elim
    (λ (e : int_le y i ≡ true). let q = le_true y i e in Divides_is d (x -ℤ i -ℤ r) (x -ℤ i) whole (omega (arith, ints)))
    (λ (e : int_le y i ≡ false). let q = le_false y i e in let f = none y common q in absurd (omega (arith, ints)))
    (cases_Bool (int_le y i))

-- below what a first step finds
pub below_some : (o : Option Congruence) (q : Option ℤ) (f : ℤ → Option Congruence) (Q : ℤ → Type 0) → IsSomeAnd q Q → ((i : ℤ) → Q i → BelowOption congruences o (f i)) → BelowOption congruences o (bind q f)
below_some o None f Q h k = absurd h
below_some o (Some i) f Q h k = k i h

-- what is known of the common member after i
pub record IsNext (a b : Congruence) (i : ℤ) (o : Option ℤ) : Type 0 where
  pub is : IfSome o (λ r. AreCommon a b r × ((i +ℤ pos 1) ≤ℤ r))
  pub first : (m : ℤ) → AreCommon a b m → i <ℤ m → IsSomeAnd o (λ r. r ≤ℤ m)

pub is_next : (a b : Congruence) (i : ℤ) → IsSigned i → IsNext a b i (next_common a b (i +ℤ pos 1))
is_next a b i w = record { is = next_is a b (i +ℤ pos 1); first = λ m h l. next_first a b (i +ℤ pos 1) m h (let v = w.low in omega (arith, ints)) (omega (arith, ints)) }

pub through_has : (a b : Congruence) (i x : ℤ) (o : Option ℤ) → IsNext a b i o → AreCommon a b i → AreCommon a b x → i ≤ℤ x → IsSomeAnd (through i o) (λ c. Has congruences c x)
through_has a b i x None n h k l =
    ⊎_elim
    (λ (e : int_le x i ≡ true). let q = le_true x i e in make_has 0 i x (has_parts a x k.left).0 (Divides_is 0 (pos 0) (x -ℤ i) (Divides-zero 0) (omega (arith, ints))))
    (λ (e : int_le x i ≡ false). absurd (n.first x k (le_false x i e)))
    (cases_Bool (int_le x i))
through_has a b i x (Some j) n h k l =
    let g = n.is.1 in
    make_has (nat_abs (j -ℤ i)) i x (has_parts a x k.left).0 (gap_divides a b i j x h n.is.0 k (omega (arith, ints)) n.first)

-- the first common member, below one that is known
pub first_below : (a b : Congruence) (x : ℤ) → AreCommon a b x → IsSomeAnd (next_common a b least_signed) (λ i. (AreCommon a b i × (least_signed ≤ℤ i)) × (i ≤ℤ x))
first_below a b x h = some_and (λ i. AreCommon a b i × (least_signed ≤ℤ i)) (λ i. i ≤ℤ x) (next_common a b least_signed) (next_is a b least_signed) (next_first a b least_signed x h (omega (arith, ints)) (has_parts a x h.left).0.low)

pub refine_eq_sound : (a b : Congruence) (x : ℤ) → AreCommon a b x → IsSomeAnd (refine_eq a b) (λ c. Has congruences c x)
unfolding refine_eq
refine_eq_sound a b x h =
    some_bind (λ i. (AreCommon a b i × (least_signed ≤ℤ i)) × (i ≤ℤ x)) (λ c. Has congruences c x) (next_common a b least_signed) _ (first_below a b x h)
    (λ i p. through_has a b i x (next_common a b (i +ℤ pos 1)) (is_next a b i (has_parts a i p.0.0.left).0) p.0.0 h p.1)

-- the congruence of two members is below that of the larger domain's first two
pub through_mono : (a b : Congruence) (i j i' : ℤ) (o : Option ℤ) → IsNext a b i' o → AreCommon a b i → AreCommon a b j → AreCommon a b i' → i <ℤ j → i' ≤ℤ i → BelowOption congruences (make (nat_abs (j -ℤ i)) i) (through i' o)
through_mono a b i j i' None n hi hj h l q = absurd (n.first j hj (omega (arith, ints)))
through_mono a b i j i' (Some j') n hi hj h l q =
    let d = nat_abs (j' -ℤ i') in
    let g = n.is.1 in
    let di = gap_divides a b i' j' i h n.is.0 hi (omega (arith, ints)) n.first in
    let dj = gap_divides a b i' j' j h n.is.0 hj (omega (arith, ints)) n.first in
    let gap : Divides d (j -ℤ i) = Divides-difference d (j -ℤ i') (i -ℤ i') (j -ℤ i) dj di (omega (arith, ints)) in
    make_mono (nat_abs (j -ℤ i)) d i i' gap.holds di

pub carried : (a a' b b' : Congruence) (x : ℤ) → Below congruences a a' → Below congruences b b' → AreCommon a b x → AreCommon a' b' x
carried a a' b b' x h k c = record { left = below_has a a' x h c.left; right = below_has b b' x k c.right }

pub through_below : (a b : Congruence) (i : ℤ) (o : Option ℤ) → AreCommon a b i → IfSome o (λ r. AreCommon a b r × ((i +ℤ pos 1) ≤ℤ r)) → (a' b' : Congruence) → Below congruences a a' → Below congruences b b' → BelowOption congruences (through i o) (refine_eq a' b')
unfolding refine_eq
through_below a b i None c n a' b' h k = make_zero_below i (refine_eq a' b') (refine_eq_sound a' b' i (carried a a' b b' i h k c))
through_below a b i (Some j) c n a' b' h k =
    let g = n.1 in
    let ci = carried a a' b b' i h k c in
    let cj = carried a a' b b' j h k n.0 in
    let found = first_below a' b' i ci in
    below_some (make (nat_abs (j -ℤ i)) i) (next_common a' b' least_signed) (λ i'. through i' (next_common a' b' (i' +ℤ pos 1))) (λ i'. (AreCommon a' b' i' × (least_signed ≤ℤ i')) × (i' ≤ℤ i)) found
    (λ i' p. through_mono a' b' i j i' (next_common a' b' (i' +ℤ pos 1)) (is_next a' b' i' (has_parts a' i' p.0.0.left).0) ci cj p.0.0 (omega (arith, ints)) p.1)

pub refine_eq_mono : (a a' b b' : Congruence) → Below congruences a a' → Below congruences b b' → BelowOption congruences (refine_eq a b) (refine_eq a' b')
unfolding refine_eq
refine_eq_mono a a' b b' h k =
    all_bind (λ i. AreCommon a b i × (least_signed ≤ℤ i)) (λ r. IsSomeAnd (refine_eq a' b') (λ r'. Below congruences r r')) (next_common a b least_signed) _ (next_is a b least_signed)
    (λ i p. through_below a b i (next_common a b (i +ℤ pos 1)) p.0 (next_is a b (i +ℤ pos 1)) a' b' h k)

-- ---- the congruence of the common members

-- r has the common members and no others, and is single where there is only one
pub record AreCommonMembers (a b r : Congruence) : Type 0 where
  pub each : (n : ℤ) → Has congruences r n → AreCommon a b n
  pub all : (n : ℤ) → AreCommon a b n → Has congruences r n
  pub alone : ((m n : ℤ) → AreCommon a b m → AreCommon a b n → m ≡ n) → r.modulus ≡ pos 0

-- ---- what is known of the first common member from n on

pub record IsNextCommon (a b : Congruence) (n : ℤ) (o : Option ℤ) : Type 0 where
  pub is : IfSome o (λ k. AreCommon a b k × (n ≤ℤ k))
  pub first : (x : ℤ) → AreCommon a b x → n ≤ℤ x → IsSomeAnd o (λ k. k ≤ℤ x)

next_same : (a b : Congruence) (n : ℤ) (o q : Option ℤ) → IsNextCommon a b n o → IsNextCommon a b n q → o ≡ q
next_same a b n None None h k = refl
next_same a b n (Some x) None h k = absurd (k.first x h.is.0 h.is.1)
next_same a b n None (Some y) h k = absurd (h.first y k.is.0 k.is.1)
next_same a b n (Some x) (Some y) h k =
    let p = h.first y k.is.0 k.is.1 in
    let q = k.first x h.is.0 h.is.1 in
    let e : x ≡ y = omega (arith, ints) in
    ap (λ (z : ℤ). Some z) e

pub next_common_is : (a b : Congruence) (n : ℤ) (o : Option ℤ) → least_signed ≤ℤ n → IsNextCommon a b n o → o ≡ next_common a b n
next_common_is a b n o w h = next_same a b n o (next_common a b n) h (record { is = next_is a b n; first = λ x c l. next_first a b n x c w l })

-- ---- below the first of the two

through_in : (a b : Congruence) (i : ℤ) (o : Option ℤ) → AreCommon a b i → IfSome o (λ r. AreCommon a b r × ((i +ℤ pos 1) ≤ℤ r)) → BelowOption congruences (through i o) (Some a)
through_in a b i None h n = make_zero_below i (Some a) h.left
through_in a b i (Some j) h n =
    let di = (has_parts a i h.left).1 in
    let dj = (has_parts a j n.0.left).1 in
    let gap : Divides (mod_of a) (j -ℤ i) = Divides-difference (mod_of a) (j -ℤ a.residue) (i -ℤ a.residue) (j -ℤ i) dj di (omega (arith, ints)) in
    make_below (nat_abs (j -ℤ i)) i a gap.holds di

pub refine_eq_below : (a b : Congruence) → BelowOption congruences (refine_eq a b) (Some a)
unfolding refine_eq
refine_eq_below a b =
    all_bind (λ i. AreCommon a b i × (least_signed ≤ℤ i)) (λ r. Below congruences r a) (next_common a b least_signed) _ (next_is a b least_signed)
    (λ i p. through_in a b i (next_common a b (i +ℤ pos 1)) p.0 (next_is a b (i +ℤ pos 1)))
