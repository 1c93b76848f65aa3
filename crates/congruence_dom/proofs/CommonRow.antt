-- Refining by equality gives the common members, and a single value where there is one.
use Rattle.std.specs.Prelude.{◌≡◌, ℤ, pos, ◌+ℤ◌, ◌-ℤ◌, ◌≤ℤ◌, nat_abs, Bool, true, false, Option, Some, None, IsSomeAnd, IfSome}
use Rattle.std.proofs.Common.{refl, arith}
use Rattle.std.proofs.lemmas.Int.{ints}
use Rattle.viper_word.specs.Words.{least_signed}
use Rattle.num_domain.specs.Domain.{Has, Below, BelowOption}
use Rattle.viper_word.proofs.Options.{all_bind}
use Rattle.congruence_dom.specs.Form.{IsForm}
use Rattle.viper_word.specs.Divisors.{Divides}
use Rattle.viper_word.proofs.Multiples.{Divides-difference}
use Rattle.congruence_dom.specs.Residues.{mod_of}
use Rattle.congruence_dom.specs.Congruences.{make, congruence_if, next_common, through, refine_eq, congruences}
use Rattle.congruence_dom.specs.evidence.CongruenceOrder.{has_parts, make_below, make_zero_below, below_has}
use Rattle.congruence_dom.specs.evidence.CommonMembers.{AreCommon, AreCommonMembers, next_is, refine_eq_sound, refine_eq_below}
use Rattle.congruence_dom.specs.declared.congruence.Congruence.{Congruence}

through_right : (a b : Congruence) (i : ℤ) (o : Option ℤ) → AreCommon a b i → IfSome o (λ r. AreCommon a b r × ((i +ℤ pos 1) ≤ℤ r)) → BelowOption congruences (through i o) (Some b)
through_right a b i None h n = make_zero_below i (Some b) h.right
through_right a b i (Some j) h n =
    let di = (has_parts b i h.right).1 in
    let dj = (has_parts b j n.0.right).1 in
    let gap : Divides (mod_of b) (j -ℤ i) = Divides-difference (mod_of b) (j -ℤ b.residue) (i -ℤ b.residue) (j -ℤ i) dj di (omega (arith, ints)) in
    make_below (nat_abs (j -ℤ i)) i b gap.holds di

refine_eq_right : (a b : Congruence) → BelowOption congruences (refine_eq a b) (Some b)
unfolding refine_eq
refine_eq_right a b =
    all_bind (λ i. AreCommon a b i × (least_signed ≤ℤ i)) (λ r. Below congruences r b) (next_common a b least_signed) _ (next_is a b least_signed)
    (λ i p. through_right a b i (next_common a b (i +ℤ pos 1)) p.0 (next_is a b (i +ℤ pos 1)))

single_if : (r : ℤ) (b : Bool) (h : b ≡ true → IsForm (pos 0) r) → IfSome (congruence_if (pos 0) r b h) (λ c. c.modulus ≡ pos 0)
single_if r true h = refl
single_if r false h = tt

single_made : (z : ℤ) → IfSome (make 0 z) (λ c. c.modulus ≡ pos 0)
unfolding make
single_made z = single_if _ _ _

through_alone : (a b : Congruence) (i : ℤ) (o : Option ℤ) → AreCommon a b i → IfSome o (λ r. AreCommon a b r × ((i +ℤ pos 1) ≤ℤ r)) → ((m n : ℤ) → AreCommon a b m → AreCommon a b n → m ≡ n) → IfSome (through i o) (λ r. r.modulus ≡ pos 0)
through_alone a b i None h n f = single_made i
through_alone a b i (Some j) h n f = let e = f i j h n.0 in let l = n.1 in absurd (omega (arith, ints))

refine_eq_alone : (a b : Congruence) → ((m n : ℤ) → AreCommon a b m → AreCommon a b n → m ≡ n) → IfSome (refine_eq a b) (λ r. r.modulus ≡ pos 0)
unfolding refine_eq
refine_eq_alone a b f =
    all_bind (λ i. AreCommon a b i × (least_signed ≤ℤ i)) (λ r. r.modulus ≡ pos 0) (next_common a b least_signed) _ (next_is a b least_signed)
    (λ i p. through_alone a b i (next_common a b (i +ℤ pos 1)) p.0 (next_is a b (i +ℤ pos 1)) f)

row_of : (a b : Congruence) (o : Option Congruence) → BelowOption congruences o (Some a) → BelowOption congruences o (Some b) → ((x : ℤ) → AreCommon a b x → IsSomeAnd o (λ c. Has congruences c x)) → (((m n : ℤ) → AreCommon a b m → AreCommon a b n → m ≡ n) → IfSome o (λ r. r.modulus ≡ pos 0)) → IfSome o (AreCommonMembers a b)
row_of a b None h k s f = tt
row_of a b (Some r) h k s f = record { each = λ n m. record { left = below_has r a n h m; right = below_has r b n k m }; all = s; alone = f }

pub common_row : (a b : Congruence) → IfSome (refine_eq a b) (AreCommonMembers a b)
common_row a b = row_of a b (refine_eq a b) (refine_eq_below a b) (refine_eq_right a b) (refine_eq_sound a b) (refine_eq_alone a b)

none_of : (a b : Congruence) (n : ℤ) (o : Option Congruence) → o ≡ None → IsSomeAnd o (λ c. Has congruences c n) → ⊥
none_of a b n None e h = absurd h
none_of a b n (Some r) e h = cc

pub common_none : (a b : Congruence) → refine_eq a b ≡ None → (n : ℤ) → AreCommon a b n → ⊥
common_none a b f n h = none_of a b n (refine_eq a b) f (refine_eq_sound a b n h)
