-- Inclusion of values is inclusion of their members.
use Rattle.std.specs.Prelude.{◌≡◌, ℕ, ◌<◌, ℤ, pos, ◌+ℤ◌, ◌-ℤ◌, ◌≤ℤ◌, ◌<ℤ◌, int_le, nat_eq, true, false}
use Rattle.std.specs.Int.{◌∣◌}
use Rattle.std.proofs.Common.{subst, sym, arith, ⊎_elim}
use Rattle.std.proofs.Math.Nat.{dvd_refl, dvd-zero, le_of_dvd}
use Rattle.std.proofs.lemmas.Int.{ints}
use Rattle.std.proofs.lemmas.Bool.{cases_Bool, eqb-true}
use Rattle.viper_word.specs.Words.{IsSigned}
use Rattle.num_domain.specs.Domain.{Has, Below}
use Rattle.num_domain.specs.evidence.PairLaws.{Both, both_has, has_both, both_le}
use Rattle.viper_word.proofs.Integers.{le_true, le_false}
use Rattle.interval_dom.specs.Intervals.{intervals}
use Rattle.interval_dom.specs.evidence.IntervalOrder.{has_ends, ends_has, ends_below}
use Rattle.viper_word.specs.Divisors.{Divides}
use Rattle.viper_word.proofs.Multiples.{Divides-sum, Divides-difference, Divides_trans}
use Rattle.congruence_dom.specs.Residues.{mod_of}
use Rattle.congruence_dom.specs.evidence.Forms.{positive}
use Rattle.congruence_dom.specs.Congruences.{congruences}
use Rattle.congruence_dom.specs.evidence.CongruenceOrder.{has_parts, parts_has, parts_below}
use Rattle.val_dom.specs.Vals.{vals}
use Rattle.val_dom.specs.declared.val.Val.{Val}

member_of : (a : Val) (n : ℤ) → a.pair.left.lo ≤ℤ n → n ≤ℤ a.pair.left.hi → Has congruences a.pair.right n → Has vals a n
member_of a n p q h = record { holds = (both_has intervals congruences a.pair n (ends_has a.pair.left n p q) h).holds }

parts_of : (a : Val) (n : ℤ) → Has vals a n → Both (Has intervals a.pair.left n) (Has congruences a.pair.right n)
parts_of a n h = has_both intervals congruences a.pair n (record { holds = h.holds })

low_of : (a : Val) → Has vals a a.pair.left.lo
low_of a = let o = a.pair.left.ends.ordered in member_of a a.pair.left.lo (omega (arith, ints)) o a.normal.low_member

high_of : (a : Val) → Has vals a a.pair.left.hi
high_of a = let o = a.pair.left.ends.ordered in member_of a a.pair.left.hi o (omega (arith, ints)) a.normal.high_member

-- the second member, where there is one, is the first plus the modulus
next_of : (a : Val) → 0 < mod_of a.pair.right → a.pair.left.lo <ℤ a.pair.left.hi → Has vals a (a.pair.left.lo +ℤ pos (mod_of a.pair.right))
next_of a h l =
    let m = mod_of a.pair.right in
    let lo = has_parts a.pair.right a.pair.left.lo a.normal.low_member in
    let hi = has_parts a.pair.right a.pair.left.hi a.normal.high_member in
    let gap : Divides (mod_of a.pair.right) (a.pair.left.hi -ℤ a.pair.left.lo) = Divides-difference (mod_of a.pair.right) (a.pair.left.hi -ℤ a.pair.right.residue) (a.pair.left.lo -ℤ a.pair.right.residue) (a.pair.left.hi -ℤ a.pair.left.lo) hi.1 lo.1 (omega (arith, ints)) in
    let d = le_of_dvd (omega (arith, ints)) gap.holds in
    let wl = lo.0.low in
    let wh = hi.0.high in
    let w : IsSigned (a.pair.left.lo +ℤ pos (mod_of a.pair.right)) = record { low = omega (arith, ints); high = omega (arith, ints) } in
    let whole : Divides (mod_of a.pair.right) (pos (mod_of a.pair.right)) = record { holds = dvd_refl (mod_of a.pair.right) } in
    member_of a (a.pair.left.lo +ℤ pos (mod_of a.pair.right)) (omega (arith, ints)) (omega (arith, ints))
    (parts_has a.pair.right (a.pair.left.lo +ℤ pos (mod_of a.pair.right)) w (Divides-sum (mod_of a.pair.right) (a.pair.left.lo -ℤ a.pair.right.residue) (pos (mod_of a.pair.right)) (a.pair.left.lo +ℤ pos (mod_of a.pair.right) -ℤ a.pair.right.residue) lo.1 whole (omega (arith, ints))))

-- the modulus of b divides that of a, where b has the first two members of a
modulus_divides : (a b : Val) → ((n : ℤ) → Has vals a n → Has vals b n) → mod_of b.pair.right ∣ mod_of a.pair.right
modulus_divides a b f =
    let m = mod_of a.pair.right in
    ⊎_elim
    (λ (e : nat_eq (mod_of a.pair.right) 0 ≡ true). subst (λ (k : ℕ). mod_of b.pair.right ∣ k) (sym (eqb-true (mod_of a.pair.right) 0 e)) (dvd-zero (mod_of b.pair.right)))
    (λ (e : nat_eq (mod_of a.pair.right) 0 ≡ false).
    let h = positive (mod_of a.pair.right) e in
    let o = a.pair.left.ends.ordered in
    let apart : a.pair.left.lo <ℤ a.pair.left.hi = ⊎_elim (λ (t : int_le a.pair.left.hi a.pair.left.lo ≡ true). let l = le_true a.pair.left.hi a.pair.left.lo t in let z = a.normal.single (omega (arith, ints)) in absurd (omega (arith, ints)))
    (λ (t : int_le a.pair.left.hi a.pair.left.lo ≡ false). le_false a.pair.left.hi a.pair.left.lo t) (cases_Bool (int_le a.pair.left.hi a.pair.left.lo)) in
    let x = (has_parts b.pair.right a.pair.left.lo (parts_of b a.pair.left.lo (f a.pair.left.lo (low_of a))).right).1 in
    let y = (has_parts b.pair.right (a.pair.left.lo +ℤ pos (mod_of a.pair.right)) (parts_of b (a.pair.left.lo +ℤ pos (mod_of a.pair.right)) (f (a.pair.left.lo +ℤ pos (mod_of a.pair.right)) (next_of a h apart))).right).1 in
    let d : Divides (mod_of b.pair.right) (pos (mod_of a.pair.right)) = Divides-difference (mod_of b.pair.right) (a.pair.left.lo +ℤ pos (mod_of a.pair.right) -ℤ b.pair.right.residue) (a.pair.left.lo -ℤ b.pair.right.residue) (pos (mod_of a.pair.right)) y x (omega (arith, ints)) in
    d.holds)
    (cases_Bool (nat_eq (mod_of a.pair.right) 0))

pub members_below : (a b : Val) → ((n : ℤ) → Has vals a n → Has vals b n) → Below vals a b
members_below a b f =
    let lo = parts_of b a.pair.left.lo (f a.pair.left.lo (low_of a)) in
    let hi = parts_of b a.pair.left.hi (f a.pair.left.hi (high_of a)) in
    let l = (has_ends b.pair.left a.pair.left.lo lo.left).low in
    let h = (has_ends b.pair.left a.pair.left.hi hi.left).high in
    let m = modulus_divides a b f in
    let x = (has_parts b.pair.right a.pair.left.lo lo.right).1 in
    let y = (has_parts a.pair.right a.pair.left.lo a.normal.low_member).1 in
    let r : Divides (mod_of b.pair.right) (a.pair.right.residue -ℤ b.pair.right.residue) = Divides-difference (mod_of b.pair.right) (a.pair.left.lo -ℤ b.pair.right.residue) (a.pair.left.lo -ℤ a.pair.right.residue) (a.pair.right.residue -ℤ b.pair.right.residue) x (Divides_trans (mod_of b.pair.right) (mod_of a.pair.right) (a.pair.left.lo -ℤ a.pair.right.residue) m y) (omega (arith, ints)) in
    record { holds = (both_le intervals congruences a.pair b.pair (ends_below a.pair.left b.pair.left l h) (parts_below a.pair.right b.pair.right m r)).holds }
