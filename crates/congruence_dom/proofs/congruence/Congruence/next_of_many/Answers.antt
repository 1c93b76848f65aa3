use Rattle.std.proofs.Common.{arith, ◌≡◌, ◌+ℤ◌, ◌-ℤ◌, ap, sym, subst, ℤ, pos, to_z, of_z, w64, Option}
use Rattle.std.proofs.lemmas.Int.{ints}
use Rattle.std.specs.Prelude.{None, Some, ℕ, ◌*◌, nat_abs}
use Rattle.congruence_dom.specs.Residues.{mod_of}
use Rattle.congruence_dom.specs.evidence.CommonMembers.{IsNextCommon}
use Rattle.congruence_dom.proofs.CommonCode.{gap_code, fits_small, solved, unsolved, one_none, many_unsolved, many_found, many_beyond}
use Rattle.congruence_dom.proofs.congruence.Congruence.next_of_many.Goals as goal
use Rattle.congruence_dom.proofs.CongruenceCode.{least_signed_of}

pub returns-in_err-from : goal.returns-in_err-from
returns-in_err-from c =
    let n : to_z w64 (of_z w64 c.args.n) ≡ c.args.n = omega (arith, ints) in
    subst (λ (o : Option ℤ). IsNextCommon c.args.self.now c.args.other.now c.args.n o) (sym c.from_residual.ensures)
    (subst (λ (z : ℤ). IsNextCommon c.args.self.now c.args.other.now z None) n (one_none c.args.self.now c.args.other.now _ c.in_err-from.ensures))

pub overflow_sub-other : goal.overflow_sub-other
overflow_sub-other c =
    let w = least_signed_of c.args.self.now (to_z w64 (of_z w64 c.args.n)) c.in_ok-from.from c.in_ok-from.ensures in
    let l = w.low in let h = w.high in
    let f = c.args.other.now.form in
    fits_small (to_z w64 (of_z w64 c.args.other.now.residue) -ℤ to_z w64 (of_z w64 c.in_ok-from.from)) (omega (arith, ints)) (omega (arith, ints))

pub returns-in_err-steps : goal.returns-in_err-steps
returns-in_err-steps c =
    let n : to_z w64 (of_z w64 c.args.n) ≡ c.args.n = omega (arith, ints) in
    let a = c.args.self.now in
    let b = c.args.other.now in
    let gap = nat_abs (to_z w64 (of_z w64 c.rem_euclid-gap.result)) in
    subst (λ (o : Option ℤ). IsNextCommon c.args.self.now c.args.other.now c.args.n o) (sym c.from_residual-in_err-steps.ensures)
    (subst (λ (z : ℤ). IsNextCommon c.args.self.now c.args.other.now z None) n
    (many_unsolved a b (to_z w64 (of_z w64 c.args.n)) c.in_ok-from.from gap c.in_ok-from.ensures (gap_code c.args.other.now c.in_ok-from.from c.rem_euclid-gap.result c.divisor-size.result (least_signed_of c.args.self.now (to_z w64 (of_z w64 c.args.n)) c.in_ok-from.from c.in_ok-from.ensures) c.requires.second c.divisor-size.ensures c.rem_euclid-gap.ensures.value)
    (λ k s. c.in_err-steps.ensures.least k (unsolved a b c.divisor.result c.divisor-size.result gap k c.divisor.ensures c.divisor-size.ensures s))))

pub returns-then-distance-room : goal.returns-then-distance-room
returns-then-distance-room c =
    let n : to_z w64 (of_z w64 c.args.n) ≡ c.args.n = omega (arith, ints) in
    let a = c.args.self.now in
    let b = c.args.other.now in
    let gap = nat_abs (to_z w64 (of_z w64 c.rem_euclid-gap.result)) in
    let w = least_signed_of c.args.self.now (to_z w64 (of_z w64 c.args.n)) c.in_ok-from.from c.in_ok-from.ensures in
    let l = w.low in let h = w.high in
    let e : c.divisor-2.result * c.in_ok-steps.steps ≡ mod_of c.args.self.now * c.in_ok-steps.steps = ap (λ (x : ℕ). x * c.in_ok-steps.steps) c.divisor-2.ensures in
    let size = c.abs_diff-room.ensures in
    let room = c.if-distance-room.true in
    subst (λ (z : ℤ). IsNextCommon c.args.self.now c.args.other.now z (Some (to_z w64 (of_z w64 (to_z w64 (of_z w64 c.in_ok-from.from) +ℤ to_z w64 (c.divisor-2.result * c.in_ok-steps.steps)))))) n
    (many_found a b (to_z w64 (of_z w64 c.args.n)) c.in_ok-from.from gap c.in_ok-steps.steps c.in_ok-from.ensures (gap_code c.args.other.now c.in_ok-from.from c.rem_euclid-gap.result c.divisor-size.result (least_signed_of c.args.self.now (to_z w64 (of_z w64 c.args.n)) c.in_ok-from.from c.in_ok-from.ensures) c.requires.second c.divisor-size.ensures c.rem_euclid-gap.ensures.value)
    (solved a b c.divisor.result c.divisor-size.result gap c.in_ok-steps.steps c.divisor.ensures c.divisor-size.ensures c.in_ok-steps.ensures.solution)
    (λ j s. c.in_ok-steps.ensures.least j (unsolved a b c.divisor.result c.divisor-size.result gap j c.divisor.ensures c.divisor-size.ensures s))
    (to_z w64 (of_z w64 (to_z w64 (of_z w64 c.in_ok-from.from) +ℤ to_z w64 (c.divisor-2.result * c.in_ok-steps.steps)))) (omega (arith, ints)) (omega (arith, ints)))

pub returns-else-distance-room : goal.returns-else-distance-room
returns-else-distance-room c =
    let n : to_z w64 (of_z w64 c.args.n) ≡ c.args.n = omega (arith, ints) in
    let a = c.args.self.now in
    let b = c.args.other.now in
    let gap = nat_abs (to_z w64 (of_z w64 c.rem_euclid-gap.result)) in
    let w = least_signed_of c.args.self.now (to_z w64 (of_z w64 c.args.n)) c.in_ok-from.from c.in_ok-from.ensures in
    let l = w.low in let h = w.high in
    let e : c.divisor-2.result * c.in_ok-steps.steps ≡ mod_of c.args.self.now * c.in_ok-steps.steps = ap (λ (x : ℕ). x * c.in_ok-steps.steps) c.divisor-2.ensures in
    let size = c.abs_diff-room.ensures in
    let room = c.if-distance-room.false in
    subst (λ (z : ℤ). IsNextCommon c.args.self.now c.args.other.now z None) n
    (many_beyond a b (to_z w64 (of_z w64 c.args.n)) c.in_ok-from.from gap c.in_ok-steps.steps c.in_ok-from.ensures (gap_code c.args.other.now c.in_ok-from.from c.rem_euclid-gap.result c.divisor-size.result (least_signed_of c.args.self.now (to_z w64 (of_z w64 c.args.n)) c.in_ok-from.from c.in_ok-from.ensures) c.requires.second c.divisor-size.ensures c.rem_euclid-gap.ensures.value)
    (λ j s. c.in_ok-steps.ensures.least j (unsolved a b c.divisor.result c.divisor-size.result gap j c.divisor.ensures c.divisor-size.ensures s)) (omega (arith, ints)))

pub overflow_cast-result : goal.overflow_cast-result
overflow_cast-result c =
    let w = least_signed_of c.args.self.now (to_z w64 (of_z w64 c.args.n)) c.in_ok-from.from c.in_ok-from.ensures in
    let l = w.low in let h = w.high in
    let size = c.abs_diff-room.ensures in
    let room = c.if-distance-room.true in
    fits_small (pos (c.divisor-2.result * c.in_ok-steps.steps)) (omega (arith, ints)) (omega (arith, ints))

pub overflow_add-result : goal.overflow_add-result
overflow_add-result c =
    let w = least_signed_of c.args.self.now (to_z w64 (of_z w64 c.args.n)) c.in_ok-from.from c.in_ok-from.ensures in
    let l = w.low in let h = w.high in
    let size = c.abs_diff-room.ensures in
    let room = c.if-distance-room.true in
    fits_small (to_z w64 (of_z w64 c.in_ok-from.from) +ℤ to_z w64 (c.divisor-2.result * c.in_ok-steps.steps)) (omega (arith, ints)) (omega (arith, ints))
