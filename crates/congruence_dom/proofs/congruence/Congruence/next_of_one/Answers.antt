use Rattle.std.proofs.Common.{arith, ◌≡◌, ap, sym, subst, ℤ, to_z, of_z, w64, Option}
use Rattle.std.proofs.lemmas.Int.{ints}
use Rattle.std.specs.Prelude.{None, Some}
use Rattle.congruence_dom.specs.evidence.CommonMembers.{IsNextCommon}
use Rattle.congruence_dom.proofs.CommonCode.{one_none, one_missed, one_found, one_apart}
use Rattle.congruence_dom.proofs.congruence.Congruence.next_of_one.Goals as goal
use Rattle.congruence_dom.proofs.CongruenceCode.{least_signed_of}

pub returns-in_err-only : goal.returns-in_err-only
returns-in_err-only c =
    let n : to_z w64 (of_z w64 c.args.n) ≡ c.args.n = omega (arith, ints) in
    subst (λ (o : Option ℤ). IsNextCommon c.args.self.now c.args.other.now c.args.n o) (sym c.from_residual.ensures)
    (subst (λ (z : ℤ). IsNextCommon c.args.self.now c.args.other.now z None) n (one_none c.args.self.now c.args.other.now _ c.in_err-only.ensures))

pub returns-in_err-found : goal.returns-in_err-found
returns-in_err-found c =
    let n : to_z w64 (of_z w64 c.args.n) ≡ c.args.n = omega (arith, ints) in
    let w = least_signed_of c.args.self.now (to_z w64 (of_z w64 c.args.n)) c.in_ok-only.only c.in_ok-only.ensures in
    subst (λ (o : Option ℤ). IsNextCommon c.args.self.now c.args.other.now c.args.n o) (sym c.from_residual-in_err-found.ensures)
    (subst (λ (z : ℤ). IsNextCommon c.args.self.now c.args.other.now z None) n
    (one_missed c.args.self.now c.args.other.now (to_z w64 (of_z w64 c.args.n)) c.in_ok-only.only (to_z w64 (of_z w64 c.in_ok-only.only)) c.requires c.in_ok-only.ensures (omega (arith, ints)) c.in_err-found.ensures))

pub returns-then-found-only : goal.returns-then-found-only
returns-then-found-only c =
    let n : to_z w64 (of_z w64 c.args.n) ≡ c.args.n = omega (arith, ints) in
    let w = least_signed_of c.args.self.now (to_z w64 (of_z w64 c.args.n)) c.in_ok-only.only c.in_ok-only.ensures in
    let v = least_signed_of c.args.other.now (to_z w64 (of_z w64 c.in_ok-only.only)) c.in_ok-found.found c.in_ok-found.ensures in
    let k : c.in_ok-only.only ≡ to_z w64 (of_z w64 c.in_ok-only.only) = omega (arith, ints) in
    let e = c.if-found-only.true in
    subst (λ (z : ℤ). IsNextCommon c.args.self.now c.args.other.now c.args.n (Some z)) k
    (subst (λ (z : ℤ). IsNextCommon c.args.self.now c.args.other.now z (Some c.in_ok-only.only)) n
    (one_found c.args.self.now c.args.other.now (to_z w64 (of_z w64 c.args.n)) c.in_ok-only.only (to_z w64 (of_z w64 c.in_ok-only.only)) c.in_ok-found.found c.requires c.in_ok-only.ensures (omega (arith, ints)) c.in_ok-found.ensures (omega (arith, ints))))

pub returns-else-found-only : goal.returns-else-found-only
returns-else-found-only c =
    let n : to_z w64 (of_z w64 c.args.n) ≡ c.args.n = omega (arith, ints) in
    let w = least_signed_of c.args.self.now (to_z w64 (of_z w64 c.args.n)) c.in_ok-only.only c.in_ok-only.ensures in
    subst (λ (z : ℤ). IsNextCommon c.args.self.now c.args.other.now z None) n
    (one_apart c.args.self.now c.args.other.now (to_z w64 (of_z w64 c.args.n)) c.in_ok-only.only (to_z w64 (of_z w64 c.in_ok-only.only)) c.in_ok-found.found c.requires c.in_ok-only.ensures (omega (arith, ints)) c.in_ok-found.ensures
    (λ e. c.if-found-only.false (ap (of_z w64) e)))
