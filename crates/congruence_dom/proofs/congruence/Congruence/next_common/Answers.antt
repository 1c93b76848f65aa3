use Rattle.std.proofs.Common.{arith, ◌≡◌, subst, ℤ, to_z, of_z, w64}
use Rattle.std.proofs.lemmas.Int.{ints}
use Rattle.congruence_dom.specs.evidence.CommonMembers.{IsNextCommon}
use Rattle.congruence_dom.proofs.CommonCode.{next_swapped}
use Rattle.congruence_dom.proofs.congruence.Congruence.next_common.Goals as goal

pub returns-then-divisor-eq0-2 : goal.returns-then-divisor-eq0-2
returns-then-divisor-eq0-2 c =
    let n : to_z w64 (of_z w64 c.args.n) ≡ c.args.n = omega (arith, ints) in
    subst (λ (z : ℤ). IsNextCommon c.args.self.now c.args.other.now z c.next_of_one-then-divisor-eq0-2.result) n
    (next_swapped c.args.self.now c.args.other.now (to_z w64 (of_z w64 c.args.n)) c.next_of_one-then-divisor-eq0-2.result c.next_of_one-then-divisor-eq0-2.ensures)
