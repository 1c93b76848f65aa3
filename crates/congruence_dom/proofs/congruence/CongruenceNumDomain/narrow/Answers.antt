use Rattle.std.proofs.Common.{arith, ◌≡◌, to_z, of_z, w64}
use Rattle.std.proofs.lemmas.Int.{ints}
use Rattle.congruence_dom.proofs.CongruenceCode.{least_signed_of}
use Rattle.congruence_dom.proofs.congruence.CongruenceNumDomain.narrow.Goals as goal

pub make-requires-clause-z_low : goal.make-requires-clause-z_low
make-requires-clause-z_low c =
    let lo : to_z w64 (of_z w64 c.args.lo) ≡ c.args.lo = omega (arith, ints) in
    let w = least_signed_of c.args.self.now (to_z w64 (of_z w64 c.args.lo)) c.in_ok-from.from c.in_ok-from.ensures in
    omega (arith, ints)

pub make-requires-clause-z_high : goal.make-requires-clause-z_high
make-requires-clause-z_high c =
    let w = least_signed_of c.args.self.now (to_z w64 (of_z w64 c.args.lo)) c.in_ok-from.from c.in_ok-from.ensures in
    omega (arith, ints)
