use Rattle.std.proofs.Common.{arith}
use Rattle.std.proofs.lemmas.Int.{ints}
use Rattle.congruence_dom.proofs.CongruenceCode.{constant_is}
use Rattle.congruence_dom.proofs.congruence.Congruence.only.Goals as goal

pub returns : goal.returns
returns c = constant_is _ c.args.n (omega (arith, ints)) (omega (arith, ints)) c.requires
