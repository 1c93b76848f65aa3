use Rattle.std.proofs.Common.{arith}
use Rattle.std.proofs.lemmas.Int.{ints}
use Rattle.viper_word.proofs.RangeLemmas.{range_small}
use Rattle.congruence_dom.proofs.congruence.CongruenceNumDomain.span.Goals as goal

pub make-requires-clause-small : goal.make-requires-clause-small
make-requires-clause-small c = let r = range_small c.args.lo c.args._hi c.args.modulus c.requires in let e = c.unsigned_abs.ensures.value in omega (arith, ints)
