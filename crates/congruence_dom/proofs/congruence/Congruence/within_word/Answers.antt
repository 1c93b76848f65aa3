use Rattle.std.proofs.Common.{arith}
use Rattle.std.proofs.Math.Nat.{le_of_dvd}
use Rattle.viper_word.proofs.Gcd.{gcd_right}
use Rattle.congruence_dom.proofs.congruence.Congruence.within_word.Goals as goal

pub returns-clause-small : goal.returns-clause-small
returns-clause-small c =
    let e = c.gcd_of.ensures in
    let l = le_of_dvd (omega arith) (gcd_right c.args.m 4294967296) in
    omega arith
