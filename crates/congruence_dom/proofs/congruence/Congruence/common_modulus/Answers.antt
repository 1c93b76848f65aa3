use Rattle.std.proofs.Common.{arith, ◌≡◌, ◌∙◌}
use Rattle.std.proofs.Math.Path.{ap₂}
use Rattle.congruence_dom.specs.Residues.{mod_of}
use Rattle.viper_word.specs.Divisors.{gcd}
use Rattle.congruence_dom.proofs.CongruenceCode.{gcd_small}
use Rattle.congruence_dom.proofs.congruence.Congruence.common_modulus.Goals as goal

pub returns-clause-small : goal.returns-clause-small
returns-clause-small c =
    let g = gcd_small c.args.self.now c.args.other.now in
    let e : c.gcd_of.result ≡ gcd (mod_of c.args.self.now) (mod_of c.args.other.now) = c.gcd_of.ensures ∙ ap₂ gcd c.divisor.ensures c.divisor-2.ensures in
    omega arith
