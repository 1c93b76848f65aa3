use Rattle.std.proofs.Common.{arith, ◌∙◌, ap}
use Rattle.std.proofs.Math.Path.{ap₂}
use Rattle.std.proofs.lemmas.Int.{ints}
use Rattle.viper_word.specs.Divisors.{gcd}
use Rattle.std.specs.Prelude.{ℕ}
use Rattle.congruence_dom.specs.Congruences.{make}
use Rattle.congruence_dom.proofs.congruence.CongruenceNumDomain.neg.Goals as goal

pub returns : goal.returns
returns c =
    let a = c.args.self.now.form in
    c.make.ensures ∙ ap₂ make (c.within_word.ensures.value ∙ ap (λ (m : ℕ). gcd m 4294967296) c.divisor.ensures) (omega (arith, ints))
