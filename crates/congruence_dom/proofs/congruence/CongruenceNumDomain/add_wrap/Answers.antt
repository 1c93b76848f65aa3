use Rattle.std.proofs.Common.{arith, ◌∙◌}
use Rattle.std.proofs.Math.Path.{ap₂}
use Rattle.std.proofs.lemmas.Int.{ints}
use Rattle.congruence_dom.specs.Congruences.{make}
use Rattle.congruence_dom.proofs.congruence.CongruenceNumDomain.add_wrap.Goals as goal

pub returns : goal.returns
returns c =
    let a = c.args.self.now.form in
    let b = c.args.other.now.form in
    c.make.ensures ∙ ap₂ make c.wrapped_modulus.ensures.value (omega (arith, ints))
