use Rattle.std.proofs.Common.{arith, ◌≡◌, ◌∙◌, ap, sym}
use Rattle.std.proofs.Math.Path.{ap₂}
use Rattle.std.proofs.lemmas.Int.{ints}
use Rattle.viper_word.specs.Signed.{signed_and}
use Rattle.congruence_dom.specs.Congruences.{constant, no_row}
use Rattle.congruence_dom.proofs.CongruenceCode.{then_exact}
use Rattle.congruence_dom.proofs.congruence.CongruenceNumDomain.bit_and.Goals as goal

pub returns-then-are_single : goal.returns-then-are_single
returns-then-are_single c =
    let a = c.args.self.now.form in
    let b = c.args.other.now.form in
    let w = c.and.ensures.in_range in
    let z : c.and.result ≡ signed_and c.args.self.now.residue c.args.other.now.residue = c.and.ensures.value ∙ ap₂ signed_and (omega (arith, ints)) (omega (arith, ints)) in
    then_exact signed_and no_row c.args.self.now c.args.other.now c.only.result c.and.result (sym c.are_single.ensures ∙ c.if-are_single.true) (c.only.ensures ∙ ap constant (omega (arith, ints))) z w
