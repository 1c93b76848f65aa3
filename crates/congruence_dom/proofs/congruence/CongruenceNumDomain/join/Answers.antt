use Rattle.std.proofs.Common.{arith, ◌∙◌, ◌≡◌, to_z, of_z, w64}
use Rattle.std.proofs.Math.Path.{ap₂}
use Rattle.std.proofs.lemmas.Int.{ints}
use Rattle.congruence_dom.specs.Residues.{reduce, join_modulus}
use Rattle.congruence_dom.specs.evidence.Forms.{join_form}
use Rattle.congruence_dom.specs.Congruences.{join}
use Rattle.congruence_dom.specs.evidence.CongruenceOrder.{same_parts}
use Rattle.congruence_dom.proofs.CongruenceCode.{form_at}
use Rattle.congruence_dom.proofs.congruence.CongruenceNumDomain.join.Goals as goal

pub invariant_of-result : goal.invariant_of-result
invariant_of-result c =
    let s : to_z w64 (of_z w64 c.args.self.now.residue) ≡ c.args.self.now.residue = omega (arith, ints) in
    let f : c.reduce.result ≡ reduce (join_modulus c.args.self.now c.args.other.now) c.args.self.now.residue = c.reduce.ensures.value ∙ ap₂ reduce c.join_modulus-modulus.ensures.value s in
    record { form = form_at _ _ _ _ (join_form c.args.self.now c.args.other.now) (omega (arith, ints)) (omega (arith, ints)) }

pub returns : goal.returns
returns c =
    let s : to_z w64 (of_z w64 c.args.self.now.residue) ≡ c.args.self.now.residue = omega (arith, ints) in
    let f : c.reduce.result ≡ reduce (join_modulus c.args.self.now c.args.other.now) c.args.self.now.residue = c.reduce.ensures.value ∙ ap₂ reduce c.join_modulus-modulus.ensures.value s in
    same_parts _ (join c.args.self.now c.args.other.now) (omega (arith, ints)) (omega (arith, ints))
