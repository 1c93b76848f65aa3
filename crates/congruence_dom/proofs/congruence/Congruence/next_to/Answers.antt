use Rattle.std.proofs.Common.{arith, ap, ◌∙◌, ◌≡◌, ℤ, ◌-ℤ◌, to_z, of_z, w64}
use Rattle.std.proofs.lemmas.Int.{ints}
use Rattle.congruence_dom.specs.Residues.{reduce}
use Rattle.congruence_dom.proofs.congruence.Congruence.next_to.Goals as goal

pub returns : goal.returns
returns c =
    let e : to_z w64 (of_z w64 (to_z w64 (of_z w64 c.args.n) -ℤ to_z w64 (of_z w64 c.args.z))) ≡ c.args.n -ℤ c.args.z = omega (arith, ints) in
    let f : c.reduce.result ≡ reduce c.args.m (c.args.n -ℤ c.args.z) = c.reduce.ensures.value ∙ ap (reduce c.args.m) e in
    let g : to_z w64 (of_z w64 (to_z w64 (of_z w64 c.args.n) -ℤ to_z w64 (of_z w64 c.reduce.result))) ≡ c.args.n -ℤ c.reduce.result = omega (arith, ints) in
    g ∙ ap (λ (x : ℤ). c.args.n -ℤ x) f
