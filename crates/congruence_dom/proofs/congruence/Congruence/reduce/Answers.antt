use Rattle.std.proofs.Common.{arith, sym, ◌∙◌, ◌≡◌, pos, to_z, of_z, w64}
use Rattle.std.proofs.Math.Path.{ap₂}
use Rattle.std.proofs.lemmas.Int.{ints}
use Rattle.std.specs.Int.{int_rem_euclid}
use Rattle.congruence_dom.specs.evidence.Forms.{reduce_else, reduce_zero}
use Rattle.congruence_dom.proofs.congruence.Congruence.reduce.Goals as goal

pub returns-then-m-eq0-clause-value : goal.returns-then-m-eq0-clause-value
returns-then-m-eq0-clause-value c = let f = reduce_zero c.args.m c.args.z c.if-m-eq0.true in omega (arith, ints)

pub returns-else-m-eq0-clause-value : goal.returns-else-m-eq0-clause-value
returns-else-m-eq0-clause-value c =
    let z : to_z w64 (of_z w64 c.args.z) ≡ c.args.z = omega (arith, ints) in
    let m : to_z w64 c.args.m ≡ pos c.args.m = omega (arith, ints) in
    let r : to_z w64 (of_z w64 c.rem_euclid.result) ≡ c.rem_euclid.result = omega (arith, ints) in
    r ∙ c.rem_euclid.ensures.value ∙ ap₂ int_rem_euclid z m ∙ sym (reduce_else c.args.m c.args.z c.if-m-eq0.false)
