use Rattle.std.proofs.Common.{arith, ◌≡◌, ap, ℤ, pos, to_z, of_z, w64, ◌∙◌}
use Rattle.std.proofs.lemmas.Int.{ints}
use Rattle.std.specs.Int.{int_div_euclid}
use Rattle.viper_word.proofs.SignedCode.{half_code}
use Rattle.viper_word.proofs.signed_values.half.Goals as goal

pub returns : goal.returns
returns c =
    let x : to_z w64 (of_z w64 c.args.x) ≡ c.args.x = omega (arith, ints) in
    let r : to_z w64 (of_z w64 c.div_euclid.result) ≡ c.div_euclid.result = omega (arith, ints) in
    r ∙ c.div_euclid.ensures ∙ ap (λ (z : ℤ). int_div_euclid z (pos 2)) x ∙ half_code c.args.x
