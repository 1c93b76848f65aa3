use Rattle.std.proofs.Common.{arith, ◌≡◌, to_z, of_z, w64}
use Rattle.std.proofs.lemmas.Int.{ints}
use Rattle.viper_word.proofs.SignedCode.{sum_code}
use Rattle.viper_word.proofs.signed_values.wrapped_sum.Goals as goal

pub returns-clause-value : goal.returns-clause-value
returns-clause-value c =
    let x : to_z w64 (of_z w64 c.args.x) ≡ c.args.x = omega (arith, ints) in
    let y : to_z w64 (of_z w64 c.args.y) ≡ c.args.y = omega (arith, ints) in
    sum_code c.args.x c.args.y _ _ c.requires.first c.requires.second x y
