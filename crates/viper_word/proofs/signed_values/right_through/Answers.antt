use Rattle.std.proofs.Common.{arith, true, false, ◌≡◌, ap, sym, subst, ◌∙◌, Bool, ◌+◌, ◌/◌, to_z, of_z, w32, w64}
use Rattle.std.proofs.lemmas.Int.{ints}
use Rattle.viper_word.specs.Signed.{shifted_right}
use Rattle.viper_word.proofs.SignedLemmas.{shifted_right_in_w}
use Rattle.viper_word.proofs.SignedCode.{twice_outer, right_code}
use Rattle.viper_word.proofs.signed_values.right_through.Goals as goal

pub returns-then-b-clause-value : goal.returns-then-b-clause-value
returns-then-b-clause-value c =
    let x : to_z w32 (of_z w32 (to_z w64 (of_z w64 c.args.x))) ≡ c.args.x = omega (arith, ints) in
    let e = right_code true c.args.x _ c.cast_signed.result c.cast_unsigned-low.result c.cast_unsigned-low.ensures x c.cast_signed.ensures in
    twice_outer c.cast_signed.result (shifted_right c.args.b c.args.x) (subst (λ (b : Bool). c.cast_signed.result ≡ shifted_right b c.args.x) (sym c.if-b.true) e) (shifted_right_in_w c.args.b c.args.x c.requires)

pub returns-else-b-clause-value : goal.returns-else-b-clause-value
returns-else-b-clause-value c =
    let x : to_z w32 (of_z w32 (to_z w64 (of_z w64 c.args.x))) ≡ c.args.x = omega (arith, ints) in
    let n : c.cast_unsigned-low.result / 2 ≡ c.cast_unsigned-low.result / 2 + 0 = omega arith in
    let e = right_code false c.args.x _ c.cast_signed-else-b.result c.cast_unsigned-low.result c.cast_unsigned-low.ensures x (c.cast_signed-else-b.ensures ∙ ap (to_z w32) n) in
    twice_outer c.cast_signed-else-b.result (shifted_right c.args.b c.args.x) (subst (λ (b : Bool). c.cast_signed-else-b.result ≡ shifted_right b c.args.x) (sym c.if-b.false) e) (shifted_right_in_w c.args.b c.args.x c.requires)
