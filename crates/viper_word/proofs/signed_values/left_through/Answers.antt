use Rattle.std.proofs.Common.{arith, ◌≡◌, ◌+ℤ◌, ap, sym, subst, ◌∙◌, Bool}
use Rattle.std.proofs.lemmas.Int.{ints}
use Rattle.viper_word.specs.Signed.{shifted_left, wrapped}
use Rattle.viper_word.proofs.SignedLemmas.{shifted_left_in_w}
use Rattle.viper_word.proofs.SignedCode.{outer_is, left_set_code, left_clear_code}
use Rattle.viper_word.proofs.signed_values.left_through.Goals as goal

pub returns-then-b-clause-value : goal.returns-then-b-clause-value
returns-then-b-clause-value c =
    let w = c.wrapped_sum-doubled.ensures.in_range in
    let d : c.wrapped_sum-doubled.result ≡ wrapped (c.args.x +ℤ c.args.x) = c.wrapped_sum-doubled.ensures.value ∙ ap wrapped (omega (arith, ints)) in
    let e = left_set_code c.args.x c.wrapped_sum-doubled.result _ c.wrapped_sum.result d (omega (arith, ints)) c.wrapped_sum.ensures.value in
    outer_is c.wrapped_sum.result (shifted_left c.args.b c.args.x) (subst (λ (b : Bool). c.wrapped_sum.result ≡ shifted_left b c.args.x) (sym c.if-b.true) e) (shifted_left_in_w c.args.b c.args.x)

pub returns-else-b-clause-value : goal.returns-else-b-clause-value
returns-else-b-clause-value c =
    let e = left_clear_code c.args.x _ c.wrapped_sum-doubled.result (omega (arith, ints)) c.wrapped_sum-doubled.ensures.value in
    outer_is c.wrapped_sum-doubled.result (shifted_left c.args.b c.args.x) (subst (λ (b : Bool). c.wrapped_sum-doubled.result ≡ shifted_left b c.args.x) (sym c.if-b.false) e) (shifted_left_in_w c.args.b c.args.x)
