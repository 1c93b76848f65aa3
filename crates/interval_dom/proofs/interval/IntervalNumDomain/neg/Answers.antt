use Rattle.std.proofs.Common.{arith, ◌≡◌, ◌∙◌, neg_ℤ, ap, sym}
use Rattle.std.proofs.Math.Path.{ap₂}
use Rattle.std.proofs.lemmas.Int.{ints}
use Rattle.viper_word.specs.Signed.{wrapped}
use Rattle.interval_dom.specs.Intervals.{constant, unwrapped}
use Rattle.interval_dom.proofs.IntervalCode.{then_exact1, else_exact1}
use Rattle.interval_dom.proofs.interval.IntervalNumDomain.neg.Goals as goal

pub returns-then-is_single : goal.returns-then-is_single
returns-then-is_single c =
    let a = c.args.self.now.ends in
    let w = c.wrapped_difference.ensures.in_range in
    let z : c.wrapped_difference.result ≡ wrapped (neg_ℤ c.args.self.now.lo) = c.wrapped_difference.ensures.value ∙ ap wrapped (omega (arith, ints)) in
    then_exact1 (λ x. wrapped (neg_ℤ x)) (λ a. unwrapped (neg_ℤ a.hi) (neg_ℤ a.lo)) c.args.self.now c.only.result c.wrapped_difference.result (sym c.is_single.ensures ∙ c.if-is_single.true) (c.only.ensures ∙ ap constant (omega (arith, ints))) z w

pub returns-else-is_single : goal.returns-else-is_single
returns-else-is_single c =
    let a = c.args.self.now.ends in
    c.unwrapped.ensures ∙ ap₂ unwrapped (omega (arith, ints)) (omega (arith, ints)) ∙ else_exact1 (λ x. wrapped (neg_ℤ x)) (λ a. unwrapped (neg_ℤ a.hi) (neg_ℤ a.lo)) c.args.self.now (sym c.is_single.ensures ∙ c.if-is_single.false)
