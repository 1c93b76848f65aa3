use Rattle.std.proofs.Common.{arith, ◌≡◌, ◌∙◌, ◌-ℤ◌, ap, sym}
use Rattle.std.proofs.Math.Path.{ap₂}
use Rattle.std.proofs.lemmas.Int.{ints}
use Rattle.viper_word.specs.Signed.{wrapped}
use Rattle.interval_dom.specs.Intervals.{constant, unwrapped}
use Rattle.interval_dom.proofs.IntervalCode.{then_exact, else_exact}
use Rattle.interval_dom.proofs.interval.IntervalNumDomain.sub_wrap.Goals as goal

pub returns-then-are_single : goal.returns-then-are_single
returns-then-are_single c =
    let a = c.args.self.now.ends in
    let b = c.args.other.now.ends in
    let w = c.wrapped_difference.ensures.in_range in
    let z : c.wrapped_difference.result ≡ wrapped (c.args.self.now.lo -ℤ c.args.other.now.lo) = c.wrapped_difference.ensures.value ∙ ap wrapped (omega (arith, ints)) in
    then_exact (λ x y. wrapped (x -ℤ y)) (λ a b. unwrapped (a.lo -ℤ b.hi) (a.hi -ℤ b.lo)) c.args.self.now c.args.other.now c.only.result c.wrapped_difference.result (sym c.are_single.ensures ∙ c.if-are_single.true) (c.only.ensures ∙ ap constant (omega (arith, ints))) z w

pub returns-else-are_single : goal.returns-else-are_single
returns-else-are_single c =
    let a = c.args.self.now.ends in
    let b = c.args.other.now.ends in
    c.unwrapped.ensures ∙ ap₂ unwrapped (omega (arith, ints)) (omega (arith, ints)) ∙ else_exact (λ x y. wrapped (x -ℤ y)) (λ a b. unwrapped (a.lo -ℤ b.hi) (a.hi -ℤ b.lo)) c.args.self.now c.args.other.now (sym c.are_single.ensures ∙ c.if-are_single.false)
