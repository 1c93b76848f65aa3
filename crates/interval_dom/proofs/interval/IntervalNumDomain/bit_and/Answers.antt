use Rattle.std.proofs.Common.{arith, ◌≡◌, ◌∙◌, ap, sym}
use Rattle.std.proofs.Math.Path.{ap₂}
use Rattle.std.proofs.lemmas.Int.{ints}
use Rattle.viper_word.specs.Signed.{signed_and}
use Rattle.interval_dom.specs.Intervals.{constant, and_row}
use Rattle.interval_dom.proofs.IntervalCode.{then_exact}
use Rattle.interval_dom.proofs.interval.IntervalNumDomain.bit_and.Goals as goal

pub returns-then-are_single : goal.returns-then-are_single
returns-then-are_single c =
    let a = c.args.self.now.ends in
    let b = c.args.other.now.ends in
    let w = c.and.ensures.in_range in
    let z : c.and.result ≡ signed_and c.args.self.now.lo c.args.other.now.lo = c.and.ensures.value ∙ ap₂ signed_and (omega (arith, ints)) (omega (arith, ints)) in
    then_exact signed_and and_row c.args.self.now c.args.other.now c.only.result c.and.result (sym c.are_single.ensures ∙ c.if-are_single.true) (c.only.ensures ∙ ap constant (omega (arith, ints))) z w
