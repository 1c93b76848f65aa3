use Rattle.std.proofs.Common.{arith, ◌∙◌}
use Rattle.std.proofs.Math.Path.{ap₂}
use Rattle.std.proofs.lemmas.Int.{ints, clamps}
use Rattle.interval_dom.specs.Intervals.{cut}
use Rattle.interval_dom.proofs.IntervalCode.{lt_code, gt_code, ult_code}
use Rattle.interval_dom.proofs.interval.Interval.refined.Goals as goal

pub returns-in-Lt : goal.returns-in-Lt
returns-in-Lt c =
    let a = c.args.self.now.ends in
    let b = c.args.other.now.ends in
    c.cut.ensures ∙ lt_code c.args.self.now c.args.other.now c.args.kind _ _ c.in-Lt.is (omega (arith, ints)) (omega (arith, ints, clamps))

pub returns-in-Gt : goal.returns-in-Gt
returns-in-Gt c =
    let a = c.args.self.now.ends in
    let b = c.args.other.now.ends in
    c.cut-in-Gt.ensures ∙ gt_code c.args.self.now c.args.other.now c.args.kind _ _ c.in-Gt.is (omega (arith, ints, clamps)) (omega (arith, ints))

pub returns-in-Ult : goal.returns-in-Ult
returns-in-Ult c =
    let a = c.args.self.now.ends in
    let b = c.args.other.now.ends in
    c.hull.ensures ∙ ult_code c.args.self.now c.args.other.now c.args.kind c.negative_to.result c.natural_to.result c.cut-in-Ult.result c.cut-in-Ult-2.result c.in-Ult.is c.negative_to.ensures.value c.natural_to.ensures.value
    (c.cut-in-Ult.ensures ∙ ap₂ cut (omega (arith, ints)) (omega (arith, ints, clamps)))
    (c.cut-in-Ult-2.ensures ∙ ap₂ cut (omega (arith, ints, clamps)) (omega (arith, ints, clamps)))
