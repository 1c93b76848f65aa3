use Rattle.std.proofs.Common.{arith, ◌≡◌, ◌∙◌, ap}
use Rattle.std.proofs.lemmas.Int.{ints}
use Rattle.num_domain.specs.Rounding.{below, above}
use Rattle.interval_dom.specs.evidence.Forms.{round_ends}
use Rattle.interval_dom.specs.Intervals.{intervals}
use Rattle.interval_dom.specs.evidence.IntervalOrder.{same_ends}
use Rattle.interval_dom.proofs.interval.IntervalNumDomain.round.Goals as goal

pub invariant_of-result : goal.invariant_of-result
invariant_of-result c =
    let a = c.args.self.now.ends in
    let e : c.below.result ≡ below c.args.t.now c.args.self.now.lo = c.below.ensures ∙ ap (below c.args.t.now) (omega (arith, ints)) in
    let f : c.above.result ≡ above c.args.t.now c.args.self.now.hi = c.above.ensures ∙ ap (above c.args.t.now) (omega (arith, ints)) in
    let r = round_ends c.args.t.now c.args.self.now in
    record { ends = record { low = omega (arith, ints); ordered = omega (arith, ints); high = omega (arith, ints) } }

pub returns : goal.returns
returns c =
    let a = c.args.self.now.ends in
    let e : c.below.result ≡ below c.args.t.now c.args.self.now.lo = c.below.ensures ∙ ap (below c.args.t.now) (omega (arith, ints)) in
    let f : c.above.result ≡ above c.args.t.now c.args.self.now.hi = c.above.ensures ∙ ap (above c.args.t.now) (omega (arith, ints)) in
    let r = round_ends c.args.t.now c.args.self.now in
    same_ends _ (intervals.round c.args.self.now c.args.t.now) (omega (arith, ints)) (omega (arith, ints))
