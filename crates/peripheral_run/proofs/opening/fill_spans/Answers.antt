use Rattle.std.proofs.Common.{◌≡◌, ℕ, drop, ◌∙◌, ◌-◌, ◌+◌, length, refl, subst, arith}
use Rattle.peripheral_run.specs.Opening.{Fills, least_in}
use Rattle.peripheral_run.proofs.Filling.{span_filled, no_span_filled}
use Rattle.peripheral_run.proofs.opening.fill_spans.Goals as goal

pub loop-left-init : goal.loop-left-init
loop-left-init c = record {
  profile = refl;
  fills = no_span_filled c.args.machine.now.state c.args.spans.now (length c.args.spans.now) (omega arith);
  within = omega arith;
}

pub loop-left-preserved : goal.loop-left-preserved
loop-left-preserved c =
    let s = c.args.machine.now.state in
    let spans = c.args.spans.now in
    let i = c.loop-left.left - 1 in
    let back : c.loop-left.left ≡ i + 1 = omega (arith, c.loop-left-test.true) in
    record {
      profile = c.fill.ensures.profile ∙ c.loop-left.invariant.profile;
      fills = span_filled s c.loop-left.machine.state c.fill.new.machine.state spans i c.index-spans-left.result c.least_word.result.0 (omega (arith, c.loop-left.invariant.within, c.loop-left-test.true)) c.index-spans-left.is c.least_word.ensures
          (subst (λ (n : ℕ). Fills s c.loop-left.machine.state (least_in (drop n spans) s)) back c.loop-left.invariant.fills) c.fill.ensures.filled;
      within = omega (arith, c.loop-left.invariant.within);
    }
