use Rattle.std.proofs.Common.{◌≡◌, ◌∙◌, ℕ, ◌+◌, ◌<◌, ◌^◌, refl, sym, ap, subst, inl, inr, arith}
use Rattle.viper_word.specs.Machine.{State, IsState}
use Rattle.viper_next.specs.Profiled.{stored}
use Rattle.memory_plan.proofs.LineLemmas.{address_is}
use Rattle.peripheral_run.specs.Opening.{Fills}
use Rattle.peripheral_run.proofs.Filling.{below_to, filled_none, filled_more, filled_all}
use Rattle.peripheral_run.proofs.opening.fill.Goals as goal

pub loop-next-init : goal.loop-next-init
loop-next-init c =
    let low = c.get-next.ensures.number in
    record {
      profile = refl;
      fills = rw low (filled_none c.args.machine.now.state c.args.lo c.args.word.0);
      low = omega (arith, low);
      place = inr low;
    }

pub loop-next-preserved : goal.loop-next-preserved
loop-next-preserved c =
    let s = c.args.machine.now.state in
    let t = c.loop-next.machine.state in
    let next = c.loop-next.next in
    let w = c.args.word.0 in
    let small : next < 2 ^ 20 = omega (arith, c.loop-next-test.true, c.get.ensures.number, c.get.ensures.in_range) in
    let at : c.in-Some.at ≡ next = address_is next c.in-Some.at small c.in-Some.ensures in
    let new : c.load.new.self.state ≡ stored t next w = c.load.ensures.state ∙ ap (λ (a : ℕ). stored t a w) at in
    record {
      profile = c.load.ensures.profile ∙ c.loop-next.invariant.profile;
      fills = subst (λ (u : State). Fills s u (below_to c.args.lo (next + 1) w s)) (sym new)
          (filled_more s t c.args.lo next w c.loop-next.invariant.low (subst IsState new c.load.ensures.words) c.loop-next.invariant.fills);
      low = omega (arith, c.loop-next.invariant.low);
      place = inl (omega (arith, c.loop-next-test.true, c.get.ensures.number));
    }

pub returns-clause-filled : goal.returns-clause-filled
returns-clause-filled c =
    let hi = c.get.ensures.number in
    filled_all c.args.machine.now.state c.loop-next.machine.state c.args.lo c.args.hi c.loop-next.next c.args.word.0 (omega (arith, c.loop-next-test.false, hi)) c.loop-next.invariant.low c.loop-next.invariant.place c.loop-next.invariant.fills
