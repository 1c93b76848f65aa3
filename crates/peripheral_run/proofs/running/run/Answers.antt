use Rattle.std.proofs.Common.{◌≡◌, ◌∙◌, ◌+◌, Ok, refl, sym, ap, arith}
use Rattle.memory_plan.specs.Images.{numbers}
use Rattle.viper_word.specs.Machine.{next, wants}
use Rattle.viper_next.specs.Effects.{effect_of}
use Rattle.viper_next.specs.declared.effect.Effect.{Effect}
use Rattle.viper_word.specs.declared.profile.Profile.{Profile}
use Rattle.peripheral_run.specs.Runs.{Outcome, answer_for, with_step}
use Rattle.peripheral_run.proofs.RunLemmas.{IsRunTo, begun, quiet, put_out}
use Rattle.peripheral_run.proofs.running.run.Goals as goal
use Rattle.peripheral_run.proofs.running.run.Goals.{in-Out, in-Wrote, in-Quiet}

pub loop-k-init : goal.loop-k-init
loop-k-init c = record {
  so_far = rw (sym c.answers-answers.ensures) (begun c.args.plan.now c.args.steps (numbers c.answers-answers.result.now) c.args.machine.now.state c.args.log.now.items c.requires.empty);
  profile = refl;
  room = refl;
}

pub enter-requires : goal.enter-requires
enter-requires c = omega (arith, c.loop-k.invariant.so_far.few, c.loop-k.invariant.room, c.loop-k-test.true, c.requires.room)

-- what is known of a step that is given its answer
given : (c : goal.Joined-step) → answer_for c.args.plan.now c.loop-k.k (wants c.loop-k.machine.state) (numbers c.loop-k.answers.now) ≡ Ok (c.in-Ok.answer.0, numbers c.in-Ok.left.now)
given c = ap (λ o. answer_for c.args.plan.now c.loop-k.k o (numbers c.loop-k.answers.now)) (sym c.wants.ensures.address) ∙ c.in-Ok.ensures.given

told : (c : goal.Joined-step) → c.step.result ≡ effect_of c.args.plan.now.profile c.loop-k.machine.state c.in-Ok.answer.0
told c = c.step.ensures.effect ∙ ap (λ (p : Profile). effect_of p c.loop-k.machine.state c.in-Ok.answer.0) (c.loop-k.invariant.profile ∙ c.requires.profile)

leads : (c : goal.Joined-step) → c.step.new.self.state ≡ next c.args.plan.now.profile c.loop-k.machine.state c.in-Ok.answer.0
leads c = c.step.ensures.next ∙ ap (λ (p : Profile). next p c.loop-k.machine.state c.in-Ok.answer.0) (c.loop-k.invariant.profile ∙ c.requires.profile)

-- nothing was put out
so_quiet : (c : goal.Joined-step) → ((o : Outcome) → with_step c.loop-k.k c.step.result c.step.new.self.state o ≡ o)
    → IsRunTo c.args.plan.now c.args.steps c.args.script.now.answers c.args.machine.now.state (c.loop-k.k + 1) (numbers c.in-Ok.left.now) c.step.new.self.state c.loop-k.log.items
so_quiet c nothing =
    quiet c.args.plan.now c.args.steps c.loop-k.k c.args.script.now.answers (numbers c.loop-k.answers.now) (numbers c.in-Ok.left.now) c.args.machine.now.state c.loop-k.machine.state c.step.new.self.state c.loop-k.log.items
    c.in-Ok.answer.0 c.step.result c.loop-k.invariant.so_far c.loop-k-test.true (given c) (told c) (leads c) nothing

pub loop-k-preserved : goal.loop-k-preserved
loop-k-preserved c = record {
  so_far = elim c.match-step.branch [
    | in-Out w ↦ rw (w.log-is, w.enter.ensures.items)
        (put_out c.args.plan.now c.args.steps c.loop-k.k c.args.script.now.answers (numbers c.loop-k.answers.now) (numbers c.in-Ok.left.now) c.args.machine.now.state c.loop-k.machine.state c.step.new.self.state c.loop-k.log.items
        c.in-Ok.answer.0 w.in-Out.at w.in-Out.word c.loop-k.invariant.so_far c.loop-k-test.true (given c) (sym w.in-Out.is ∙ told c) (leads c))
    | in-Wrote w ↦ rw w.log-is (so_quiet c (λ o. ap (λ (e : Effect). with_step c.loop-k.k e c.step.new.self.state o) w.in-Wrote.is))
    | in-Quiet w ↦ rw w.log-is (so_quiet c (λ o. ap (λ (e : Effect). with_step c.loop-k.k e c.step.new.self.state o) w.in-Quiet.is))
  ];
  profile = c.step.ensures.profile ∙ c.loop-k.invariant.profile;
  room = elim c.match-step.branch [
    | in-Out w ↦ rw w.log-is (w.enter.ensures.room ∙ c.loop-k.invariant.room)
    | in-Wrote w ↦ rw w.log-is c.loop-k.invariant.room
    | in-Quiet w ↦ rw w.log-is c.loop-k.invariant.room
  ];
}
