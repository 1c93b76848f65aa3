use Rattle.std.proofs.Common.{◌≡◌, ◌∙◌, ◌<◌, length, max, refl, sym, ap, subst, inl, inr, arith}
use Rattle.std.proofs.lemmas.Bool.Decides.{nat_tests}
use Rattle.text_lines.specs.Lines.{kept_lines}
use Rattle.text_lines.proofs.Readings.{made_none, made_more, made_broken}
use Rattle.memory_plan.specs.PlanRules.{SoFar, nothing_yet, add_line, judge_line}
use Rattle.memory_plan.specs.PlanText.{IsPlan}
use Rattle.memory_plan.specs.Images.{AreImageWords}
use Rattle.memory_plan.specs.Plans.{PlanLines}
use Rattle.memory_plan.proofs.PlanTextLemmas.{kept, plan_read, unstarted}
use Rattle.memory_plan.specs.WellFormed.{IsWellFormed}
use Rattle.memory_plan.proofs.WholePlans.{plan_well}
use Rattle.memory_plan.proofs.RunsExist.{well_formed_runs}
use Rattle.memory_plan.proofs.plan_text.read_plan.Goals as goal

pub add-requires-clause-few : goal.add-requires-clause-few
add-requires-clause-few c = (kept (record { plan = c.loop-line.plan; latest = c.loop-line.latest }) c.in-Some.line.text.now c.in-Ok.said (sym c.in-Ok.ensures)).keeps.words

pub add-requires-clause-apart : goal.add-requires-clause-apart
add-requires-clause-apart c = (kept (record { plan = c.loop-line.plan; latest = c.loop-line.latest }) c.in-Some.line.text.now c.in-Ok.said (sym c.in-Ok.ensures)).keeps.span

pub loop-line-init : goal.loop-line-init
loop-line-init c = record {
  read =
      made_none add_line (nothing_yet c.args.image.now) judge_line (kept_lines c.args.text.now) (record { plan = c.in_ok-plan.plan; latest = 0 }) c.kept-lines.result.lines
      (ap (λ (p : PlanLines). record { plan = p; latest = 0 }) c.in_ok-plan.ensures.plan) c.kept-lines.ensures.lines;
  end = c.kept-lines.ensures.end;
}

pub loop-line-preserved : goal.loop-line-preserved
loop-line-preserved c =
    let before : SoFar = record { plan = c.loop-line.plan; latest = c.loop-line.latest } in
    let latest = c.max-latest.ensures ∙ ap (max c.loop-line.latest) c.kind_of.ensures in
    let next : record { plan = c.add.new.self; latest = c.max-latest.result } ≡ add_line before c.in-Ok.said = rw (c.in_ok-add-in-Ok.ensures, latest) refl in
    record {
      read =
          made_more add_line (nothing_yet c.args.image.now) judge_line (kept_lines c.args.text.now) before c.loop-line.lines.lines c.in-Some.line.number c.in-Some.line.text.now c.next_line.new.self.lines c.in-Ok.said
          (record { plan = c.add.new.self; latest = c.max-latest.result }) c.loop-line.invariant.read c.in-Some.ensures.line (sym c.in-Ok.ensures) next;
      end = c.in-Some.ensures.end ∙ c.loop-line.invariant.end;
    }

pub returns-in-Err-clause-fault : goal.returns-in-Err-clause-fault
returns-in-Err-clause-fault c =
    inl (made_broken add_line (nothing_yet c.args.image.now) judge_line (kept_lines c.args.text.now) (record { plan = c.loop-line.plan; latest = c.loop-line.latest }) c.loop-line.lines.lines
    c.in-Some.line.number c.in-Some.line.text.now c.next_line.new.self.lines c.in-Err.rule c.loop-line.invariant.read c.in-Some.ensures.line (sym c.in-Err.ensures))

pub returns-then-is_empty-clause-fault : goal.returns-then-is_empty-clause-fault
returns-then-is_empty-clause-fault c =
    let none : length c.starts.result.now ≡ 0 = grind (arith, nat_tests, c.if-is_empty.ensures) in
    inr (
      c.past_end.ensures ∙ c.in_default.ensures.end ∙ c.loop-line.invariant.end,
      refl,
      unstarted c.args.image.now c.args.text.now (record { plan = c.loop-line.plan; latest = c.loop-line.latest }) c.loop-line.lines.lines c.loop-line.invariant.read c.in_default.ensures.none (sym (ap length c.starts.ensures) ∙ none),
    )

read_there : (c : goal.Else-is_empty) → IsPlan c.args.image.now c.args.text.now c.loop-line.plan
read_there c =
    let some : 0 < length c.starts.result.now = grind (arith, nat_tests, c.if-is_empty.ensures) in
    plan_read c.args.image.now c.args.text.now (record { plan = c.loop-line.plan; latest = c.loop-line.latest }) c.loop-line.lines.lines c.loop-line.invariant.read c.in_default.ensures.none
    (rw (ap length c.starts.ensures) at some)

pub returns-clause-plan : goal.returns-clause-plan
returns-clause-plan c = read_there c

well_there : (c : goal.Else-is_empty) → IsWellFormed c.loop-line.plan
well_there c =
    plan_well c.args.image.now c.args.text.now c.loop-line.plan (subst AreImageWords (ap (λ (p : PlanLines). p.image) c.in_ok-plan.ensures.plan) c.in_ok-plan.ensures.image) (read_there c)

pub returns-clause-well_formed : goal.returns-clause-well_formed
returns-clause-well_formed c = well_there c

pub returns-clause-can_run : goal.returns-clause-can_run
returns-clause-can_run c =
    let some : 0 < length c.starts.result.now = grind (arith, nat_tests, c.if-is_empty.ensures) in
    well_formed_runs c.loop-line.plan (well_there c) (rw (ap length c.starts.ensures) at some)
