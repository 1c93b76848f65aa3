use Rattle.std.proofs.Common.{◌∙◌, sym, ap, subst, inl, List}
use Rattle.text_lines.specs.Lines.{kept_lines}
use Rattle.text_lines.proofs.Readings.{read_all}
use Rattle.memory_plan.specs.declared.start.Start.{Start}
use Rattle.memory_plan.specs.Images.{numbers}
use Rattle.peripheral_run.specs.declared.fault.ScriptFault.{ScriptFault}
use Rattle.peripheral_run.specs.Scripts.{began, script_grammar, AllowsState, IsScriptFault}
use Rattle.peripheral_run.proofs.ScriptLemmas.{so_far, first_read, answer_read, no_state, no_answer}
use Rattle.peripheral_run.proofs.script_text.read_script.Goals as goal

pub returns-in_default-state_of-clause-fault : goal.returns-in_default-state_of-clause-fault
returns-in_default-state_of-clause-fault c =
    subst (IsScriptFault c.args.plan.now c.args.text.now) (sym c.broken-in_default-state_of.ensures)
    (inl (no_state c.args.text.now c.next_line.new.self.lines c.in-Some.first.number c.in-Some.first.text.now (sym c.kept-lines.ensures.lines ∙ c.in-Some.ensures.line) (sym c.in_default-state_of.ensures)))

pub returns-in-Err-clause-fault : goal.returns-in-Err-clause-fault
returns-in-Err-clause-fault c =
    subst (IsScriptFault c.args.plan.now c.args.text.now) (sym (c.broken-in-Err.ensures ∙ ap (ScriptFault.At c.in-Some-next_line.line.number) c.in-Err.ensures.1))
    (inl (no_answer c.args.text.now c.loop-line.lines.lines c.next_line-in-loop-line.new.self.lines c.in-Some-next_line.line.number c.in-Some-next_line.line.text.now (began c.in-Some-state_of.state) c.loop-line.answers.items
    c.loop-line.invariant c.in-Some-next_line.ensures.line c.in-Err.ensures.0))

pub loop-line-init : goal.loop-line-init
loop-line-init c =
    rw c.new-answers.ensures.items
    (first_read (kept_lines c.args.text.now) c.next_line.new.self.lines c.in-Some.first.number c.in-Some.first.text.now (began c.in-Some-state_of.state) (sym c.kept-lines.ensures.lines ∙ c.in-Some.ensures.line) (sym c.in-Some-state_of.ensures))

pub loop-line-preserved : goal.loop-line-preserved
loop-line-preserved c =
    rw c.in_ok-push-in-Ok.ensures.items
    (answer_read (kept_lines c.args.text.now) c.loop-line.lines.lines c.next_line-in-loop-line.new.self.lines c.in-Some-next_line.line.number c.in-Some-next_line.line.text.now (began c.in-Some-state_of.state) c.loop-line.answers.items c.in-Ok.answer
    c.loop-line.invariant c.in-Some-next_line.ensures.line c.in-Ok.ensures)

pub returns-then-not-allows_state-clause-fault : goal.returns-then-not-allows_state-clause-fault
returns-then-not-allows_state-clause-fault c =
    subst (IsScriptFault c.args.plan.now c.args.text.now) (sym c.broken-then-not-allows_state.ensures) (record {
      script = record { state = began c.in-Some-state_of.state; answers = numbers c.loop-line.answers.items };
      said = read_all script_grammar (kept_lines c.args.text.now) (so_far (began c.in-Some-state_of.state) c.loop-line.answers.items) c.loop-line.lines.lines c.loop-line.invariant c.in_default-next_line.ensures.none;
      forbidden = λ allowed. c.allows_state.ensures.no c.if-not-allows_state.true (subst (λ (starts : List Start). AllowsState starts (began c.in-Some-state_of.state)) (sym c.starts.ensures) allowed);
      line = c.in-Some.first.text.now;
      others = c.next_line.new.self.lines;
      first = sym c.kept-lines.ensures.lines ∙ c.in-Some.ensures.line;
    })

pub returns-clause-script : goal.returns-clause-script
returns-clause-script c = record {
  said = read_all script_grammar (kept_lines c.args.text.now) (so_far (began c.in-Some-state_of.state) c.loop-line.answers.items) c.loop-line.lines.lines c.loop-line.invariant c.in_default-next_line.ensures.none;
  allowed = subst (λ (starts : List Start). AllowsState starts (began c.in-Some-state_of.state)) c.starts.ensures (c.allows_state.ensures.yes c.if-not-allows_state.false);
}
