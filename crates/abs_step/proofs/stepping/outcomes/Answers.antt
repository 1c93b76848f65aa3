use Rattle.std.proofs.Common.{◌≡◌, true, false, sym, ◌∙◌, ap}
use Rattle.viper_word.specs.Fields.{is_illegal}
use Rattle.viper_decode.specs.declared.instructions.Instruction.{Instruction}
use Rattle.abs_step.specs.OutcomeLists.{live}
use Rattle.abs_step.specs.Conditions.{outcomes_at}
use Rattle.abs_step.specs.Faults.{fault_of, live_side}
use Rattle.std.specs.Prelude.{Some}
use Rattle.std.proofs.lemmas.Bool.{not-false, not-true}
use Rattle.abs_step.proofs.FaultSteps.{no_word, illegal_word, legal_word, legal_outcomes}
use Rattle.abs_step.proofs.stepping.outcomes.Goals as goal

pub returns-in_default-clause-fault : goal.returns-in_default-clause-fault
returns-in_default-clause-fault g c =
    no_word g.D.NumDomain.domain c.args.plan.now c.args.cells.now c.args.at c.args.fact.now c.in_default.ensures

pub returns-then-not-legal-clause-fault : goal.returns-then-not-legal-clause-fault
returns-then-not-legal-clause-fault g c =
    let h : is_illegal c.in-Some.fields ≡ true = not-false (is_illegal c.in-Some.fields) (sym c.if-not-legal.ensures) in
    illegal_word g.D.NumDomain.domain c.args.plan.now c.args.cells.now c.args.at c.args.fact.now c.in-Some.fields c.in-Some.ensures h

pub returns-in-None-clause-fault : goal.returns-in-None-clause-fault
returns-in-None-clause-fault g c =
    let d = g.D.NumDomain.domain in
    let plan = c.args.plan.now in
    let cells = c.args.cells.now in
    let at = c.args.at in
    let f = c.args.fact.now in
    let h : is_illegal c.in-Some.fields ≡ false = not-true (is_illegal c.in-Some.fields) (sym c.if-not-legal.ensures) in
    legal_word d plan cells at f c.in-Some.fields c.in-Some.ensures h
    ∙ ap (λ (i : Instruction). fault_of d plan cells at i (live_side d i f)) (sym c.instruction.ensures.read)
    ∙ sym c.step.ensures.fault ∙ c.in-None.is

pub returns-in-None-clause-outcomes : goal.returns-in-None-clause-outcomes
returns-in-None-clause-outcomes g c =
    let d = g.D.NumDomain.domain in
    let plan = c.args.plan.now in
    let cells = c.args.cells.now in
    let at = c.args.at in
    let f = c.args.fact.now in
    let h : is_illegal c.in-Some.fields ≡ false = not-true (is_illegal c.in-Some.fields) (sym c.if-not-legal.ensures) in
    c.in-None.ensures.outcomes
    ∙ ap (λ (i : Instruction). outcomes_at d plan cells at (Some i) (live d f)) c.instruction.ensures.read
    ∙ sym (legal_outcomes d plan cells at f c.in-Some.fields c.in-Some.ensures h)

pub returns-in-Some-step-clause-fault : goal.returns-in-Some-step-clause-fault
returns-in-Some-step-clause-fault g c =
    let d = g.D.NumDomain.domain in
    let plan = c.args.plan.now in
    let cells = c.args.cells.now in
    let at = c.args.at in
    let f = c.args.fact.now in
    let h : is_illegal c.in-Some.fields ≡ false = not-true (is_illegal c.in-Some.fields) (sym c.if-not-legal.ensures) in
    legal_word d plan cells at f c.in-Some.fields c.in-Some.ensures h
    ∙ ap (λ (i : Instruction). fault_of d plan cells at i (live_side d i f)) (sym c.instruction.ensures.read)
    ∙ sym c.step.ensures.fault ∙ c.in-Some-step.is
