use Rattle.std.proofs.Common.{◌∙◌, ap, subst, inl, codes, List, ℕ}
use Rattle.memory_plan.specs.PlanText.{IsPlanFault}
use Rattle.viper_top.specs.Contents.{line_text}
use Rattle.viper_top.specs.Endings.{input}
use Rattle.viper_top.proofs.stage.take_plan.Goals as goal

pub returns-in_ok-answer-in-Err-At-clause-took : goal.returns-in_ok-answer-in-Err-At-clause-took
returns-in_ok-answer-in-Err-At-clause-took c =
    inl (record {
      fault = record { line = c.in-Err-At.line; rule = c.in-Err-At.rule };
      breaks = subst (IsPlanFault c.args.image.now c.args.bytes.now) c.in-Err-At.field-0-is c.in-Err-At.ensures.fault;
      is = c.in_ok-answer-in-Err-At.ensures ∙ ap (λ (name : List ℕ). input (line_text (codes "plan") c.in-Err-At.line name)) c.plan_rule.ensures;
    })
