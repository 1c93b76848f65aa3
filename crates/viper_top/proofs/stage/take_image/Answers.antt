use Rattle.std.proofs.Common.{◌∙◌, ap, subst, inl, codes, List, ℕ}
use Rattle.memory_plan.specs.Images.{IsImageFault}
use Rattle.viper_top.specs.Contents.{line_text}
use Rattle.viper_top.specs.Endings.{input}
use Rattle.viper_top.proofs.stage.take_image.Goals as goal

pub returns-in_ok-answer-in-Err-At-clause-took : goal.returns-in_ok-answer-in-Err-At-clause-took
returns-in_ok-answer-in-Err-At-clause-took c =
    inl (record {
      fault = record { line = c.in-Err-At.line; rule = c.in-Err-At.rule };
      breaks = subst (IsImageFault c.args.bytes.now) c.in-Err-At.field-0-is c.in-Err-At.ensures.fault;
      is = c.in_ok-answer-in-Err-At.ensures ∙ ap (λ (name : List ℕ). input (line_text (codes "image") c.in-Err-At.line name)) c.image_rule.ensures;
    })
