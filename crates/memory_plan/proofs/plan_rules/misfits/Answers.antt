use Rattle.std.proofs.Common.{◌∙◌, ap, ℕ, not}
use Rattle.std.specs.List.{list_any}
use Rattle.viper_word.specs.Words.{signed_value}
use Rattle.memory_plan.specs.Numbers.{range_has}
use Rattle.memory_plan.proofs.PlanTextLemmas.{misfits_between, outside_by}
use Rattle.memory_plan.proofs.plan_rules.misfits.Goals as goal

pub returns : goal.returns
returns c =
    c.is_outside.ensures ∙ outside_by c.args.range.now c.between.result.now
    ∙ ap (list_any (λ (e : ℕ × ℕ). not (range_has c.args.range.now (signed_value e.1)))) c.between.ensures
    ∙ misfits_between c.args.lo c.args.hi c.args.range.now c.args.image.now
