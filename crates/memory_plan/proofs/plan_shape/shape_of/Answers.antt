use Rattle.std.proofs.Common.{◌∙◌, sym, ap}
use Rattle.memory_plan.specs.PlanShapes.{shape_of}
use Rattle.memory_plan.proofs.PlanTextLemmas.{no_tokens}
use Rattle.memory_plan.proofs.plan_shape.shape_of.Goals as goal

pub returns-in_err-kind : goal.returns-in_err-kind
returns-in_err-kind c = c.from_residual.ensures ∙ sym (ap shape_of c.in_err-kind.ensures.none ∙ no_tokens c.args.line.now)
