use Rattle.std.proofs.Common.{◌∙◌, sym, true, false}
use Rattle.memory_plan.proofs.QueryLemmas.{cost_found, cost_plain}
use Rattle.memory_plan.proofs.cost.cost_of.Goals as goal

pub returns-then-is_kind : goal.returns-then-is_kind
returns-then-is_kind c =
    sym (c.loop-line.invariant ∙ cost_found c.args.costs.now c.args.kind c.loop-line.line-index _ true c.loop-line-test.true (sym c.if-is_kind.true ∙ c.is_kind.ensures))

pub loop-line-preserved : goal.loop-line-preserved
loop-line-preserved c =
    c.loop-line.invariant ∙ cost_found c.args.costs.now c.args.kind c.loop-line.line-index _ false c.loop-line-test.true (sym c.if-is_kind.false ∙ c.is_kind.ensures)

pub returns : goal.returns
returns c = sym (c.loop-line.invariant ∙ cost_plain c.args.costs.now c.args.kind c.loop-line.line-index c.loop-line-test.false)
