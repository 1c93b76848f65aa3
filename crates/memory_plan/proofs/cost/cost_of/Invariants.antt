use Rattle.std.proofs.Common.{◌≡◌, drop}
use Rattle.memory_plan.specs.Costs.{cost_of}
use Rattle.memory_plan.proofs.cost.cost_of.Given as goal

abbrev pub invariant-loop-line : goal.invariant-loop-line
invariant-loop-line l = cost_of l.costs l.kind ≡ cost_of (drop l.line-index l.costs) l.kind
