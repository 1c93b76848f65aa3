use Rattle.std.proofs.Common.{◌≡◌, drop}
use Rattle.memory_plan.specs.Plans.{range_at}
use Rattle.memory_plan.proofs.plan.range_at.Given as goal

abbrev pub invariant-loop-span : goal.invariant-loop-span
invariant-loop-span l = range_at l.spans l.at ≡ range_at (drop l.span-index l.spans) l.at
