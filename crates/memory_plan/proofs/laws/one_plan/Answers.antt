use Rattle.memory_plan.proofs.OneValue.{plan_reading}
use Rattle.memory_plan.proofs.laws.one_plan.Goals as goal

pub returns : goal.returns
returns c = plan_reading
