use Rattle.std.proofs.Common.{length}
use Rattle.abs_step.proofs.operands.+join_data.Given as goal

abbrev pub decreases-join_data : goal.decreases-join_data
decreases-join_data g l = length l.spans.now
