use Rattle.std.proofs.Common.{length}
use Rattle.abs_step.proofs.operands.+join_input.Given as goal

abbrev pub decreases-join_input : goal.decreases-join_input
decreases-join_input g l = length l.spans.now
