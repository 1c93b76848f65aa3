use Rattle.std.proofs.Common.{length}
use Rattle.abs_step.proofs.operands.+join_code.Given as goal

abbrev pub decreases-join_code : goal.decreases-join_code
decreases-join_code g l = length l.spans.now
