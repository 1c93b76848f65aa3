use Rattle.std.proofs.Common.{length}
use Rattle.abs_step.proofs.operands.+join_cells.Given as goal

abbrev pub decreases-join_cells : goal.decreases-join_cells
decreases-join_cells g l = length l.cells.now
