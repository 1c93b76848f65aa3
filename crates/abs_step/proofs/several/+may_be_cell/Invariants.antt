use Rattle.std.proofs.Common.{length}
use Rattle.abs_step.proofs.several.+may_be_cell.Given as goal

abbrev pub decreases-may_be_cell : goal.decreases-may_be_cell
decreases-may_be_cell g l = length l.cells.now
