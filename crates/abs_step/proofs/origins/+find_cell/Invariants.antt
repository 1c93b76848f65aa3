use Rattle.std.proofs.Common.{length}
use Rattle.abs_step.proofs.origins.+find_cell.Given as goal

abbrev pub decreases-find_cell : goal.decreases-find_cell
decreases-find_cell l = length l.cells.now
