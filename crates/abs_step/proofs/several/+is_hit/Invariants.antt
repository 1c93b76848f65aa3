use Rattle.std.proofs.Common.{length}
use Rattle.abs_step.proofs.several.+is_hit.Given as goal

abbrev pub decreases-is_hit : goal.decreases-is_hit
decreases-is_hit g l = length l.cells.now
