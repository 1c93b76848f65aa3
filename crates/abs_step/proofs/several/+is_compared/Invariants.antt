use Rattle.std.proofs.Common.{length}
use Rattle.abs_step.proofs.several.+is_compared.Given as goal

abbrev pub decreases-is_compared : goal.decreases-is_compared
decreases-is_compared g l = length l.atoms.now
