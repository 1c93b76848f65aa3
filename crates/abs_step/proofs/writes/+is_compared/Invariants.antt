use Rattle.std.proofs.Common.{length}
use Rattle.abs_step.proofs.writes.+is_compared.Given as goal

abbrev pub decreases-is_compared : goal.decreases-is_compared
decreases-is_compared l = length l.atoms.now
