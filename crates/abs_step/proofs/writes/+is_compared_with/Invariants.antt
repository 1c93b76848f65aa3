use Rattle.std.proofs.Common.{length}
use Rattle.abs_step.proofs.writes.+is_compared_with.Given as goal

abbrev pub decreases-is_compared_with : goal.decreases-is_compared_with
decreases-is_compared_with l = length l.atoms.now
