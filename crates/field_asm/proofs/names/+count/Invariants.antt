use Rattle.std.proofs.Common.{length}
use Rattle.field_asm.proofs.names.+count.Given as goal

abbrev pub decreases-count : goal.decreases-count
decreases-count l = length l.names.now
