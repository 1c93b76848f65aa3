use Rattle.std.proofs.Common.{◌+◌, ◌*◌, length}
use Rattle.abs_step.proofs.addresses.+memory.Given as goal

abbrev pub decreases-are_in_memory : goal.decreases-are_in_memory
decreases-are_in_memory g l = 2 * length l.code.now

abbrev pub decreases-are_met_in_memory : goal.decreases-are_met_in_memory
decreases-are_met_in_memory g l = 2 * length l.code.now + 1
