use Rattle.std.proofs.Common.{◌+◌, ◌*◌, length}
use Rattle.abs_step.proofs.addresses.+spans.Given as goal

abbrev pub decreases-are_in_spans : goal.decreases-are_in_spans
decreases-are_in_spans g l = 2 * length l.spans.now

abbrev pub decreases-are_met_in_spans : goal.decreases-are_met_in_spans
decreases-are_met_in_spans g l = 2 * length l.spans.now + 1
