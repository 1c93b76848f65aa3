use Rattle.std.proofs.Common.{length}
use Rattle.rank_form.proofs.step.+add_after.Given as goal

abbrev pub decreases-add_after : goal.decreases-add_after
decreases-add_after g l = length l.terms.now
