use Rattle.std.proofs.Common.{length}
use Rattle.val_rows.proofs.facts.+are_right.Given as goal

abbrev pub decreases-are_right : goal.decreases-are_right
decreases-are_right l = length l.atoms.now
