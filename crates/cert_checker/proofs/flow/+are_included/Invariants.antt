use Rattle.std.proofs.Common.{length}
use Rattle.cert_checker.proofs.flow.+are_included.Given as goal

abbrev pub decreases-are_included : goal.decreases-are_included
decreases-are_included g l = length l.outs.now
