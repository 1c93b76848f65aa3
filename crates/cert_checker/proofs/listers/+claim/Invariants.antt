use Rattle.std.proofs.Common.{length}
use Rattle.cert_checker.proofs.listers.+claim.Given as goal

abbrev pub decreases-claim : goal.decreases-claim
decreases-claim l = length l.listed.now
