use Rattle.std.proofs.Common.{length}
use Rattle.cert_checker.proofs.following.+join_arrivals.Given as goal

abbrev pub decreases-join_arrivals : goal.decreases-join_arrivals
decreases-join_arrivals g l = length l.outs.now
