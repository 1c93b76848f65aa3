use Rattle.std.proofs.Common.{length}
use Rattle.cert_checker.proofs.following.+arrive.Given as goal

abbrev pub decreases-arrive : goal.decreases-arrive
decreases-arrive g l = length l.outs.now
