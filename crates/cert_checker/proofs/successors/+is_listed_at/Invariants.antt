use Rattle.std.proofs.Common.{length}
use Rattle.cert_checker.proofs.successors.+is_listed_at.Given as goal

abbrev pub decreases-is_listed_at : goal.decreases-is_listed_at
decreases-is_listed_at g l = length l.listed.now
