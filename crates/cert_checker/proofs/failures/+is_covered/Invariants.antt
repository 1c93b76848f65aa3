use Rattle.std.proofs.Common.{length}
use Rattle.cert_checker.proofs.failures.+is_covered.Given as goal

abbrev pub decreases-is_covered : goal.decreases-is_covered
decreases-is_covered g l = length l.listed.now
