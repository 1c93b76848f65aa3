use Rattle.std.proofs.Common.{length}
use Rattle.cert_checker.proofs.successors.+successor.Given as goal

abbrev pub decreases-successor : goal.decreases-successor
decreases-successor g l = length l.listed.now
