use Rattle.std.proofs.Common.{length}
use Rattle.cert_checker.proofs.following.+are_data.Given as goal

abbrev pub decreases-are_data : goal.decreases-are_data
decreases-are_data l = length l.cells.now
