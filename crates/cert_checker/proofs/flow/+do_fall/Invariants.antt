use Rattle.std.proofs.Common.{length}
use Rattle.cert_checker.proofs.flow.+do_fall.Given as goal

abbrev pub decreases-do_fall : goal.decreases-do_fall
decreases-do_fall g l = length l.outs.now
