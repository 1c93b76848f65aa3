use Rattle.std.proofs.Common.{length}
use Rattle.cert_format.proofs.writing.+put_addrs.Given as goal

abbrev pub decreases-put_addrs : goal.decreases-put_addrs
decreases-put_addrs l = length l.addrs.now
