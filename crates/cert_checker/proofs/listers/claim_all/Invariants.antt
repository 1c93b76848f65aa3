use Rattle.std.proofs.Common.{length, take}
use Rattle.cert_checker.specs.Claiming.{AreListers}
use Rattle.cert_checker.proofs.listers.claim_all.Given as goal

abbrev pub invariant-loop-i : goal.invariant-loop-i
invariant-loop-i g l = AreListers (length l.cert.nodes) (take l.i l.cert.nodes) l.listers
