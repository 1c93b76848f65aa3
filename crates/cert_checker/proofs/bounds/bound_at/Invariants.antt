use Rattle.std.proofs.Common.{◌≡◌, drop}
use Rattle.cert_checker.specs.Verdicts.{bound_at}
use Rattle.cert_checker.proofs.Greatest.{greater}
use Rattle.cert_checker.proofs.bounds.bound_at.Given as goal

abbrev pub invariant-loop-i : goal.invariant-loop-i
invariant-loop-i g l = greater l.bound (bound_at g.D.NumDomain.domain l.cert.cells l.at (drop l.i l.cert.nodes)) ≡ bound_at g.D.NumDomain.domain l.cert.cells l.at l.cert.nodes
