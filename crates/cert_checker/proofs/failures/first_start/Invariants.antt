use Rattle.std.proofs.Common.{◌≡◌, drop, length}
use Rattle.cert_checker.specs.Verdicts.{first_of, start_refusal}
use Rattle.cert_checker.proofs.failures.first_start.Given as goal

abbrev pub invariant-loop-i : goal.invariant-loop-i
invariant-loop-i g l = record {
  rest : first_of (start_refusal g.D.NumDomain.domain l.plan l.cert) l.i (drop l.i l.starts) ≡ first_of (start_refusal g.D.NumDomain.domain l.plan l.cert) 0 l.starts;
  room : length l.fact.cells ≡ length l.cert.cells;
}
