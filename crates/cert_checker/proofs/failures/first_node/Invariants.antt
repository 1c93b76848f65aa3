use Rattle.std.proofs.Common.{◌≡◌, drop, length}
use Rattle.cert_checker.specs.Verdicts.{first_of, node_refusal}
use Rattle.cert_checker.proofs.failures.first_node.Given as goal

abbrev pub invariant-loop-i : goal.invariant-loop-i
invariant-loop-i g l = record {
  rest : first_of (node_refusal g.D.NumDomain.domain l.plan (λ _. l.price) l.cert) l.i (drop l.i l.cert.nodes) ≡ first_of (node_refusal g.D.NumDomain.domain l.plan (λ _. l.price) l.cert) 0 l.cert.nodes;
  room : l.scratch.cells ≡ length l.cert.cells;
}
