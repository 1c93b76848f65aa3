use Rattle.std.proofs.Common.{◌≡◌, ◌≤◌, length}
use Rattle.cert_checker.specs.Filling.{filled_nodes}
use Rattle.cert_checker.proofs.filling.fill.Given as goal

abbrev pub invariant-loop-i : goal.invariant-loop-i
invariant-loop-i g l = record {
  done : l.done ≡ record l.cert { nodes = filled_nodes g.D.NumDomain.domain l.plan l.cert l.i };
  within : l.i ≤ length l.cert.nodes;
  fact : length l.fact.cells ≡ length l.cert.cells;
  scratch : l.scratch.cells ≡ length l.cert.cells;
}
