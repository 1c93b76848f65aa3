use Rattle.std.proofs.Common.{◌≡◌, ◌≤◌, length, take}
use Rattle.cert_checker.specs.Packing.{packed_nodes}
use Rattle.cert_checker.proofs.packing.pack.Given as goal

abbrev pub invariant-loop-i : goal.invariant-loop-i
invariant-loop-i g l = record {
  done : l.done ≡ record l.cert { nodes = packed_nodes g.D.NumDomain.domain l.plan l.cert 0 (take l.i l.cert.nodes) };
  within : l.i ≤ length l.cert.nodes;
  fact : length l.fact.cells ≡ length l.cert.cells;
  scratch : l.scratch.cells ≡ length l.cert.cells;
}
