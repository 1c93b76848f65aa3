use Rattle.std.proofs.Common.{◌≡◌, take}
use Rattle.certifier.specs.Made.{start_numbers, cert_nodes}
use Rattle.certifier.proofs.making.made.Given as goal

abbrev pub invariant-loop-i : goal.invariant-loop-i
invariant-loop-i g l = l.cert ≡ record {
  cells = l.solved.cells;
  starts = start_numbers l.solved.nodes l.plan.starts;
  nodes = cert_nodes l.ranks 0 (take l.i l.solved.nodes);
}
