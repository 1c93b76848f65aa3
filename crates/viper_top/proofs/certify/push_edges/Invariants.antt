use Rattle.std.proofs.Common.{◌≡◌, ◌++◌, drop}
use Rattle.std.specs.List.{flat_map}
use Rattle.viper_top.specs.Certify.{edge_line}
use Rattle.viper_top.proofs.certify.push_edges.Given as goal

abbrev pub invariant-loop-edge : goal.invariant-loop-edge
invariant-loop-edge l = l.text ++ flat_map edge_line (drop l.edge-index l.edges) ≡ l.fn.text ++ flat_map edge_line l.edges
