use Rattle.std.proofs.Common.{◌≡◌, ◌++◌, drop}
use Rattle.std.specs.List.{flat_map}
use Rattle.cert_format.specs.declared.version.Version.TheVariants.{Two}
use Rattle.cert_format.specs.Spelling.{node_bytes}
use Rattle.cert_format.proofs.writing.put_nodes.Given as goal

abbrev pub invariant-loop-node : goal.invariant-loop-node
invariant-loop-node l = l.out.items ++ flat_map (node_bytes Two) (drop l.node l.cert.nodes) ≡ l.fn.out.items ++ flat_map (node_bytes Two) l.cert.nodes
