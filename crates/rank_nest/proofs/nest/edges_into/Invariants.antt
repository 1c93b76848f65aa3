use Rattle.std.proofs.Common.{◌≡◌, length, take}
use Rattle.rank_numbers.specs.Rows.{IntoKeys}
use Rattle.rank_nest.proofs.nest.edges_into.Given as goal

abbrev pub invariant-loop-edge : goal.invariant-loop-edge
invariant-loop-edge l = record {
  len : length l.into.items ≡ l.count;
  into : IntoKeys (take l.edge-index l.edges) l.into.items;
}
