use Rattle.std.proofs.Common.{◌≡◌, ℕ, length}
use Rattle.rank_shape.specs.Places.{edge_lists, edges_at}
use Rattle.rank_nest.proofs.nest.empty_lists.Given as goal

abbrev pub invariant-loop : goal.invariant-loop
invariant-loop l = record {
  len : length l.lists.items ≡ l.counter;
  empty : (p : ℕ) → length (edges_at (edge_lists l.lists.items) p) ≡ 0;
}
