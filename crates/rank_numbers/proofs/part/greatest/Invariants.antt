use Rattle.std.proofs.Common.{◌≡◌, ◌<◌, ◌⊎◌, ℕ, get_or}
use Rattle.std.specs.Prelude.{◌≤ℤ◌}
use Rattle.std.specs.List.{Contains}
use Rattle.strong_components.specs.declared.edge.Edge.{Edge}
use Rattle.rank_shape.specs.Places.{edge_lists, edges_at}
use Rattle.rank_numbers.specs.Rows.{form_of}
use Rattle.rank_numbers.proofs.part.greatest.Given as goal

abbrev pub invariant-loop-key : goal.invariant-loop-key
invariant-loop-key g l = record {
  facts : (k : ℕ) → k < l.key-index → (g.R.Ranks.forms l.ranks).upper (form_of (g.R.Ranks.forms l.ranks) l.forms (get_or l.part k 0)) (get_or l.part k 0) ≤ℤ l.most;
  edges : (k : ℕ) (e : Edge) → k < l.key-index → Contains (edges_at (edge_lists l.into) (get_or l.part k 0)) e → (g.R.Ranks.forms l.ranks).after (form_of (g.R.Ranks.forms l.ranks) l.forms (get_or l.part k 0)) e ≤ℤ l.most;
  attained : ((k : ℕ) × Contains l.part k × (l.most ≡ (g.R.Ranks.forms l.ranks).upper (form_of (g.R.Ranks.forms l.ranks) l.forms k) k))
      ⊎ ((k : ℕ) × (e : Edge) × Contains l.part k × Contains (edges_at (edge_lists l.into) k) e × (l.most ≡ (g.R.Ranks.forms l.ranks).after (form_of (g.R.Ranks.forms l.ranks) l.forms k) e));
  room : g.R.Ranks.has_room l.ranks l.scratch;
}
