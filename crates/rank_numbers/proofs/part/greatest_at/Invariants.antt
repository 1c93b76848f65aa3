use Rattle.std.proofs.Common.{◌≡◌, ◌<◌, ◌⊎◌, ℕ, get_or}
use Rattle.std.specs.Prelude.{◌≤ℤ◌}
use Rattle.std.specs.List.{Any}
use Rattle.strong_components.specs.declared.edge.Edge.{Edge}
use Rattle.rank_numbers.proofs.part.greatest_at.Given as goal

abbrev pub invariant-loop-edge : goal.invariant-loop-edge
invariant-loop-edge g l = record {
  fact : (g.R.Ranks.forms l.ranks).upper l.form l.key ≤ℤ l.most;
  edges : (k : ℕ) (d : Edge) → k < l.edge-index → (g.R.Ranks.forms l.ranks).after l.form (get_or l.into k d) ≤ℤ l.most;
  before : l.fn.before ≤ℤ l.most;
  attained : (l.most ≡ l.fn.before) ⊎ ((l.most ≡ (g.R.Ranks.forms l.ranks).upper l.form l.key) ⊎ Any (λ e. l.most ≡ (g.R.Ranks.forms l.ranks).after l.form e) l.into);
  room : g.R.Ranks.has_room l.ranks l.scratch;
}
