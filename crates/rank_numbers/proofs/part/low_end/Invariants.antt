use Rattle.std.proofs.Common.{◌≡◌, ◌<◌, ℕ, get_or}
use Rattle.std.specs.Prelude.{◌≤ℤ◌}
use Rattle.std.specs.List.{Contains}
use Rattle.rank_numbers.proofs.part.low_end.Given as goal

abbrev pub invariant-loop-key : goal.invariant-loop-key
invariant-loop-key g l = record {
  bound : (k : ℕ) → k < l.key-index → l.low ≤ℤ (g.R.Ranks.forms l.ranks).lower ((g.R.Ranks.forms l.ranks).direction l.candidate) (get_or l.part k 0);
  attained : (k : ℕ) × Contains l.part k × (l.low ≡ (g.R.Ranks.forms l.ranks).lower ((g.R.Ranks.forms l.ranks).direction l.candidate) k);
}
