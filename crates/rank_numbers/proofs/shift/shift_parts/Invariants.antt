use Rattle.std.proofs.Common.{◌≡◌, ◌<◌, ◌≤◌, ℕ, length}
use Rattle.std.specs.List.{Contains}
use Rattle.strong_components.specs.Groups.{lists_of}
use Rattle.strong_components.specs.Components.{part_at}
use Rattle.rank_numbers.specs.Offsets.{number_at}
use Rattle.rank_numbers.specs.Rows.{form_of, Became}
use Rattle.rank_numbers.proofs.shift.shift_parts.Given as goal

abbrev pub invariant-loop-p : goal.invariant-loop-p
invariant-loop-p g l = record {
  shifted : (q : ℕ) → q < l.p → Became (g.R.Ranks.forms l.ranks) (λ f. (g.R.Ranks.forms l.ranks).shift f (number_at l.offset q)) (part_at (lists_of l.parts) q) l.fn.forms l.forms;
  left : (q k : ℕ) → l.p ≤ q → q < length (lists_of l.parts) → Contains (part_at (lists_of l.parts) q) k → form_of (g.R.Ranks.forms l.ranks) l.forms k ≡ form_of (g.R.Ranks.forms l.ranks) l.fn.forms k;
  others : (k : ℕ) → ((q : ℕ) → q < length (lists_of l.parts) → Contains (part_at (lists_of l.parts) q) k → ⊥) → form_of (g.R.Ranks.forms l.ranks) l.forms k ≡ form_of (g.R.Ranks.forms l.ranks) l.fn.forms k;
  len : length l.forms ≡ length l.fn.forms;
}
