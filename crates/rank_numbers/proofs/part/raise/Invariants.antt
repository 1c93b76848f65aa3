use Rattle.std.proofs.Common.{◌≡◌, ◌<◌, ℕ, length, get_or, true}
use Rattle.rank_numbers.specs.Rows.{form_of}
use Rattle.rank_numbers.proofs.part.raise.Given as goal

abbrev pub invariant-loop-key : goal.invariant-loop-key
invariant-loop-key g l = record {
  raised : (k : ℕ) → k < l.key-index → (form_of (g.R.Ranks.forms l.ranks) l.forms (get_or l.part k 0) ≡ (g.R.Ranks.forms l.ranks).level l.weight l.candidate l.low (form_of (g.R.Ranks.forms l.ranks) l.fn.forms (get_or l.part k 0))) × ((g.R.Ranks.forms l.ranks).small (form_of (g.R.Ranks.forms l.ranks) l.forms (get_or l.part k 0)) ≡ true);
  others : (u : ℕ) → ((k : ℕ) → k < l.key-index → get_or l.part k 0 ≡ u → ⊥) → form_of (g.R.Ranks.forms l.ranks) l.forms u ≡ form_of (g.R.Ranks.forms l.ranks) l.fn.forms u;
  len : length l.forms ≡ length l.fn.forms;
}
