use Rattle.std.proofs.Common.{◌≡◌, ◌<◌, ℕ, length, get_or, true}
use Rattle.rank_numbers.specs.Rows.{form_of}
use Rattle.rank_numbers.proofs.shift.shift.Given as goal

abbrev pub invariant-loop-key : goal.invariant-loop-key
invariant-loop-key g l = record {
  shifted : (k : ℕ) → k < l.key-index → (form_of (g.R.Ranks.forms l.ranks) l.forms (get_or l.part k 0) ≡ (g.R.Ranks.forms l.ranks).shift (form_of (g.R.Ranks.forms l.ranks) l.fn.forms (get_or l.part k 0)) l.offset) × ((g.R.Ranks.forms l.ranks).small (form_of (g.R.Ranks.forms l.ranks) l.forms (get_or l.part k 0)) ≡ true);
  others : (u : ℕ) → ((k : ℕ) → k < l.key-index → get_or l.part k 0 ≡ u → ⊥) → form_of (g.R.Ranks.forms l.ranks) l.forms u ≡ form_of (g.R.Ranks.forms l.ranks) l.fn.forms u;
  len : length l.forms ≡ length l.fn.forms;
}
