use Rattle.std.proofs.Common.{◌≡◌, ◌<◌, ℕ, length, get_or, false}
use Rattle.strong_components.specs.Search.{mark_of}
use Rattle.strong_components.specs.Steps.{Idle, is_unseen}
use Rattle.strong_components.proofs.search.number.Given as goal

abbrev pub invariant-loop-key : goal.invariant-loop-key
invariant-loop-key l = record {
  idle : Idle l.edges l.marks l.search;
  len : length l.marks ≡ length l.fn.marks;
  seen : (k : ℕ) → k < l.key-index → is_unseen (mark_of l.marks (get_or l.keys k 0)) ≡ false;
}
