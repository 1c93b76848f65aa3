use Rattle.std.proofs.Common.{◌≡◌, ◌<◌, ◌≤◌, ◌⊎◌, ℕ, length, get_or}
use Rattle.strong_components.specs.declared.search.Mark.TheVariants.{Unseen}
use Rattle.strong_components.specs.Search.{mark_of}
use Rattle.strong_components.proofs.components.forget.Given as goal

abbrev pub invariant-loop-key : goal.invariant-loop-key
invariant-loop-key l = record {
  len : length l.marks ≡ length l.fn.marks;
  left : (v : ℕ) → (mark_of l.marks v ≡ Unseen) ⊎ ((k : ℕ) × (l.key-index ≤ k) × (k < length l.closed) × (get_or l.closed k 0 ≡ v));
}
