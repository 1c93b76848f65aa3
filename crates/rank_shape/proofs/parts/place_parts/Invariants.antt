use Rattle.std.proofs.Common.{◌≡◌, ◌<◌, ℕ, length, get_or}
use Rattle.std.specs.List.{Contains}
use Rattle.strong_components.specs.Components.{part_at}
use Rattle.strong_components.specs.Groups.{lists_of}
use Rattle.rank_shape.proofs.parts.place_parts.Given as goal

abbrev pub invariant-loop-p : goal.invariant-loop-p
invariant-loop-p l = record {
  placed : (q u : ℕ) → q < l.p → Contains (part_at (lists_of l.parts) q) u → get_or l.places u 0 ≡ q;
  len : length l.places ≡ length l.fn.places;
}
