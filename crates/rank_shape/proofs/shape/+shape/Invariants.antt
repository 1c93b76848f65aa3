use Rattle.std.proofs.Common.{◌≡◌, ◌<◌, ◌+◌, ◌*◌, ℕ, length}
use Rattle.strong_components.specs.Numbers.{Fresh}
use Rattle.strong_components.specs.Groups.{lists_of}
use Rattle.strong_components.specs.Components.{IsComponents, part_at}
use Rattle.rank_shape.specs.Nests.{HasPart, inside}
use Rattle.rank_shape.specs.Places.{AreInside, edge_lists}
use Rattle.rank_shape.proofs.shape.+shape.Given as goal

abbrev pub decreases-first_stuck : goal.decreases-first_stuck
decreases-first_stuck l = 2 * length l.edges.now + 1

abbrev pub decreases-stuck_in : goal.decreases-stuck_in
decreases-stuck_in l = 2 * length l.edges.now

abbrev pub invariant-first_stuck-loop-p : goal.invariant-first_stuck-loop-p
invariant-first_stuck-loop-p l = record {
  components : IsComponents l.edges l.keys (lists_of l.found.parts.items);
  lists_are : AreInside (lists_of l.found.parts.items) l.edges (edge_lists l.lists.items);
  have : (q : ℕ) → q < l.p → HasPart l.moves (part_at (lists_of l.found.parts.items) q) (inside (part_at (lists_of l.found.parts.items) q) l.edges);
  fresh : Fresh l.marks;
  marks_len : length l.marks ≡ length l.fn.marks;
  places_len : length l.places ≡ length l.fn.places;
}
