use Rattle.std.proofs.Common.{take}
use Rattle.strong_components.specs.Groups.{lists_of}
use Rattle.rank_shape.specs.Places.{edge_lists, AreInside}
use Rattle.rank_shape.proofs.parts.inside_parts.Given as goal

abbrev pub invariant-loop-edge : goal.invariant-loop-edge
invariant-loop-edge l = AreInside (lists_of l.parts) (take l.edge-index l.edges) (edge_lists l.lists.items)
