use Rattle.strong_components.specs.Groups.{Ordered}
use Rattle.strong_components.proofs.components.Groups.order.Given as goal

abbrev pub invariant-loop-place : goal.invariant-loop-place
invariant-loop-place l = Ordered l.self.places.items l.place-index l.order.items
