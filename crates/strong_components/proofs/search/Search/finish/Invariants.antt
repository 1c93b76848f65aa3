use Rattle.strong_components.specs.Steps.{Stepped, work}
use Rattle.strong_components.proofs.search.Search.finish.Given as goal

abbrev pub invariant-loop-self : goal.invariant-loop-self
invariant-loop-self l = Stepped l.edges l.fn.marks l.marks l.self (work l.fn.marks l.fn.self.waiting.items l.fn.self.trail.items)

abbrev pub decreases-loop-self : goal.decreases-loop-self
decreases-loop-self l = work l.marks l.self.waiting.items l.self.trail.items
