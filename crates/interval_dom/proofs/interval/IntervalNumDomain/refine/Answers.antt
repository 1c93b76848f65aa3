use Rattle.std.proofs.Common.{subst, sym, Option, IfSome}
use Rattle.interval_dom.specs.evidence.IntervalRefine.{AreReached, refine_reached}
use Rattle.interval_dom.specs.declared.interval.Interval.{Interval}
use Rattle.interval_dom.proofs.interval.IntervalNumDomain.refine.Goals as goal

pub returns-clause-least : goal.returns-clause-least
returns-clause-least c = subst (λ (o : Option Interval). IfSome o (AreReached c.args.self.now c.args.kind c.args.other.now)) (sym c.refined.ensures) (refine_reached c.args.self.now c.args.other.now c.args.kind)
