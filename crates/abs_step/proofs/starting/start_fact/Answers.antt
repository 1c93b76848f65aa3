use Rattle.std.proofs.Common.{sym, subst}
use Rattle.memory_plan.specs.declared.start.Start.{Start}
use Rattle.flag_relation.specs.Facts.{FactOf}
use Rattle.abs_step.specs.States.{MeetsFact}
use Rattle.abs_step.specs.Starts.{start_fact}
use Rattle.abs_step.proofs.StartMet.{start_met}
use Rattle.abs_step.proofs.starting.start_fact.Goals as goal

pub returns-clause-met : goal.returns-clause-met
returns-clause-met g c = λ w s h e.
    let d = g.D.NumDomain.domain in
    let plan = c.args.plan.now in
    let cells = c.args.cells.now in
    subst (λ (f : FactOf g.row.D.Denot). MeetsFact d plan cells f s) (sym c.set_start.ensures.value)
    (subst (λ (line : Start). MeetsFact d plan cells (start_fact d plan cells line) s) e (start_met d g.met.D.NumDomain.laws plan cells w s h))
