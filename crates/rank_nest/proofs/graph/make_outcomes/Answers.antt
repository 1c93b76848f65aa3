use Rattle.std.proofs.Common.{◌≡◌, ap, sym, ◌∙◌, length}
use Rattle.std.specs.Prelude.{None}
use Rattle.abs_step.specs.Conditions.{fault}
use Rattle.rank_nest.specs.Graph.{no_node}
use Rattle.rank_nest.proofs.Solution.{no_err, faultless, over_cells}
use Rattle.rank_nest.proofs.graph.make_outcomes.Goals as goal

pub outcomes-requires-clause-cells : goal.outcomes-requires-clause-cells
outcomes-requires-clause-cells g c =
    let d = g.D.NumDomain.domain in
    let fact = c.fact-fact.ensures (no_node d) in
    ap length c.cells.ensures ∙ sym (over_cells d c.args.plan.now c.args.solved.now.cells c.args.solved.now.nodes c.requires.least c.args.from c.requires.from) ∙ sym (ap (λ f. length f.cells) fact)

pub outcomes-requires-clause-room : goal.outcomes-requires-clause-room
outcomes-requires-clause-room g c =
    let d = g.D.NumDomain.domain in
    let fact = c.fact-fact.ensures (no_node d) in
    c.requires.room ∙ sym (over_cells d c.args.plan.now c.args.solved.now.cells c.args.solved.now.nodes c.requires.least c.args.from c.requires.from) ∙ sym (ap (λ f. length f.cells) fact)

pub unreachable-requires : goal.unreachable-requires
unreachable-requires g c =
    let d = g.D.NumDomain.domain in
    let plan = c.args.plan.now in
    let key = c.key.ensures (no_node d) in
    let fact = c.fact-fact.ensures (no_node d) in
    let none : fault d plan c.cells.result.now c.key.result.now.addr c.fact-fact.result.now ≡ None =
    (λ i. fault d plan (c.cells.ensures i) (key i).addr (fact i)) ∙ faultless d plan c.args.solved.now.cells c.args.solved.now.nodes c.requires.least c.args.from c.requires.from in
    no_err (fault d plan c.cells.result.now c.key.result.now.addr c.fact-fact.result.now) c.outcomes.result none (sym c.is_err.ensures.value ∙ c.if-is_err.true) c.outcomes.ensures.fault
