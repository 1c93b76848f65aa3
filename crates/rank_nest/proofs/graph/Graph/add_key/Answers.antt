use Rattle.std.proofs.Common.{sym, subst, ◌∙◌}
use Rattle.rank_nest.specs.Graph.{node_at}
use Rattle.rank_nest.specs.Targets.{LeadOn}
use Rattle.rank_nest.proofs.Solution.{numbered, lead_on}
use Rattle.rank_nest.proofs.graph.Graph.add_key.Goals as goal

pub add_all-requires-clause-numbered : goal.add_all-requires-clause-numbered
add_all-requires-clause-numbered g c =
    numbered g.D.NumDomain.domain c.args.plan.now c.args.solved.now.cells c.args.solved.now.nodes c.requires.least

pub add_all-requires-clause-lead : goal.add_all-requires-clause-lead
add_all-requires-clause-lead g c =
    let d = g.D.NumDomain.domain in
    let ns = c.args.solved.now.nodes in
    subst (λ os. LeadOn d c.args.plan.now c.args.solved.now.cells ns (node_at d ns c.args.from) os) (sym (c.outcomes_in.ensures.outcomes ∙ c.make_outcomes.ensures.outcomes))
    (lead_on d c.args.plan.now c.args.solved.now.cells ns c.requires.least c.args.from c.requires.from)
