use Rattle.std.proofs.Common.{◌≡◌, ◌<◌, arith, sym, subst, ◌∙◌, ap, length, []}
use Rattle.rank_nest.specs.Building.{GraphOf, IsExtended}
use Rattle.rank_nest.specs.Graph.{node_at, outcomes_of, steps_at, steps_from}
use Rattle.rank_nest.specs.Ready.{no_graph}
use Rattle.rank_nest.proofs.Extending.{extended_none, extended_both, first_none, next_steps}
use Rattle.rank_nest.proofs.Solution.{few_cells}
use Rattle.rank_nest.proofs.graph.graph_of.Goals as goal

pub new-graph-requires : goal.new-graph-requires
new-graph-requires g c =
    let few = few_cells c.args.plan.now c.args.solved.now.cells c.requires.least.over in
    omega (arith, ap length c.cells.ensures)

pub loop-from-init : goal.loop-from-init
loop-from-init g c =
    let d = g.D.NumDomain.domain in
    let empty : c.new-graph.result ≡ no_graph (length c.args.solved.now.cells) = c.new-graph.ensures ∙ ap (λ cs. no_graph (length cs)) c.cells.ensures in
    let start = no_graph (length c.args.solved.now.cells) in
    let none = first_none d c.args.plan.now c.args.solved.now.cells c.args.solved.now.nodes in
    record {
      built = subst (λ (h : GraphOf). IsExtended d start (steps_from d c.args.plan.now c.args.solved.now.cells c.args.solved.now.nodes 0 []) h) (sym empty)
          (subst (λ l. IsExtended d start l start) (sym none) (extended_none d start));
      room = c.requires.room;
    }

pub add_key-requires-clause-few : goal.add_key-requires-clause-few
add_key-requires-clause-few g c =
    let few = few_cells c.args.plan.now c.args.solved.now.cells c.requires.least.over in
    omega (arith, c.loop-from.invariant.built.count)

pub loop-from-preserved : goal.loop-from-preserved
loop-from-preserved g c =
    let d = g.D.NumDomain.domain in
    let plan = c.args.plan.now in
    let cells = c.args.solved.now.cells in
    let ns = c.args.solved.now.nodes in
    let i = c.loop-from.from in
    let start = no_graph (length c.args.solved.now.cells) in
    let lt : c.loop-from.from < length c.args.solved.now.nodes = omega arith in
    record {
      built = subst (λ l. IsExtended d start l c.add_key.new.self) (sym (next_steps d plan cells ns i lt))
          (extended_both d start c.loop-from.graph c.add_key.new.self _ (steps_at d plan cells ns i (node_at d ns i) 0 (outcomes_of d plan cells (node_at d ns i))) c.loop-from.invariant.built c.in_ok-add_key.ensures.added);
      room = c.in_ok-add_key.ensures.room ∙ c.loop-from.invariant.room;
    }
