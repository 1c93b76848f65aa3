use Rattle.std.proofs.Common.{◌<◌, ◌≤◌, arith, ◌∙◌, sym, subst, length, get_or}
use Rattle.strong_components.specs.declared.edge.Edge.{Edge}
use Rattle.rank_nest.proofs.IntoLaws.{into_more, into_all}
use Rattle.rank_nest.proofs.nest.edges_into.Goals as goal

pub loop-edge-preserved : goal.loop-edge-preserved
loop-edge-preserved c =
    let z : Edge = record { from = 0; to = 0; name = 0 } in
    let edges = c.args.edges.now in
    let i = c.loop-edge.edge-index in
    let to = c.requires i z c.loop-edge-test.true in
    let lt : (get_or edges i z).to < length c.loop-edge.into.items = subst (λ n. (get_or edges i z).to < n) (sym c.loop-edge.invariant.len) to in
    record {
      len = c.in_ok-put.ensures.len ∙ c.loop-edge.invariant.len;
      into = into_more edges i z c.loop-edge.into.items c.put.new.lists.items c.loop-edge-test.true c.in_ok-put.ensures.put lt c.loop-edge.invariant.into;
    }

pub returns-clause-into : goal.returns-clause-into
returns-clause-into c =
    let over : length c.args.edges.now ≤ c.loop-edge.edge-index = omega arith in
    into_all c.args.edges.now c.loop-edge.edge-index c.loop-edge.into.items over c.loop-edge.invariant.into
