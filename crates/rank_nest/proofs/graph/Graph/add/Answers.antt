use Rattle.std.proofs.Common.{◌≡◌, ◌++◌, ◌∷◌, [], true, ap, sym, subst, ◌∙◌, length}
use Rattle.std.specs.Prelude.{false}
use Rattle.memory_plan.specs.Plans.{is_marker}
use Rattle.abs_step.specs.OutcomeLists.{OutcomeOf}
use Rattle.flow_recover.specs.Contexts.{next_context}
use Rattle.fix_solver.specs.Solutions.{fields_at}
use Rattle.fix_solver.specs.Solved.{facts_of}
use Rattle.fix_solver.specs.Tables.{place}
use Rattle.rank_nest.specs.Bits.{bits}
use Rattle.rank_nest.specs.Building.{GraphOf, IsExtended, grow_mask, fall_mask}
use Rattle.rank_nest.specs.Candidates.{grows_by, falls_by}
use Rattle.rank_nest.specs.Graph.{StepOf, no_node, node_at, target_of}
use Rattle.rank_nest.proofs.Extending.{on_ok, extended_none, extended_one, marker_step, edge_step}
use Rattle.rank_nest.proofs.graph.Graph.add.Goals as goal

pub returns-then-is_marker : goal.returns-then-is_marker
returns-then-is_marker g c =
    let d = g.D.NumDomain.domain in
    let o = c.args.out.now in
    let plan = c.args.plan.now in
    let ns = c.args.solved.now.nodes in
    let target : c.out.inside.target ≡ o.target = ap (λ (q : OutcomeOf g.row.D.Denot). q.target) c.out.view_is in
    let marker : is_marker plan o.target ≡ true = ap (is_marker plan) (sym target) ∙ sym c.is_marker.ensures ∙ c.if-is_marker.true in
    subst (λ l. IsExtended d c.args.self.now l c.args.self.now)
    (sym (marker_step d plan c.args.solved.now.cells ns c.args.from c.args.ordinal (node_at d ns c.args.from) o marker))
    (extended_none d c.args.self.now)

pub returns : goal.returns
returns g c =
    let d = g.D.NumDomain.domain in
    let o = c.args.out.now in
    let plan = c.args.plan.now in
    let cells = c.args.solved.now.cells in
    let ns = c.args.solved.now.nodes in
    let n = node_at d ns c.args.from in
    let old = c.args.self.now in
    let target : c.out.inside.target ≡ o.target = ap (λ (q : OutcomeOf g.row.D.Denot). q.target) c.out.view_is in
    let marker : is_marker plan o.target ≡ false = ap (is_marker plan) (sym target) ∙ sym c.is_marker.ensures ∙ c.if-is_marker.false in
    let key : c.key-key.result.now ≡ n.key = c.key-key.ensures (no_node d) in
    let fields : c.fields_at.result ≡ fields_at plan n.key.addr = c.fields_at.ensures ∙ ap (λ k. fields_at plan k.addr) key in
    let next : c.next_context-target.result ≡ target_of d plan cells n o = c.next_context-target.ensures ∙ (λ i. next_context (key i) (fields i) (target i)) in
    let to : c.number_of-to.result ≡ place (facts_of ns) (target_of d plan cells n o) = c.number_of-to.ensures ∙ ap (place (facts_of ns)) next in
    let count : c.self.inside.moves.count ≡ old.count = ap (λ (q : GraphOf). q.count) c.self.view_is in
    let s : StepOf g.row.D.Denot = record { from = c.args.from; to = place (facts_of ns) (target_of d plan cells n o); ordinal = c.args.ordinal; outcome = o } in
    let grow : c.moves_over-masks.result.grow ≡ grow_mask d old.count s = c.moves_over-masks.ensures.grow ∙ ap (λ k. bits (grows_by d o) 0 k) count in
    let fall : c.moves_over-masks.result.fall ≡ fall_mask d old.count s = c.moves_over-masks.ensures.fall ∙ ap (λ k. bits (falls_by d o) 0 k) count in
    on_ok c.push.result _ _
    (λ is. extended_one d old c.push.new.self s _ (edge_step d plan cells ns c.args.from c.args.ordinal n o marker)
    (is ∙ (λ i. record {
      edges = old.edges ++ record { from = c.args.from; to = to i; name = length old.edges } ∷ [];
      ordinals = old.ordinals ++ c.args.ordinal ∷ [];
      count = old.count;
      grow = old.grow ++ grow i ∷ [];
      fall = old.fall ++ fall i ∷ [];
    })))
    c.push.ensures
