use Rattle.std.proofs.Common.{◌≡◌, ◌<◌, true, arith, ap, sym, subst, ◌∙◌, length, get_or}
use Rattle.std.proofs.lemmas.Bool.{true≢false}
use Rattle.flow_recover.specs.Keys.{same_key}
use Rattle.flow_recover.proofs.KeyLemmas.{same_key-true, same_key-itself}
use Rattle.fix_solver.specs.Tables.{place}
use Rattle.fix_solver.specs.Solved.{facts_of}
use Rattle.rank_nest.specs.Graph.{no_node, node_at}
use Rattle.rank_nest.proofs.Solution.{default_same, node_key}
use Rattle.rank_nest.proofs.graph.number_of.Goals as goal

pub returns-then-is_same : goal.returns-then-is_same
returns-then-is_same g c =
    let d = g.D.NumDomain.domain in
    let ns = c.args.solved.now.nodes in
    let i = c.loop-number.number-index in
    let items = c.succ-number-items.result.now in
    let j = get_or items i 0 in
    let same = c.succ-number-items.ensures (no_node d) in
    let lt : get_or items i 0 < length ns = subst (λ l. get_or l i 0 < length ns) (sym same) (c.requires.listed.below i 0 (subst (λ l. i < length l) same c.loop-number-test.true)) in
    let key = c.key.ensures (no_node d) in
    let is : (node_at d ns j).key ≡ c.args.target.now = sym key ∙ same_key-true c.key.result.now c.args.target.now (sym c.is_same.ensures.value ∙ c.if-is_same.true) in
    sym (c.requires.numbered j lt) ∙ ap (place (facts_of ns)) is

pub unreachable-requires : goal.unreachable-requires
unreachable-requires g c =
    let d = g.D.NumDomain.domain in
    let ns = c.args.solved.now.nodes in
    let items = c.succ-number-items.result.now in
    let same = c.succ-number-items.ensures (no_node d) in
    let t = c.args.target.now in
    let p = place (facts_of ns) t in
    let here = c.requires.listed.listed in
    let k = here.0 in
    let in_items : k < length items = subst (λ l. k < length l) (sym same) here.1 in
    let passed : k < c.loop-number.number-index = omega arith in
    let below : get_or (node_at d ns c.args.from).succ k p < length ns = c.requires.listed.below k p here.1 in
    let in_nodes : place (facts_of ns) t < length ns = subst (λ x. x < length ns) here.2 below in
    let item : get_or items k 0 ≡ p = ap (λ l. get_or l k 0) same ∙ default_same (node_at d ns c.args.from).succ k here.1 p ∙ here.2 in
    let other = c.loop-number.invariant k passed in
    let equal : same_key (node_at d ns (get_or items k 0)).key t ≡ true =
    ap (λ x. same_key (node_at d ns x).key t) item ∙ ap (λ x. same_key x t) (node_key d ns t in_nodes) ∙ same_key-itself t in
    true≢false (sym equal ∙ other)
