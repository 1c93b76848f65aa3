use Rattle.std.proofs.Common.{◌≡◌, suc, ◌+◌, ◌-◌, [], ◌∷◌, arith, sym, subst, length, take, drop}
use Rattle.rank_nest.specs.Building.{IsExtended}
use Rattle.rank_nest.specs.Graph.{node_at, steps_at}
use Rattle.rank_nest.proofs.Extending.{on_ok, extended_none, extended_both, empty_steps, more_steps}
use Rattle.rank_nest.proofs.graph.Graph.+add_all.Goals as goal

pub returns-in-empty : goal.returns-in-empty
returns-in-empty g t c =
    let d = g.D.NumDomain.domain in
    let ns = c.args.solved.now.nodes in
    subst (λ l. IsExtended d c.args.self.now l c.args.self.now)
    (sym (empty_steps d c.args.plan.now c.args.solved.now.cells ns c.args.from c.args.ordinal (node_at d ns c.args.from) c.args.outs.now c.in-empty.len_below))
    (extended_none d c.args.self.now)

pub returns-in_ok-add-in-len1-up : goal.returns-in_ok-add-in-len1-up
returns-in_ok-add-in-len1-up g t c =
    let d = g.D.NumDomain.domain in
    let plan = c.args.plan.now in
    let cells = c.args.solved.now.cells in
    let ns = c.args.solved.now.nodes in
    let n = node_at d ns c.args.from in
    let i = c.args.from in
    let k = c.args.ordinal in
    let os = c.args.outs.now in
    let o = c.first-item.result in
    let next : c.args.ordinal + 1 ≡ suc c.args.ordinal = omega arith in
    let steps = more_steps d plan cells ns i k (k + 1) n os o next c.in-len1-up.len_at_least c.first-item.is in
    on_ok c.add_all.result _ _
    (λ b. subst (λ l. IsExtended d c.args.self.now l c.add_all.new.self) (sym steps)
    (extended_both d c.args.self.now c.add.new.self c.add_all.new.self (steps_at d plan cells ns i n k (o ∷ [])) (steps_at d plan cells ns i n (k + 1) (take (length os - 1) (drop 1 os))) c.in_ok-add-in-len1-up.ensures b))
    c.add_all.ensures
