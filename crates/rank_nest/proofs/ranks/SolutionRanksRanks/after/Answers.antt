use Rattle.std.proofs.Common.{rules, ◌≡◌, ◌<◌, arith, ap, sym, subst, ◌∙◌, List, length, get_or}
use Rattle.std.proofs.lemmas.Int.{to_z-of_z}
use mir.Val.{SFits}
use mir.Syntax.{w128}
use Rattle.abs_step.specs.OutcomeLists.{OutcomeOf}
use Rattle.rank_form.specs.Bounds.{upper, after}
use Rattle.rank_nest.specs.Forms.{step_at}
use Rattle.rank_nest.specs.Graph.{node_at, outcomes_of, steps}
use Rattle.rank_nest.specs.evidence.Steps.{is_edge}
use Rattle.rank_nest.proofs.Moving.{named, ordinal_is, have_get}
use Rattle.rank_nest.proofs.ranks.SolutionRanksRanks.after.Goals as goal

pub make_outcomes-requires-clause-from : goal.make_outcomes-requires-clause-from
make_outcomes-requires-clause-from g c =
    let s = c.args.self.now in
    let e = is_edge g.D.NumDomain.domain s.plan.now s.solved.now.cells s.solved.now.nodes c.args.edge c.requires.edge in
    subst (λ k. k < length s.solved.now.nodes) e.from e.step.from_key

pub ordinal-ordinal-requires : goal.ordinal-ordinal-requires
ordinal-ordinal-requires g c =
    let s = c.args.self.now in
    let d = g.D.NumDomain.domain in
    let e = is_edge d s.plan.now s.solved.now.cells s.solved.now.nodes c.args.edge c.requires.edge in
    named d s.plan.now s.solved.now.cells s.solved.now.nodes s.graph.now c.requires.room.built c.args.edge e

-- the outcome is there
pub bounds-outcomes_in-ordinal : goal.bounds-outcomes_in-ordinal
bounds-outcomes_in-ordinal g c =
    let s = c.args.self.now in
    let d = g.D.NumDomain.domain in
    let plan = s.plan.now in
    let cells = s.solved.now.cells in
    let ns = s.solved.now.nodes in
    let e = is_edge d plan cells ns c.args.edge c.requires.edge in
    let outs : c.outcomes_in.result.now ≡ outcomes_of d plan cells (node_at d ns c.args.edge.from) = c.outcomes_in.ensures.outcomes ∙ c.make_outcomes.ensures.outcomes in
    let ordinal : c.ordinal-ordinal.result ≡ (step_at d (steps d plan cells ns) c.args.edge.name).ordinal =
    c.ordinal-ordinal.ensures ∙ ordinal_is d plan cells ns s.graph.now c.requires.room.built c.args.edge e in
    let below = subst (λ k. (step_at d (steps d plan cells ns) c.args.edge.name).ordinal < length (outcomes_of d plan cells (node_at d ns k))) e.from e.step.below in
    subst (λ k. k < length c.outcomes_in.result.now) (sym ordinal) (subst (λ (os : List (OutcomeOf g.row.D.Denot)). (step_at d (steps d plan cells ns) c.args.edge.name).ordinal < length os) (sym outs) below)

pub offset_bounds-outcomes_in-ordinal : goal.offset_bounds-outcomes_in-ordinal
offset_bounds-outcomes_in-ordinal g c =
    let b : c.ordinal-ordinal.result < length c.outcomes_in.result.now = bounds-outcomes_in-ordinal g c in
    omega arith

pub upper_after-requires : goal.upper_after-requires
upper_after-requires g c =
    let s = c.args.self.now in
    let d = g.D.NumDomain.domain in
    let plan = s.plan.now in
    let cells = s.solved.now.cells in
    let ns = s.solved.now.nodes in
    let e = is_edge d plan cells ns c.args.edge c.requires.edge in
    let outs : c.outcomes_in.result.now ≡ outcomes_of d plan cells (node_at d ns c.args.edge.from) = c.outcomes_in.ensures.outcomes ∙ c.make_outcomes.ensures.outcomes in
    let ordinal : c.ordinal-ordinal.result ≡ (step_at d (steps d plan cells ns) c.args.edge.name).ordinal =
    c.ordinal-ordinal.ensures ∙ ordinal_is d plan cells ns s.graph.now c.requires.room.built c.args.edge e in
    let below = subst (λ k. (step_at d (steps d plan cells ns) c.args.edge.name).ordinal < length (outcomes_of d plan cells (node_at d ns k))) e.from e.step.below in
    let lt : c.ordinal-ordinal.result < length c.outcomes_in.result.now =
    subst (λ k. k < length c.outcomes_in.result.now) (sym ordinal) (subst (λ (os : List (OutcomeOf g.row.D.Denot)). (step_at d (steps d plan cells ns) c.args.edge.name).ordinal < length os) (sym outs) below) in
    let out = c.index-outcomes_in-ordinal.result in
    let have = have_get c.make_outcomes.new.scratch.cells c.make_outcomes.new.scratch.outcomes c.ordinal-ordinal.result out c.outcomes_in.ensures.cells (subst (λ (os : List (OutcomeOf g.row.D.Denot)). c.ordinal-ordinal.result < length os) c.outcomes_in.ensures.outcomes lt) in
    let is : out ≡ get_or c.make_outcomes.new.scratch.outcomes c.ordinal-ordinal.result out = c.index-outcomes_in-ordinal.is ∙ ap (λ os. get_or os c.ordinal-ordinal.result out) c.outcomes_in.ensures.outcomes in
    ap (λ (o : OutcomeOf g.row.D.Denot). length o.after.cells) is ∙ have.after ∙ sym have.pre ∙ sym (ap (λ (o : OutcomeOf g.row.D.Denot). length o.pre.cells) is)

pub returns-clause-value : goal.returns-clause-value
returns-clause-value g c =
    let s = c.args.self.now in
    let d = g.D.NumDomain.domain in
    let plan = s.plan.now in
    let cells = s.solved.now.cells in
    let ns = s.solved.now.nodes in
    let e = is_edge d plan cells ns c.args.edge c.requires.edge in
    let step = step_at d (steps d plan cells ns) c.args.edge.name in
    let outs : c.outcomes_in.result.now ≡ outcomes_of d plan cells (node_at d ns c.args.edge.from) = c.outcomes_in.ensures.outcomes ∙ c.make_outcomes.ensures.outcomes in
    let ordinal : c.ordinal-ordinal.result ≡ step.ordinal =
    c.ordinal-ordinal.ensures ∙ ordinal_is d plan cells ns s.graph.now c.requires.room.built c.args.edge e in
    let out = c.index-outcomes_in-ordinal.result in
    let is : out ≡ step.outcome =
    c.index-outcomes_in-ordinal.is ∙ (λ i. get_or (outs i) (ordinal i) out) ∙ ap (λ k. get_or (outcomes_of d plan cells (node_at d ns k)) step.ordinal out) (sym e.from) ∙ e.step.is out in
    let k : SFits w128 c.upper_after.result = search rules in
    to_z-of_z w128 c.upper_after.result k ∙ c.upper_after.ensures ∙ ap (λ (o : OutcomeOf g.row.D.Denot). upper d (after d c.args.form o) o.pre) is
