use Rattle.std.proofs.Common.{ap, ◌∙◌}
use Rattle.flag_relation.proofs.AllLaws.{fact_laws}
use Rattle.certifier.specs.Made.{made}
use Rattle.certifier.proofs.Judging.{over_cells, starts_in, judged, full_local, packed_local, packed_bounds, past_memory, past_solve, rank_fault}
use Rattle.certifier.proofs.certifying.certify.Goals as goal

pub returns-in_err-solved-clause-complete : goal.returns-in_err-solved-clause-complete
returns-in_err-solved-clause-complete g c = λ m ks s k l.
    past_solve c.in_err-solved.field-0.0 c.from_residual.result c.from_residual.ensures.1 (c.in_err-solved.ensures.complete m ks s k l)

pub returns-in_err-ranks-clause-fault : goal.returns-in_err-ranks-clause-fault
returns-in_err-ranks-clause-fault g c =
    let s = c.in_ok-solved.solved in
    rank_fault g.D.NumDomain.domain c.args.plan.now s.cells s.nodes c.in_ok-solved.ensures.cells c.in_ok-solved.ensures.solved c.in_err-ranks.field-0.0 c.from_residual-in_err-ranks.result
    c.from_residual-in_err-ranks.ensures.1 c.in_err-ranks.ensures.fault

pub made-requires-clause-cells : goal.made-requires-clause-cells
made-requires-clause-cells g c =
    let d = g.D.NumDomain.domain in
    let s = c.in_ok-solved.solved in
    over_cells d (fact_laws d g.met.D.NumDomain.laws) c.args.plan.now s.cells s.nodes c.in_ok-solved.ensures.cells c.in_ok-solved.ensures.solved

pub made-requires-clause-starts : goal.made-requires-clause-starts
made-requires-clause-starts g c =
    let d = g.D.NumDomain.domain in
    let s = c.in_ok-solved.solved in
    starts_in d (fact_laws d g.met.D.NumDomain.laws) c.args.plan.now s.cells s.nodes c.in_ok-solved.ensures.cells c.in_ok-solved.ensures.solved c.in_ok-ranks.ranks.items c.in_ok-ranks.ensures.ranks

pub bounds_of-requires-clause-limits : goal.bounds_of-requires-clause-limits
bounds_of-requires-clause-limits g c =
    let d = g.D.NumDomain.domain in
    let s = c.in_ok-solved.solved in
    (judged d (fact_laws d g.met.D.NumDomain.laws) c.args.plan.now s.cells s.nodes c.in_ok-solved.ensures.cells c.in_ok-solved.ensures.solved c.in_ok-ranks.ranks.items c.in_ok-ranks.ensures.ranks
    c.in_ok-full.full (c.in_ok-full.ensures.made ∙ ap (made c.args.plan.now s.cells s.nodes) c.deref.ensures.value) c.in_ok-full.ensures.kept c.requires.well).limits

pub bounds_of-requires-clause-local : goal.bounds_of-requires-clause-local
bounds_of-requires-clause-local g c =
    let d = g.D.NumDomain.domain in
    let s = c.in_ok-solved.solved in
    full_local d (fact_laws d g.met.D.NumDomain.laws) c.args.plan.now s.cells s.nodes c.in_ok-solved.ensures.cells c.in_ok-solved.ensures.solved c.in_ok-ranks.ranks.items c.in_ok-ranks.ensures.ranks
    c.in_ok-full.full (c.in_ok-full.ensures.made ∙ ap (made c.args.plan.now s.cells s.nodes) c.deref.ensures.value) c.in_ok-full.ensures.kept c.requires.well

pub returns-in_err-bounds-clause-complete : goal.returns-in_err-bounds-clause-complete
returns-in_err-bounds-clause-complete g c = λ m ks s k l. past_memory c.from_residual-in_err-bounds.result c.from_residual-in_err-bounds.ensures.1

pub pack-requires : goal.pack-requires
pack-requires g c =
    let d = g.D.NumDomain.domain in
    let s = c.in_ok-solved.solved in
    record {
      judged = judged d (fact_laws d g.met.D.NumDomain.laws) c.args.plan.now s.cells s.nodes c.in_ok-solved.ensures.cells c.in_ok-solved.ensures.solved c.in_ok-ranks.ranks.items c.in_ok-ranks.ensures.ranks
          c.in_ok-full.full (c.in_ok-full.ensures.made ∙ ap (made c.args.plan.now s.cells s.nodes) c.deref.ensures.value) c.in_ok-full.ensures.kept c.requires.well;
    }

pub returns-in_err-cert-clause-complete : goal.returns-in_err-cert-clause-complete
returns-in_err-cert-clause-complete g c = λ m ks s k l. past_memory c.from_residual-in_err-cert.result c.from_residual-in_err-cert.ensures.1

pub returns-clause-local : goal.returns-clause-local
returns-clause-local g c =
    let d = g.D.NumDomain.domain in
    let s = c.in_ok-solved.solved in
    packed_local d (fact_laws d g.met.D.NumDomain.laws) c.args.plan.now s.cells s.nodes c.in_ok-solved.ensures.cells c.in_ok-solved.ensures.solved c.in_ok-ranks.ranks.items c.in_ok-ranks.ensures.ranks
    c.in_ok-full.full (c.in_ok-full.ensures.made ∙ ap (made c.args.plan.now s.cells s.nodes) c.deref.ensures.value) c.in_ok-full.ensures.kept c.requires.well c.in_ok-cert.cert c.in_ok-cert.ensures.packed

pub returns-clause-bounds : goal.returns-clause-bounds
returns-clause-bounds g c =
    let d = g.D.NumDomain.domain in
    let s = c.in_ok-solved.solved in
    packed_bounds d (fact_laws d g.met.D.NumDomain.laws) c.args.plan.now s.cells s.nodes c.in_ok-solved.ensures.cells c.in_ok-solved.ensures.solved c.in_ok-ranks.ranks.items c.in_ok-ranks.ensures.ranks
    c.in_ok-full.full (c.in_ok-full.ensures.made ∙ ap (made c.args.plan.now s.cells s.nodes) c.deref.ensures.value) c.in_ok-full.ensures.kept c.requires.well c.in_ok-cert.cert c.in_ok-bounds.bounds.items c.in_ok-cert.ensures.packed c.in_ok-bounds.ensures
