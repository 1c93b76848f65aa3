use Rattle.std.proofs.Common.{Option, IsSomeAnd, sym, subst}
use Rattle.flag_relation.specs.Facts.{FactOf, Meets}
use Rattle.flag_relation.proofs.AssumeLaws.{assume_sound}
use Rattle.flag_relation.proofs.assuming.assume.Goals as goal

pub returns-clause-keeps : goal.returns-clause-keeps
returns-clause-keeps g c = λ e m.
    let d = g.D.NumDomain.domain in
    subst (λ (o : Option (FactOf g.row.D.Denot)). IsSomeAnd o (λ f. Meets d f e c.args.truth)) (sym c.refine_by_truth.ensures.value)
    (assume_sound d g.met.D.NumDomain.laws c.args.fact.now e c.args.truth m)
