use Rattle.std.proofs.Common.{not, sym, ◌∙◌, ap}
use Rattle.flag_relation.specs.Emptiness.{is_empty}
use Rattle.flag_relation.proofs.CoverLaws.{empty_unmet}
use Rattle.flag_relation.proofs.fact.Fact.is_empty.Goals as goal

pub returns-clause-unmet : goal.returns-clause-unmet
unfolding is_empty
returns-clause-unmet g c = λ t.
    empty_unmet g.D.NumDomain.domain g.met.D.NumDomain.laws c.args.self.now (sym (ap not c.have_all_ends.ensures) ∙ t)
