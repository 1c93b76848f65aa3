use Rattle.std.proofs.Common.{not, sym, ◌∙◌, ap}
use Rattle.flag_relation.proofs.OrderLaws.{facts_same, facts_change}
use Rattle.flag_relation.proofs.CoverLaws.{included_covers, join_keeps, join_takes}
use Rattle.flag_relation.proofs.fact.Fact.join_with.Goals as goal

pub returns-then-grows-clause-changed : goal.returns-then-grows-clause-changed
returns-then-grows-clause-changed g c = (
  λ t k. facts_change g.D.NumDomain.domain g.met.D.NumDomain.laws c.args.self.now c.args.other.now c.requires.cells (sym c.includes-grows.ensures.value ∙ c.if-grows.true) (sym c.join_all.ensures.value ∙ k),
  λ k. ap not c.if-grows.true,
)

pub returns-then-grows-clause-keeps : goal.returns-then-grows-clause-keeps
returns-then-grows-clause-keeps g c =
    join_keeps g.D.NumDomain.domain g.met.D.NumDomain.laws c.args.self.now c.args.other.now c.join_all.new.self c.requires.cells c.join_all.ensures.value

pub returns-then-grows-clause-takes : goal.returns-then-grows-clause-takes
returns-then-grows-clause-takes g c =
    join_takes g.D.NumDomain.domain g.met.D.NumDomain.laws c.args.self.now c.args.other.now c.join_all.new.self c.requires.cells c.join_all.ensures.value

pub returns-else-grows-clause-value : goal.returns-else-grows-clause-value
returns-else-grows-clause-value g c =
    sym (facts_same g.D.NumDomain.domain g.met.D.NumDomain.laws c.args.self.now c.args.other.now (sym c.includes-grows.ensures.value ∙ c.if-grows.false))

pub returns-else-grows-clause-takes : goal.returns-else-grows-clause-takes
returns-else-grows-clause-takes g c =
    included_covers g.D.NumDomain.domain g.met.D.NumDomain.laws c.args.self.now c.args.other.now (sym c.includes-grows.ensures.value ∙ c.if-grows.false)
