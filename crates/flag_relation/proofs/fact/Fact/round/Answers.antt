use Rattle.flag_relation.proofs.CoverLaws.{round_keeps}
use Rattle.flag_relation.proofs.fact.Fact.round.Goals as goal

pub returns-clause-keeps : goal.returns-clause-keeps
returns-clause-keeps g c =
    round_keeps g.D.NumDomain.domain g.met.D.NumDomain.laws c.args.self.now c.round_and_settle.new.self c.args.t.now c.round_and_settle.ensures.value
