use Rattle.std.proofs.Common.{◌∙◌}
use Rattle.fix_solver.specs.evidence.PlanLaws.{count, taken_have}
use Rattle.fix_solver.proofs.plan_rules.PlanRulesRules.outcomes.Goals as goal

pub returns-clause-room : goal.returns-clause-room
returns-clause-room g c =
    let s = c.args.self.now in
    let many = count g.D.NumDomain.domain g.met.D.NumDomain.laws s.plan.now s.cells.now s.thresholds.now c.args.fact.now c.requires.fits in
    record {
      few = c.requires.room.few;
      outs = c.outcomes.ensures.cells ∙ c.requires.room.outs;
      hand = c.requires.room.hand;
      spare = c.requires.room.spare;
      all = taken_have g.D.NumDomain.domain g.met.D.NumDomain.laws s.plan.now s.cells.now c.args.key.now.addr c.args.fact.now c.outcomes.new.scratch.outcomes c.outcomes.result many c.outcomes.ensures.outcomes;
    }
