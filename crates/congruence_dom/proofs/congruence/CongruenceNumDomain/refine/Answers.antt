use Rattle.std.proofs.Common.{subst, sym, ◌∙◌, Option, IfSome}
use Rattle.congruence_dom.specs.evidence.CommonMembers.{AreCommonMembers}
use Rattle.congruence_dom.specs.declared.congruence.Congruence.{Congruence}
use Rattle.congruence_dom.proofs.CommonRow.{common_row, common_none}
use Rattle.congruence_dom.proofs.congruence.CongruenceNumDomain.refine.Goals as goal

pub returns-in-Eq-clause-common : goal.returns-in-Eq-clause-common
returns-in-Eq-clause-common c e = subst (λ (o : Option Congruence). IfSome o (AreCommonMembers c.args.self.now c.args.other.now)) (sym c.common.ensures) (common_row c.args.self.now c.args.other.now)

pub returns-in-Eq-clause-none : goal.returns-in-Eq-clause-none
returns-in-Eq-clause-none c e f n h = common_none c.args.self.now c.args.other.now (sym c.common.ensures ∙ f) n h
