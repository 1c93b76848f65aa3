use Rattle.std.proofs.Common.{sym, ◌∙◌}
use Rattle.val_dom.specs.evidence.ValLaws.{val_laws}
use Rattle.val_dom.proofs.ValMembers.{members_below}
use Rattle.val_dom.proofs.val.ValNumDomain.includes.Goals as goal

pub returns-clause-members : goal.returns-clause-members
returns-clause-members c = (
  λ h n k. val_laws.order.has c.args.other.now c.args.self.now n (record { holds = sym c.includes.ensures ∙ h }) k,
  λ f. c.includes.ensures ∙ (members_below c.args.other.now c.args.self.now f).holds,
)
