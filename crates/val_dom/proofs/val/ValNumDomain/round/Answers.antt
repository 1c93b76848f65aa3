use Rattle.std.proofs.Common.{sym, subst}
use Rattle.val_dom.specs.Normal.{IsNormal}
use Rattle.val_dom.specs.Made.{base}
use Rattle.val_dom.specs.evidence.NormalForms.{round_normal}
use Rattle.val_dom.specs.evidence.ValLaws.{val_from}
use Rattle.val_dom.proofs.val.ValNumDomain.round.Goals as goal

pub invariant_of-result : goal.invariant_of-result
invariant_of-result c = record { normal = subst IsNormal (sym (c.round.ensures)) (round_normal c.args.self.now c.args.t.now) }

pub returns : goal.returns
returns c = val_from _ (base.round c.args.self.now.pair c.args.t.now) (c.round.ensures) (round_normal c.args.self.now c.args.t.now)
