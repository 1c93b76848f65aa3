use Rattle.val_dom.specs.Normal.{IsNormal}
use Rattle.val_dom.specs.evidence.NormalForms.{shl_normal}
use Rattle.val_dom.proofs.ValCode.{wrap_is, some_of}
use Rattle.val_dom.proofs.val.ValNumDomain.shl.Goals as goal

pub invariant_of-result : goal.invariant_of-result
invariant_of-result c = record { normal = some_of IsNormal c.in_ok-pair.pair _ (shl_normal c.args.self.now) c.in_ok-pair.ensures }

pub returns : goal.returns
returns c = wrap_is _ _ (shl_normal c.args.self.now) c.in_ok-pair.ensures
