use Rattle.val_dom.specs.Normal.{IsNormal}
use Rattle.val_dom.specs.evidence.NormalForms.{bit_and_normal}
use Rattle.val_dom.proofs.ValCode.{wrap_is, some_of}
use Rattle.val_dom.proofs.val.ValNumDomain.bit_and.Goals as goal

pub invariant_of-result : goal.invariant_of-result
invariant_of-result c = record { normal = some_of IsNormal c.in_ok-pair.pair _ (bit_and_normal c.args.self.now c.args.other.now) c.in_ok-pair.ensures }

pub returns : goal.returns
returns c = wrap_is _ _ (bit_and_normal c.args.self.now c.args.other.now) c.in_ok-pair.ensures
