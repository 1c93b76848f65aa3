use Rattle.std.proofs.Common.{◌≡◌, ◌∙◌, ap, arith, to_z, of_z, w64}
use Rattle.std.proofs.lemmas.Int.{ints}
use Rattle.val_dom.specs.Normal.{IsNormal}
use Rattle.val_dom.specs.Made.{base}
use Rattle.val_dom.specs.evidence.NormalForms.{moved_normal}
use Rattle.val_dom.proofs.ValCode.{wrap_is, some_of}
use Rattle.val_dom.proofs.val.ValNumDomain.moved.Goals as goal

pub invariant_of-result : goal.invariant_of-result
invariant_of-result c = record { normal = some_of IsNormal c.in_ok-pair.pair _ (moved_normal c.args.self.now (to_z w64 (of_z w64 c.args.by))) c.in_ok-pair.ensures }

pub returns : goal.returns
returns c =
    let k : to_z w64 (of_z w64 c.args.by) ≡ c.args.by = omega (arith, ints) in
    wrap_is _ _ (moved_normal c.args.self.now c.args.by) (c.in_ok-pair.ensures ∙ ap (base.moved c.args.self.now.pair) k)
