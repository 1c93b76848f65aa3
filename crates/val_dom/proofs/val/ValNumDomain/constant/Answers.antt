use Rattle.std.proofs.Common.{◌≡◌, ◌∙◌, ap, sym, subst, arith, to_z, of_z, w64}
use Rattle.std.proofs.lemmas.Int.{ints}
use Rattle.val_dom.specs.Normal.{IsNormal}
use Rattle.val_dom.specs.Made.{base}
use Rattle.val_dom.specs.evidence.NormalForms.{constant_normal}
use Rattle.val_dom.specs.evidence.ValLaws.{val_from}
use Rattle.val_dom.proofs.val.ValNumDomain.constant.Goals as goal

pub invariant_of-result : goal.invariant_of-result
invariant_of-result c = let n : to_z w64 (of_z w64 c.args.n) ≡ c.args.n = omega (arith, ints) in record { normal = subst IsNormal (sym (c.constant.ensures ∙ ap base.constant n)) (constant_normal c.args.n) }

pub returns : goal.returns
returns c = let n : to_z w64 (of_z w64 c.args.n) ≡ c.args.n = omega (arith, ints) in val_from _ (base.constant c.args.n) (c.constant.ensures ∙ ap base.constant n) (constant_normal c.args.n)
