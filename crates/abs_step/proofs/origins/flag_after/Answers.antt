use Rattle.std.proofs.Common.{ℕ, length, sym, subst, IfSome}
use Rattle.flag_relation.specs.declared.atom.Atom.{Atom}
use Rattle.flag_relation.specs.declared.flag.Flag.{Flag}
use Rattle.flag_relation.specs.Limits.{IsFlagOf, IsRightOf}
use Rattle.abs_step.proofs.LinkLimits.{compared_limits}
use Rattle.abs_step.proofs.origins.flag_after.Goals as goal

pub returns-clause-limits : goal.returns-clause-limits
returns-clause-limits g c =
    let count = length c.args.fact.now.cells in
    let there = subst (λ (n : ℕ). IfSome c.atom_of-atom.result (λ (a : Atom). IsRightOf n a.right)) c.requires c.atom_of-atom.ensures.there in
    subst (λ (f : Flag). IsFlagOf count f) (sym c.compared.ensures) (compared_limits count c.args.joins c.atom_of-atom.result c.flag.result there c.flag.ensures.limits)
