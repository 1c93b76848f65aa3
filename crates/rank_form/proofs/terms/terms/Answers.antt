use Rattle.std.proofs.Common.{sym, subst, ◌^◌, ℤ, List}
use Rattle.flag_relation.specs.declared.var.Var.{Var}
use Rattle.rank_form.specs.Rates.{AreSmall}
use Rattle.rank_form.proofs.Limits.{form_small}
use Rattle.rank_form.proofs.terms.terms.Goals as goal

pub returns-clause-small : goal.returns-clause-small
returns-clause-small c = subst (λ (ts : List (Var × ℤ)). AreSmall (2 ^ 43) ts) (sym c.terms.ensures.all) (form_small c.args.form.now.constant c.args.form.now.terms c.terms.ensures.limits).1
