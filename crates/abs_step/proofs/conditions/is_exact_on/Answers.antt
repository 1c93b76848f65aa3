use Rattle.std.proofs.Common.{sym, ◌∙◌, ap, Option}
use Rattle.num_domain.specs.Ends.{ends}
use Rattle.abs_step.specs.Conditions.{function_exact, ends_of}
use Rattle.abs_step.proofs.EndTests.{exact_none}
use Rattle.abs_step.proofs.conditions.is_exact_on.Goals as goal

pub returns-in-None : goal.returns-in-None
returns-in-None g c =
    let d = g.D.NumDomain.domain in
    sym (ap (λ (o : Option g.row.D.Denot). function_exact d c.args.profile c.args.function (ends d c.args.r.now) (ends_of d o)) c.in-None.is ∙ exact_none d c.args.profile c.args.function (ends d c.args.r.now))
