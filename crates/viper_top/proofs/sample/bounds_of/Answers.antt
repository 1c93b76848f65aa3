use Rattle.std.proofs.Common.{ap}
use Rattle.val_dom.specs.Vals.{vals}
use Rattle.cert_checker.specs.Filling.{filled}
use Rattle.cert_checker.specs.Verdicts.{verdict_view}
use Rattle.certifier.proofs.Judging.{no_never, yes_bounds}
use Rattle.viper_top.proofs.sample.bounds_of.Goals as goal

pub prove-unreachable-requires : goal.prove-unreachable-requires
prove-unreachable-requires c =
    no_never vals c.args.plan.now (filled vals c.args.plan.now c.args.cert.now) c.requires.local c.in_ok-bounds.field-0 c.in-No.field-0 c.in-No.is c.in_ok-bounds.ensures

pub returns-in-Yes : goal.returns-in-Yes
returns-in-Yes c =
    yes_bounds vals c.args.plan.now (filled vals c.args.plan.now c.args.cert.now) c.requires.local c.in_ok-bounds.field-0 c.in-Yes.bounds.items (ap verdict_view c.in-Yes.is) c.in_ok-bounds.ensures
