use Rattle.std.proofs.Common.{refl, arith}
use Rattle.viper_io.specs.Held.{sure_output}
use Rattle.viper_top.proofs.Apart.{sure_by}
use Rattle.viper_top.proofs.top.sure_main.Goals as goal

pub returns-clause-sure : goal.returns-clause-sure
returns-clause-sure c outside = sure_by _ _ _ (sure_output c.args.out.now) (sure_output c.viper_main.new.out) (c.viper_main.ensures.outside outside) refl refl

pub returns-clause-complete : goal.returns-clause-complete
returns-clause-complete c = λ order is enough. c.viper_main.ensures.complete order is refl (record { store = refl; sink = λ rose. omega arith }) enough

pub returns-clause-usage_where : goal.returns-clause-usage_where
returns-clause-usage_where c = λ none enough. c.viper_main.ensures.usage_where none (λ rose. omega arith) enough

pub returns-clause-ends : goal.returns-clause-ends
returns-clause-ends c = λ some enough. c.viper_main.ensures.ends some (record { store = refl; sink = λ rose. omega arith }) enough
