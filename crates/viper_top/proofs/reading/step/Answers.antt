use Rattle.viper_top.specs.Stages.{left}
use Rattle.viper_top.proofs.Walking.{step_took, step_long, step_failed, fits_in}
use Rattle.viper_top.proofs.reading.step.Goals as goal

pub returns-in-Ok-clause-stepped : goal.returns-in-Ok-clause-stepped
returns-in-Ok-clause-stepped g c =
    step_took (left c.args.stage) _ _ _ c.in-Ok.bytes.items _ _ _ c.asked-asked.ensures (rw c.in-Ok.is at c.fetch.ensures.handed) c.in-Ok.ensures.content c.in-Ok.ensures.within
    (rw c.deref.ensures.value at c.in_ok-take-in-Ok.ensures.took) (rw c.in-Ok.is at c.fetch.ensures.failures)

pub returns-in-Err-Failed-clause-stepped : goal.returns-in-Err-Failed-clause-stepped
returns-in-Err-Failed-clause-stepped g c =
    step_failed (left c.args.stage) _ _ _ _ _ c.asked-asked.ensures (rw (c.in-Err-Failed.is, c.in-Err-Failed.field-0-is) at c.fetch.ensures.handed)
    (rw (c.in-Err-Failed.is, c.in-Err-Failed.field-0-is) at c.fetch.ensures.failures)

pub returns-in-Err-Long-clause-stepped : goal.returns-in-Err-Long-clause-stepped
returns-in-Err-Long-clause-stepped g c =
    step_long (left c.args.stage) _ _ _ _ _ c.in_ok-too_long-in-Err-Long.field-0 c.asked-asked.ensures (rw (c.in-Err-Long.is, c.in-Err-Long.field-0-is) at c.fetch.ensures.handed)
    (c.in-Err-Long.ensures.too_long c.in-Err-Long.field-0-is) (rw (c.in-Err-Long.is, c.in-Err-Long.field-0-is) at c.fetch.ensures.longs)
    c.in_ok-too_long-in-Err-Long.ensures (rw (c.in-Err-Long.is, c.in-Err-Long.field-0-is) at c.fetch.ensures.failures)

pub take-requires : goal.take-requires
take-requires g c = fits_in (left c.args.stage) _ _ _ _ c.asked-asked.ensures (rw c.deref.ensures.value c.in-Ok.ensures.within)
