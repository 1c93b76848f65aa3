use Rattle.std.proofs.Common.{inl, inr, ◌∙◌}
use Rattle.viper_top.specs.Stages.{order_view}
use Rattle.viper_top.proofs.Outcomes.{place_outside, answered_by, kept_failed, kept_placed, front_left}
use Rattle.viper_top.proofs.top.carry_out.Goals as goal

pub returns-clause-answered : goal.returns-clause-answered
returns-clause-answered g c = λ answered.
    let put = c.put.ensures.put (inl answered) in
    answered_by (order_view c.args.command.now) _ _ _ c.in-Ok.answer c.put.result _ _ c.in-Ok.ensures.came c.place.ensures.handed c.place.ensures.grew.longs
    (put.0 ∙ c.status.ensures) (rw c.text.ensures at put.1) (rw c.target.ensures at c.in-Ok-place.ensures.placed)

pub returns-in-Err-Outside-place-clause-outside : goal.returns-in-Err-Outside-place-clause-outside
returns-in-Err-Outside-place-clause-outside g c = λ e.
    place_outside (order_view c.args.command.now) _ _ _ _ (c.in-Ok.ensures.came.clean) (rw c.target.ensures at (c.in-Err-Outside-place.ensures.outside c.in-Err-Outside-place.field-0-is))

pub returns-in-Err-Outside-place-clause-kept : goal.returns-in-Err-Outside-place-clause-kept
returns-in-Err-Outside-place-clause-kept g c = λ name target.
    kept_failed (order_view c.args.command.now) _ _ _ name (c.in-Ok.ensures.came.clean) target (rw c.target.ensures at (c.in-Err-Outside-place.ensures.outside c.in-Err-Outside-place.field-0-is))

pub returns-clause-outside_put : goal.returns-clause-outside_put
returns-clause-outside_put g c = λ failed.
    inr (front_left (order_view c.args.command.now) _ _ _ c.in-Ok.answer _ _ c.in-Ok.ensures.came c.place.ensures.handed c.place.ensures.grew.longs
    (c.put.ensures.outside failed) (rw c.text.ensures at (c.put.ensures.front failed)))

pub returns-clause-kept : goal.returns-clause-kept
returns-clause-kept g c = λ name target.
    kept_placed (order_view c.args.command.now) _ _ _ c.put.result name c.in-Ok.answer c.in-Ok.ensures.stays c.in-Ok.ensures.came c.place.ensures.handed c.place.ensures.grew.longs target
    (rw c.target.ensures at c.in-Ok-place.ensures.placed) c.place.ensures.quiet
