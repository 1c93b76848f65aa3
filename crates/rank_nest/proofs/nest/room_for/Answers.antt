use Rattle.std.proofs.Common.{ap, sym, ◌∙◌, ◌++◌, ◌∷◌, []}
use Rattle.rank_nest.proofs.IntoLaws.{range_next}
use Rattle.rank_nest.proofs.nest.room_for.Goals as goal

pub loop-key-preserved : goal.loop-key-preserved
loop-key-preserved c = c.in_ok-push.ensures.items ∙ ap (λ l. l ++ c.loop-key.key ∷ []) c.loop-key.invariant ∙ sym (range_next c.loop-key.key)
