use Rattle.std.proofs.Common.{sym, ◌∙◌, ap}
use Rattle.viper_decode.specs.declared.instructions.Shift.{Shift}
use Rattle.abs_step.specs.Results.{move}
use Rattle.abs_step.proofs.results.shifted.Goals as goal

pub returns-in-Right : goal.returns-in-Right
unfolding move
returns-in-Right g c = c.sar.ensures ∙ ap (λ (s : Shift). move g.D.NumDomain.domain s c.args.r.now c.args.b) (sym c.in-Right.is)

pub returns-in-RightThroughB : goal.returns-in-RightThroughB
unfolding move
returns-in-RightThroughB g c = c.right_through.ensures ∙ ap (λ (s : Shift). move g.D.NumDomain.domain s c.args.r.now c.args.b) (sym c.in-RightThroughB.is)

pub returns-in-Left : goal.returns-in-Left
unfolding move
returns-in-Left g c = c.shl.ensures ∙ ap (λ (s : Shift). move g.D.NumDomain.domain s c.args.r.now c.args.b) (sym c.in-Left.is)

pub returns-in-LeftThroughB : goal.returns-in-LeftThroughB
unfolding move
returns-in-LeftThroughB g c = c.left_through.ensures ∙ ap (λ (s : Shift). move g.D.NumDomain.domain s c.args.r.now c.args.b) (sym c.in-LeftThroughB.is)
