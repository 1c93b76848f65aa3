use Rattle.std.proofs.Common.{◌≡◌, true, Option, arith, sym, subst}
use Rattle.abs_step.specs.Conditions.{targets_lawful}
use Rattle.abs_step.proofs.JumpRoom.{few_targets}
use Rattle.abs_step.proofs.making.jump.Goals as goal

pub keep_targets-requires-clause-room : goal.keep_targets-requires-clause-room
keep_targets-requires-clause-room g c =
    let d = g.D.NumDomain.domain in
    let plan = c.args.plan.now in
    let lawful = subst (λ (o : Option g.row.D.Denot). targets_lawful d plan o ≡ true) (sym c.in-Some.ensures) c.requires.targets in
    let few = few_targets d plan c.in-Some.target lawful in
    let room = c.requires.room in
    omega arith
