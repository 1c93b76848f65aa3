use Rattle.std.proofs.Common.{◌∙◌, ◌≤◌, arith}
use Rattle.sample_program.proofs.PlanReading.{is_sample, no_fault}
use Rattle.sample_program.proofs.plan.sample_plan.Goals as goal

pub returns-in-Ok-clause-plan : goal.returns-in-Ok-clause-plan
returns-in-Ok-clause-plan c =
    let few : c.args.loops ≤ 1000 = omega (arith, c.get-few.ensures.number, c.get-few.ensures.few) in
    is_sample c.args.loops c.in_ok-image.image c.bytes.result.now c.in-Ok.plan few c.in_ok-image.ensures (c.bytes.ensures ∙ c.in_ok-text.ensures) c.in-Ok.ensures.plan

pub prove-unreachable-requires : goal.prove-unreachable-requires
prove-unreachable-requires c =
    let few : c.args.loops ≤ 1000 = omega (arith, c.get-few.ensures.number, c.get-few.ensures.few) in
    no_fault c.args.loops c.in_ok-image.image c.bytes.result.now c.in-Err-At.field-0-0 c.in-Err-At.field-0-1 few c.in_ok-image.ensures (c.bytes.ensures ∙ c.in_ok-text.ensures) (rw c.in-Err-At.field-0-is at c.in-Err-At.ensures.fault)
