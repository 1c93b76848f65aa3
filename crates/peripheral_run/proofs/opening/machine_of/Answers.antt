use Rattle.std.proofs.Common.{subst}
use Rattle.memory_plan.specs.Images.{ImageWords}
use Rattle.memory_plan.specs.Ranges.{Span}
use Rattle.std.proofs.Common.{List}
use Rattle.viper_next.specs.Fresh.{HasRegisters}
use Rattle.peripheral_run.specs.Scripts.{Began}
use Rattle.peripheral_run.specs.Opening.{Fills, least_in, words_over}
use Rattle.peripheral_run.proofs.Filling.{opened}
use Rattle.peripheral_run.proofs.opening.machine_of.Goals as goal

pub returns-clause-state : goal.returns-clause-state
returns-clause-state c =
    let s = c.in_ok-machine.machine.state in
    let t = c.fill_spans.new.machine.state in
    let u = c.load_words.new.machine.state in
    opened c.args.plan.now c.args.script.now.state s t u c.in_ok-machine.ensures.fresh
    (subst (λ (start : Began). HasRegisters s start.p start.a start.x start.y start.b) c.state-p.ensures c.in_ok-machine.ensures.registers)
    (subst (λ (spans : List Span). Fills s t (least_in spans s)) c.data_spans.ensures c.fill_spans.ensures.filled)
    (subst (λ (image : ImageWords). Fills t u (words_over image t)) c.image_words.ensures c.load_words.ensures.filled)
