use Rattle.std.proofs.Common.{◌∙◌, sym, ap}
use Rattle.peripheral_run.specs.Scripts.{state_of_tokens}
use Rattle.peripheral_run.proofs.ScriptLemmas.{no_tokens}
use Rattle.peripheral_run.proofs.script_text.state_of.Goals as goal

pub returns-in_default : goal.returns-in_default
returns-in_default c = sym (ap state_of_tokens c.in_default.ensures.none ∙ no_tokens c.args.line.now)
