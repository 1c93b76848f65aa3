use Rattle.std.proofs.Common.{length}
use Rattle.text_lines.specs.Lines.{kept_lines}
use Rattle.text_lines.proofs.Readings.{IsReadTo}
use Rattle.peripheral_run.specs.Scripts.{began, script_grammar}
use Rattle.peripheral_run.proofs.ScriptLemmas.{so_far}
use Rattle.peripheral_run.proofs.script_text.read_script.Given as goal

abbrev pub invariant-loop-line : goal.invariant-loop-line
invariant-loop-line l = IsReadTo script_grammar (kept_lines l.text) (so_far (began l.state) l.answers.items) l.lines.lines

abbrev pub decreases-loop-line : goal.decreases-loop-line
decreases-loop-line l = length l.lines.lines
