use Rattle.std.proofs.Common.{◌≡◌, ℕ, ◌<◌, get_or}
use Rattle.memory_plan.specs.declared.start.Start.{Start}
use Rattle.peripheral_run.specs.Scripts.{began, LineAllows}
use Rattle.peripheral_run.proofs.script_text.allows_state.Given as goal

abbrev pub invariant-loop-line : goal.invariant-loop-line
invariant-loop-line l = (i : ℕ) (line : Start) → i < l.line-index → get_or l.starts i line ≡ line → LineAllows line (began l.state) → ⊥
