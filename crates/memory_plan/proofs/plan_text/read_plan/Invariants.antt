use Rattle.std.proofs.Common.{◌≡◌, length}
use Rattle.text_lines.specs.Lines.{kept_lines, past_end}
use Rattle.memory_plan.proofs.PlanTextLemmas.{HasRead}
use Rattle.memory_plan.proofs.plan_text.read_plan.Given as goal

abbrev pub invariant-loop-line : goal.invariant-loop-line
invariant-loop-line l = record {
  read : HasRead l.image (kept_lines l.text) (record { plan = l.plan; latest = l.latest }) l.lines.lines;
  end : l.lines.past_end ≡ past_end l.text;
}

abbrev pub decreases-loop-line : goal.decreases-loop-line
decreases-loop-line l = length l.lines.lines
