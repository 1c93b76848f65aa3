use Rattle.std.proofs.Common.{length}
use Rattle.text_lines.specs.Lines.{kept_lines}
use Rattle.text_lines.proofs.Readings.{HasMade}
use Rattle.field_asm.specs.Sources.{nothing_yet, add_line, judge_line}
use Rattle.field_asm.proofs.assembling.assemble.Given as goal

abbrev pub invariant-loop-line : goal.invariant-loop-line
invariant-loop-line l = HasMade add_line nothing_yet judge_line (kept_lines l.source) l.so_far l.lines.lines

abbrev pub decreases-loop-line : goal.decreases-loop-line
decreases-loop-line l = length l.lines.lines
