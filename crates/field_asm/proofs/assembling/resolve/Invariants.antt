use Rattle.std.proofs.Common.{length}
use Rattle.field_asm.proofs.ResolveLemmas.{IsResolvedTo}
use Rattle.field_asm.proofs.assembling.resolve.Given as goal

abbrev pub invariant-loop-line : goal.invariant-loop-line
invariant-loop-line l = IsResolvedTo l.source l.so_far l.again l.image l.lines.lines

abbrev pub decreases-loop-line : goal.decreases-loop-line
decreases-loop-line l = length l.lines.lines
