use Rattle.std.proofs.Common.{inl, sym}
use Rattle.text_lines.specs.Lines.{kept_lines}
use Rattle.text_lines.proofs.Readings.{made_all, made_broken}
use Rattle.field_asm.specs.Sources.{nothing_yet, add_line, judge_line}
use Rattle.field_asm.proofs.assembling.assemble.Goals as goal

pub returns-in-Err-clause-fault : goal.returns-in-Err-clause-fault
returns-in-Err-clause-fault c =
    inl (made_broken add_line nothing_yet judge_line (kept_lines c.args.source.now) c.loop-line.so_far c.loop-line.lines.lines c.in-Some.line.number c.in-Some.line.text.now c.next_line.new.self.lines c.in-Err.rule
    c.loop-line.invariant c.in-Some.ensures.line (sym c.in-Err.ensures))

pub resolve-requires-clause-read : goal.resolve-requires-clause-read
resolve-requires-clause-read c =
    let all = made_all add_line nothing_yet judge_line (kept_lines c.args.source.now) c.loop-line.so_far c.loop-line.lines.lines c.loop-line.invariant c.in_default.ensures.none in
    record { lines = all.0; said = all.1; is = all.2 }
