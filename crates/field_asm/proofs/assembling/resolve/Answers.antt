use Rattle.field_asm.specs.Views.{line_view}
use Rattle.field_asm.proofs.ResolveLemmas.{resolved_more, resolved_unknown, resolved_broken, resolved_all}
use Rattle.field_asm.proofs.assembling.resolve.Goals as goal

pub returns-then-not-branch-clause-fault : goal.returns-then-not-branch-clause-fault
returns-then-not-branch-clause-fault c =
    resolved_unknown c.args.source.now c.args.so_far.now c.loop-line.again c.loop-line.image c.add_word.new.image c.loop-line.lines.lines c.next_line.new.self.lines c.in-Some.line.number c.in-Some.line.text.now
    (line_view c.in-Ok.said) c.in_ok-add_word-in-Ok.field-0 c.loop-line.invariant c.in-Some.ensures.line c.in-Ok.ensures c.in_ok-add_word-in-Ok.ensures.added c.if-not-branch.true

pub loop-line-preserved : goal.loop-line-preserved
loop-line-preserved c =
    resolved_more c.args.source.now c.args.so_far.now c.loop-line.again c.add.new.self c.loop-line.image c.add_word.new.image c.loop-line.lines.lines c.next_line.new.self.lines c.in-Some.line.number c.in-Some.line.text.now
    (line_view c.in-Ok.said) c.in_ok-add_word-in-Ok.field-0 c.loop-line.invariant c.in-Some.ensures.line c.in-Ok.ensures c.in_ok-add_word-in-Ok.ensures.added c.if-not-branch.false c.in_ok-add-in-Ok.ensures

pub returns-in-Err-clause-fault : goal.returns-in-Err-clause-fault
returns-in-Err-clause-fault c =
    resolved_broken c.args.source.now c.args.so_far.now c.loop-line.again c.loop-line.image c.loop-line.lines.lines c.next_line.new.self.lines c.in-Some.line.number c.in-Some.line.text.now c.in-Err.rule
    c.loop-line.invariant c.in-Some.ensures.line c.in-Err.ensures

pub returns-clause-image : goal.returns-clause-image
returns-clause-image c = resolved_all c.args.source.now c.args.so_far.now c.loop-line.again c.loop-line.image c.loop-line.lines.lines c.loop-line.invariant c.in_default.ensures.none
