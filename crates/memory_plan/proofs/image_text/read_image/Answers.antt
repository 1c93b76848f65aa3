use Rattle.text_lines.specs.Lines.{every_line}
use Rattle.text_lines.proofs.Readings.{read_all, read_broken}
use Rattle.memory_plan.specs.Images.{image_grammar}
use Rattle.memory_plan.proofs.ImageLemmas.{image_said}
use Rattle.memory_plan.proofs.image_text.read_image.Goals as goal

pub returns-in-Err-clause-fault : goal.returns-in-Err-clause-fault
returns-in-Err-clause-fault c =
    read_broken image_grammar (every_line c.args.text.now) c.loop-line.image c.loop-line.lines.lines c.in-Some.line.number c.in-Some.line.text.now c.next_line.new.self.lines c.in-Err.rule
    c.loop-line.invariant.so_far c.in-Some.ensures.line c.in-Err.ensures

pub returns-clause-image : goal.returns-clause-image
returns-clause-image c = image_said c.args.text.now c.loop-line.image (read_all image_grammar (every_line c.args.text.now) c.loop-line.image c.loop-line.lines.lines c.loop-line.invariant.so_far c.in_default.ensures.none)
