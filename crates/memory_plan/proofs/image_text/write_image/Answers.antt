use Rattle.std.proofs.Common.{◌∙◌, length, ap}
use Rattle.memory_plan.proofs.Written.{all_written, written_is_image, text_size}
use Rattle.memory_plan.proofs.image_text.write_image.Goals as goal

pub returns-clause-read : goal.returns-clause-read
returns-clause-read c =
    let words = c.words-entry-items.ensures in
    let text = all_written c.loop-entry.text.items c.words-entry-items.result.now c.loop-entry.entry-index c.args.image.now c.loop-entry.invariant c.loop-entry-test.false words.words in
    written_is_image c.loop-entry.text.items c.args.image.now text words.image.ascend words.image.fit

pub returns-clause-size : goal.returns-clause-size
returns-clause-size c =
    ap length (all_written c.loop-entry.text.items c.words-entry-items.result.now c.loop-entry.entry-index c.args.image.now c.loop-entry.invariant c.loop-entry-test.false c.words-entry-items.ensures.words)
    ∙ text_size c.args.image.now
