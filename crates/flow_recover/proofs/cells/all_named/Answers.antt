use Rattle.std.proofs.Common.{sym, ◌∙◌}
use Rattle.flow_recover.proofs.CellLemmas.{found_all, found_end}
use Rattle.flow_recover.proofs.cells.all_named.Goals as goal

pub returns : goal.returns
returns c = found_all c.args.plan.now c.loop-entry.found.keys (sym (found_end c.args.plan.now c.loop-entry.found.keys c.image_words-entry-items.result.now c.loop-entry.entry-index c.loop-entry-test.false) ∙ c.loop-entry.invariant.found)
