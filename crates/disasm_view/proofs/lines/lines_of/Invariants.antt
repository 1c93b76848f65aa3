use Rattle.std.proofs.Common.{◌≡◌, take}
use Rattle.memory_plan.specs.Images.{entries}
use Rattle.disasm_view.specs.Listings.{listing}
use Rattle.disasm_view.proofs.lines.lines_of.Given as goal

abbrev pub invariant-loop-entry : goal.invariant-loop-entry
invariant-loop-entry l = l.text ≡ listing (entries (take l.entry-index l.words))
