-- How the definitions see what the program keeps: references as what they lead to.
use Rattle.std.specs.Prelude.{ℕ, List, map, Result, Ok, Err}
use Rattle.std.specs.Borrow.{Bor}
use Rattle.field_asm.specs.declared.fault.AsmRule.{AsmRule}
use Rattle.field_asm.specs.declared.source_line.Said.{Said}
use Rattle.field_asm.specs.declared.source_line.Said.TheVariants as said
use Rattle.field_asm.specs.Sources.{SourceLine, Names, Is, Refers, Labels}

abbrev pub line_view : Said → SourceLine
line_view (said.Names text at) = Names text.now at
line_view (said.Is at word) = Is at word.0
line_view (said.Refers at fields text) = Refers at fields text.now

abbrev pub judged : Result Said AsmRule → Result SourceLine AsmRule
judged (Ok line) = Ok (line_view line)
judged (Err rule) = Err rule

abbrev pub labels_view : List (Bor (List ℕ) × ℕ) → Labels
labels_view entries = map (λ e. (e.0.now, e.1)) entries
