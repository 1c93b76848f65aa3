-- The names in a word, each table in the order of its codes.
use Rattle.std.specs.Prelude.{ℕ, List}
use Rattle.text_lines.specs.Parts.{tokens_of}
use Rattle.field_asm.specs.declared.tables.TheConstants.{FUNCTIONS, COMPARISONS, DESTINATIONS, MODES, REGISTERS}

abbrev pub function_names : List (List ℕ)
function_names = tokens_of FUNCTIONS.now

abbrev pub comparison_names : List (List ℕ)
comparison_names = tokens_of COMPARISONS.now

abbrev pub destination_names : List (List ℕ)
destination_names = tokens_of DESTINATIONS.now

abbrev pub mode_names : List (List ℕ)
mode_names = tokens_of MODES.now

abbrev pub register_names : List (List ℕ)
register_names = tokens_of REGISTERS.now
