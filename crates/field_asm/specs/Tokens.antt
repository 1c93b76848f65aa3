-- The tokens of a source's lines: digits in upper case, labels and names.
use Rattle.std.specs.Prelude.{ℕ, Bool, true, false, ◌&&◌, ◌||◌, ◌==◌, not, nat_le, List, [], ◌∷◌, length, Option, Some, None, if◌then◌else◌}
use Rattle.std.specs.List.{list_any}
use Rattle.memory_plan.specs.Hex.{hex_number}
use Rattle.field_asm.specs.Names.{code_of}
use Rattle.field_asm.specs.Tables.{function_names, comparison_names, destination_names, mode_names, register_names}
use Rattle.field_asm.specs.declared.tokens.TheConstants.{MOST_LABEL}

abbrev pub is_lower : ℕ → Bool
is_lower c = nat_le 97 c && nat_le c 122

abbrev pub is_digit : ℕ → Bool
is_digit c = nat_le 48 c && nat_le c 57

-- the number of so many digits, of which none is in lower case
abbrev pub upper_number : ℕ → List ℕ → Option ℕ
upper_number count text = if list_any is_lower text then None else hex_number count text

-- a byte that may stand in a label: a lower-case letter, a digit or `_`
abbrev pub is_label_byte : ℕ → Bool
is_label_byte c = is_lower c || (is_digit c || (c == 95))

abbrev pub begins_label : List ℕ → Bool
begins_label [] = false
begins_label (c ∷ cs) = is_lower c

-- one lower-case letter, and at most 31 bytes that may stand in a label behind it
abbrev pub is_label : List ℕ → Bool
is_label text =
    begins_label text && (nat_le (length text) MOST_LABEL
    && not (list_any (λ c. not (is_label_byte c)) text))

-- what a name says of a word: whether it is a comparison, and its function or comparison
abbrev pub either_code : Option ℕ → Option ℕ → Option (Bool × ℕ)
either_code (Some f) other = Some (false, f)
either_code None (Some f) = Some (true, f)
either_code None None = None

abbrev pub operation_of : List ℕ → Option (Bool × ℕ)
operation_of name = either_code (code_of function_names name) (code_of comparison_names name)

abbrev pub register_of : List ℕ → Option ℕ
register_of name = code_of register_names name

abbrev pub mode_of : List ℕ → Option ℕ
mode_of name = code_of mode_names name

abbrev pub destination_of : List ℕ → Option ℕ
destination_of name = code_of destination_names name
