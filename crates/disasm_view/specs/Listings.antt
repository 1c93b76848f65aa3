-- The listing of an image: a line of source for each word.
use Rattle.std.specs.Prelude.{ℕ, List, [], ◌++◌, codes, slice_get, unwrap_or, if◌then◌else◌}
use Rattle.std.specs.List.{flat_map}
use Rattle.viper_word.specs.Digits.{address_digits}
use Rattle.viper_word.specs.Fields.{Fields, fields_of}
use Rattle.memory_plan.specs.Images.{ImageWords}
use Rattle.field_asm.specs.Tables.{function_names, comparison_names, destination_names, mode_names, register_names}

-- the name of a code
abbrev pub name_of : List (List ℕ) → ℕ → List ℕ
name_of names code = unwrap_or (slice_get names code) []

abbrev pub operation_name : Fields → List ℕ
operation_name i = if i.c then name_of comparison_names i.f else name_of function_names i.f

-- a token behind others
abbrev pub spaced : List ℕ → List ℕ
spaced token = codes " " ++ token

-- `AAAAA NAME R MODE DEST FIELD`, with single spaces
abbrev pub fields_line : ℕ → Fields → List ℕ
fields_line at i =
    address_digits at ++ (spaced (operation_name i) ++ (spaced (name_of register_names i.r)
    ++ (spaced (name_of mode_names i.m) ++ (spaced (name_of destination_names i.d) ++ spaced (address_digits i.field)))))

-- the line of a word at an address, without its end
unfoldable pub source_line : ℕ → ℕ → List ℕ
source_line at word = fields_line at (fields_of word)

-- how many bytes a line has at the most, with its LF
abbrev pub MOST_LINE : ℕ
MOST_LINE = 28

-- a line for each word, in order of addresses, each with its LF
abbrev pub listing : ImageWords → List ℕ
listing image = flat_map (λ e. source_line e.0 e.1 ++ codes "\n") image
