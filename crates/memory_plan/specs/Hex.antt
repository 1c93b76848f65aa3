-- Hexadecimal numbers in digits of either case.
use Rattle.std.specs.Prelude.{ℕ, ◌+◌, ◌*◌, ◌==◌, List, [], ◌∷◌, length, Option, Some, None, if◌then◌else◌}
use Rattle.hex.specs.Hex.{hex_digit_value}
use Rattle.text_lines.specs.Parts.{◌>>=◌}

-- the number that digits make behind those of another; none where a byte is no digit
abbrev pub hex_behind : ℕ → List ℕ → Option ℕ
hex_behind n [] = Some n
hex_behind n (c ∷ cs) = hex_digit_value c >>= λ v. hex_behind (n * 16 + v) cs

-- the number of so many digits; none where the text isn't that
unfoldable pub hex_number : ℕ → List ℕ → Option ℕ
hex_number count text = if length text == count then hex_behind 0 text else None
