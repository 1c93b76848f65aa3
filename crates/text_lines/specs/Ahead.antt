-- What is still to be read of a text.
use Rattle.std.specs.Prelude.{ℕ, List}
use Rattle.text_lines.specs.Lines.{NumberedLine}

-- the lines to come, and the number one past the last line of the text
pub record Ahead : Type 0 where
  pub lines : List NumberedLine
  pub past_end : ℕ
