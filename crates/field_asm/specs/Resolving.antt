-- The two passes of the assembler: what the first leaves, and what a step of the second does.
use Rattle.std.specs.Prelude.{◌≡◌, ℕ, Bool, true, List, [], is_some, if◌then◌else◌}
use Rattle.text_lines.specs.Lines.{kept_lines}
use Rattle.text_lines.specs.Reading.{Say, made}
use Rattle.memory_plan.specs.Images.{ImageWords}
use Rattle.field_asm.specs.Sources.{SourceLine, Names, Is, Refers, Labels, label_at, add_word, SoFar, nothing_yet, add_line, source_grammar}

-- no line of the text breaks a rule but Label, and this is what they give
pub record IsRead (text : List ℕ) (state : SoFar) : Type 0 where
  pub lines : List SourceLine
  pub said : Say source_grammar [] (kept_lines text) lines
  pub is : state ≡ made add_line nothing_yet lines

-- is the label of a line known, where it has one?
abbrev pub is_known : Labels → SourceLine → Bool
is_known labels (Names text at) = true
is_known labels (Is at word) = true
is_known labels (Refers at fields text) = is_some (label_at labels text)

-- what a line says was added, unless its label is unknown
pub record IsAdded (labels : Labels) (before : ImageWords) (line : SourceLine) (after : ImageWords)
    (known : Bool) : Type 0 where
  pub known_is : known ≡ is_known labels line
  pub words : after ≡ (if known then add_word labels before line else before)
