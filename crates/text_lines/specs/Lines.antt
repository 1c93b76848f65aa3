-- The lines of a text, with their numbers.
use Rattle.std.specs.Prelude.{◌≡◌, ℕ, ◌+◌, ◌==◌, ◌&&◌, Bool, true, false, if◌then◌else◌, List, [], ◌∷◌, length}
use Rattle.std.specs.List.{slice_split}
use Rattle.text_lines.specs.declared.cutting.TheConstants.{LF}
use Rattle.text_lines.specs.declared.lines.TheConstants.{COMMENT}

-- a last part that is empty is no line
abbrev pub if_some : List ℕ → List (List ℕ)
if_some [] = []
if_some (b ∷ bs) = (b ∷ bs) ∷ []

-- the parts between a text's line feeds as lines
abbrev pub without_empty_end : List (List ℕ) → List (List ℕ)
without_empty_end [] = []
without_empty_end (l ∷ []) = if_some l
without_empty_end (l ∷ m ∷ ls) = l ∷ without_empty_end (m ∷ ls)

-- the lines of a text: each ends with a line feed, which the last may lack
unfoldable pub lines_of : List ℕ → List (List ℕ)
lines_of text = without_empty_end (slice_split (λ b. b == LF) text)

-- is the line empty, or does it begin with `#`?
abbrev pub is_skipped : List ℕ → Bool
is_skipped [] = true
is_skipped (b ∷ bs) = b == COMMENT

-- a line with its number
pub record NumberedLine : Type 0 where
  pub number : ℕ
  pub text : List ℕ

-- a line before others, or without it where it is left out
abbrev pub unless : Bool → NumberedLine → List NumberedLine → List NumberedLine
unless left_out line others = if left_out then others else line ∷ others

-- lines with their numbers, of which the first has this one; where they are to be skipped, empty
-- lines and comments are counted and left out
abbrev pub numbered : Bool → ℕ → List (List ℕ) → List NumberedLine
numbered skips n [] = []
numbered skips n (l ∷ ls) =
    unless (skips && is_skipped l) (record { number = n; text = l }) (numbered skips (n + 1) ls)

-- all lines of a text
abbrev pub every_line : List ℕ → List NumberedLine
every_line text = numbered false 1 (lines_of text)

-- those that aren't skipped
abbrev pub kept_lines : List ℕ → List NumberedLine
kept_lines text = numbered true 1 (lines_of text)

-- the number one past the last line
abbrev pub past_end : List ℕ → ℕ
past_end text = 1 + length (lines_of text)

-- The first of these lines that isn't left out has this number and text, and those are behind it.
pub record IsNext (skips : Bool) (first : ℕ) (lines : List (List ℕ)) (number : ℕ) (line : List ℕ)
    (behind : List (List ℕ)) : Type 0 where
  pub is : numbered skips first lines
      ≡ record { number = number; text = line } ∷ numbered skips (number + 1) behind
  pub count : number + 1 + length behind ≡ first + length lines
