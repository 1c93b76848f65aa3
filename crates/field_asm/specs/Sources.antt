-- Source texts: what a line says after the lines before it, and the image that a whole text makes.
use Rattle.std.specs.Prelude.{◌≡◌, ℕ, ◌+◌, ◌^◌, nat_lt, List, [], ◌∷◌, ◌++◌, Option, Some, None, is_some, Result, Ok, Err, if◌then◌else◌, codes}
use Rattle.std.specs.Option.{ok_or}
use Rattle.std.specs.Str.{bytes_eq}
use Rattle.viper_word.specs.Fields.{Fields, word_of}
use Rattle.text_lines.specs.Lines.{kept_lines}
use Rattle.text_lines.specs.Parts.{tokens_of, two, three, six}
use Rattle.text_lines.specs.Reading.{Grammar, made, grammar_by, SayAfter, BreaksAfter}
use Rattle.line_text.specs.declared.digits.TheConstants.{ADDRESS_DIGITS, WORD_DIGITS}
use Rattle.memory_plan.specs.Images.{ImageWords, word_at, with_word}
use Rattle.field_asm.specs.Tokens.{upper_number, begins_label, is_label, operation_of, register_of, mode_of, destination_of}
use Rattle.field_asm.specs.declared.fault.AsmRule.{AsmRule}
use Rattle.field_asm.specs.declared.fault.AsmRule.TheVariants as rules
use Rattle.field_asm.specs.declared.fault.AsmFault.{AsmFault}
use Rattle.field_asm.specs.declared.fault.AsmFault.TheVariants.{At, Memory}

-- one step that may break a rule, and then another
infixl 10 ◌>>=◌
abbrev pub ◌>>=◌ : {A B : Type 0} → Result A AsmRule → (A → Result B AsmRule) → Result B AsmRule
Ok x >>= f = f x
Err rule >>= f = Err rule

-- what a line says: a label for an address; a word at an address; or such a word whose field is the
-- address of a label
pub data SourceLine : Type 0 where
  Names : List ℕ → ℕ → SourceLine
  Is : ℕ → ℕ → SourceLine
  Refers : ℕ → Fields → List ℕ → SourceLine

-- the labels so far, each with its address
abbrev pub Labels : Type 0
Labels = List (List ℕ × ℕ)

abbrev pub label_at : Labels → List ℕ → Option ℕ
label_at [] text = None
label_at (l ∷ ls) text = if bytes_eq text l.0 then Some l.1 else label_at ls text

-- What the lines so far gave: the address that `+` stands for, which is 2^20 behind the last
-- address; the words at their addresses, labels still left out of their fields; and the labels.
pub record SoFar : Type 0 where
  pub next : ℕ
  pub words : ImageWords
  pub labels : Labels

abbrev pub nothing_yet : SoFar
nothing_yet = record { next = 0; words = []; labels = [] }

-- a word more, where its address has none; and a label more, where there is none of its name
abbrev pub put_word : ImageWords → ℕ → ℕ → ImageWords
put_word words at word = if is_some (word_at words at) then words else with_word words at word

abbrev pub put_label : Labels → List ℕ → ℕ → Labels
put_label labels text at =
    if is_some (label_at labels text) then labels else labels ++ (text, at) ∷ []

abbrev pub add_line : SoFar → SourceLine → SoFar
add_line s (Names text at) = record s { labels = put_label s.labels text at }
add_line s (Is at word) = record s { next = at + 1; words = put_word s.words at word }
add_line s (Refers at fields text) =
    record s { next = at + 1; words = put_word s.words at (word_of fields) }

-- ---- a line, after those before it

-- the address that `+` stands for
abbrev pub next_place : SoFar → Result ℕ AsmRule
next_place s = if nat_lt s.next (2 ^ 20) then Ok s.next else Err rules.Range

-- an address that no line gave
abbrev pub unless_given : SoFar → ℕ → Result ℕ AsmRule
unless_given s at = if is_some (word_at s.words at) then Err rules.Twice else Ok at

-- `+`, or five digits
abbrev pub written_place : SoFar → List ℕ → Result ℕ AsmRule
written_place s token =
    if bytes_eq token (codes "+") then next_place s
    else ok_or (upper_number ADDRESS_DIGITS token) rules.Number

abbrev pub place_of : SoFar → List ℕ → Result ℕ AsmRule
place_of s token = written_place s token >>= λ at. unless_given s at

-- a label that no line gave, for the address that `+` stands for
abbrev pub unless_named : SoFar → List ℕ → ℕ → Result SourceLine AsmRule
unless_named s text at =
    if is_some (label_at s.labels text) then Err rules.Twice else Ok (Names text at)

abbrev pub label_line : SoFar → List ℕ → Result SourceLine AsmRule
label_line s text =
    if is_label text then (next_place s >>= λ at. unless_named s text at)
    else Err rules.Name

-- a word in digits
abbrev pub word_line : SoFar → List ℕ → List ℕ → Result SourceLine AsmRule
word_line s place digits = do
  at ← place_of s place
  word ← ok_or (upper_number WORD_DIGITS digits) rules.Number
  Ok (Is at word)

-- a word of these numbers with a FIELD: a label where it begins as one, and else five digits
abbrev pub with_field : ℕ → Fields → List ℕ → Result SourceLine AsmRule
with_field at fields token =
    if begins_label token
    then (if is_label token then Ok (Refers at fields token) else Err rules.Name)
    else (ok_or (upper_number ADDRESS_DIGITS token) rules.Number
    >>= λ n. Ok (Is at (word_of (record fields { field = n }))))

-- a word by the names of its parts
abbrev pub coded_line : SoFar → List ℕ × List ℕ × List ℕ × List ℕ × List ℕ × List ℕ
    → Result SourceLine AsmRule
coded_line s t = do
  at ← place_of s t.0
  operation ← ok_or (operation_of t.1) rules.Name
  r ← ok_or (register_of t.2) rules.Name
  m ← ok_or (mode_of t.3) rules.Name
  d ← ok_or (destination_of t.4) rules.Name
  with_field at (record { r = r; m = m; d = d; c = operation.0; f = operation.1; field = 0 }) t.5

-- two tokens with `label` first, three with `WORD` second, or six
abbrev pub by_shape : SoFar → Option (List ℕ × List ℕ) → Option (List ℕ × List ℕ × List ℕ)
    → Option (List ℕ × List ℕ × List ℕ × List ℕ × List ℕ × List ℕ) → Result SourceLine AsmRule
by_shape s (Some t) three six =
    if bytes_eq t.0 (codes "label") then label_line s t.1 else Err rules.Form
by_shape s None (Some t) six =
    if bytes_eq t.1 (codes "WORD") then word_line s t.0 t.2 else Err rules.Form
by_shape s None None (Some t) = coded_line s t
by_shape s None None None = Err rules.Form

unfoldable pub judge_line : SoFar → List ℕ → Result SourceLine AsmRule
judge_line s line =
    by_shape s (two (tokens_of line)) (three (tokens_of line)) (six (tokens_of line))

abbrev pub source_grammar : Grammar SourceLine AsmRule
source_grammar = grammar_by add_line nothing_yet judge_line

-- ---- labels, once all lines are known

abbrev pub labels_of : List SourceLine → Labels
labels_of lines = (made add_line nothing_yet lines).labels

-- a line whose label is known
abbrev pub unless_unknown : Labels → SourceLine → Result SourceLine AsmRule
unless_unknown labels (Names text at) = Ok (Names text at)
unless_unknown labels (Is at word) = Ok (Is at word)
unless_unknown labels (Refers at fields text) =
    if is_some (label_at labels text) then Ok (Refers at fields text) else Err rules.Label

abbrev pub label_grammar : List SourceLine → Grammar SourceLine AsmRule
label_grammar lines before line = source_grammar before line >>= unless_unknown (labels_of lines)

-- ---- the whole text

-- the word of the numbers with a label's address as their field
abbrev pub word_with : Fields → Option ℕ → ℕ
word_with fields None = word_of fields
word_with fields (Some at) = word_of (record fields { field = at })

-- the words of an image with what a line says
abbrev pub add_word : Labels → ImageWords → SourceLine → ImageWords
add_word labels words (Names text at) = words
add_word labels words (Is at word) = put_word words at word
add_word labels words (Refers at fields text) =
    put_word words at (word_with fields (label_at labels text))

-- the words of lines, by these labels
abbrev pub words_of : Labels → List SourceLine → ImageWords
words_of labels lines = made (add_word labels) [] lines

-- The text is a source of the image: its lines say words and labels, each label in a FIELD is
-- known, and the image has these words.
pub record IsSource (text : List ℕ) (image : ImageWords) : Type 0 where
  pub lines : List SourceLine
  pub said : SayAfter source_grammar label_grammar (kept_lines text) lines
  pub is : image ≡ words_of (labels_of said.first) lines

-- why a text is no source: the first line that breaks a rule, where unknown labels are looked for
-- after all other rules; or want of memory
abbrev pub IsSourceFault : List ℕ → AsmFault → Type 0
IsSourceFault text (At line rule) =
    BreaksAfter source_grammar label_grammar (kept_lines text) line rule
IsSourceFault text Memory = Unit {0}

-- the text breaks this rule first, at this line
abbrev pub source_fault : List ℕ → ℕ → AsmRule → Type 0
source_fault text line rule = IsSourceFault text (At line rule)
