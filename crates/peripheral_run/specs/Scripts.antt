-- Scripts: the state in which a machine begins, and what its peripherals answer.
use Rattle.std.specs.Prelude.{◌≡◌, ℕ, Bool, true, false, List, [], ◌∷◌, map, Option, Some, None, Result, Ok, Err, IfSome, Contains, if◌then◌else◌, codes}
use Rattle.std.specs.Str.{bytes_eq}
use Rattle.viper_word.specs.Words.{signed_value}
use Rattle.viper_word.specs.Ranges.{IsIn}
use Rattle.viper_word.specs.declared.word.Word.{Word}
use Rattle.text_lines.specs.Lines.{NumberedLine, kept_lines, past_end}
use Rattle.text_lines.specs.Parts.{tokens_of, five, ◌>>=◌}
use Rattle.text_lines.specs.Reading.{Grammar, Say, Breaks}
use Rattle.memory_plan.specs.Hex.{hex_number}
use Rattle.memory_plan.specs.Plans.{PlanLines}
use Rattle.memory_plan.specs.PlanText.{has_some}
use Rattle.line_text.specs.declared.digits.TheConstants.{ADDRESS_DIGITS, WORD_DIGITS}
use Rattle.memory_plan.specs.declared.start.Start.{Start}
use Rattle.peripheral_run.specs.declared.fault.ScriptRule.{ScriptRule}
use Rattle.peripheral_run.specs.declared.fault.ScriptRule.TheVariants as rules
use Rattle.peripheral_run.specs.declared.fault.ScriptFault.{ScriptFault}
use Rattle.peripheral_run.specs.declared.fault.ScriptFault.TheVariants as faults

-- P, A, X, Y and B
pub record Began : Type 0 where
  pub p : ℕ
  pub a : ℕ
  pub x : ℕ
  pub y : ℕ
  pub b : Bool

-- the same of the words that the program holds
abbrev pub began : ℕ × Word × Word × Word × Bool → Began
began s = record { p = s.0; a = s.1.0; x = s.2.0; y = s.3.0; b = s.4 }

-- the state, and the answers in their order
pub record Scripted : Type 0 where
  pub state : Began
  pub answers : List ℕ

-- ---- its lines

-- a line says the state, or an answer
pub data ScriptLine : Type 0 where
  State : Began → ScriptLine
  Answer : ℕ → ScriptLine

-- `0` or `1`
unfoldable pub bit_of : List ℕ → Option Bool
bit_of text =
    if bytes_eq text (codes "0") then Some false
    else if bytes_eq text (codes "1") then Some true
    else None

-- P, A, X, Y and B in five tokens
unfoldable pub state_shape : List (List ℕ) → Option Began
state_shape tokens = do
  t ← five tokens
  p ← hex_number ADDRESS_DIGITS t.0
  a ← hex_number WORD_DIGITS t.1
  x ← hex_number WORD_DIGITS t.2
  y ← hex_number WORD_DIGITS t.3
  b ← bit_of t.4
  Some (record { p = p; a = a; x = x; y = y; b = b })

-- behind the token `state`
abbrev pub state_of_tokens : List (List ℕ) → Option Began
state_of_tokens [] = None
state_of_tokens (word ∷ tokens) = if bytes_eq word (codes "state") then state_shape tokens else None

-- `state AAAAA WWWWWWWW WWWWWWWW WWWWWWWW B`
abbrev pub state_of_line : List ℕ → Option Began
state_of_line line = state_of_tokens (tokens_of line)

-- a word alone
abbrev pub answer_of_line : List ℕ → Option ℕ
answer_of_line line = hex_number WORD_DIGITS line

-- what is said, where something is
abbrev pub or_form : Option ScriptLine → Result ScriptLine ScriptRule
or_form None = Err rules.Form
or_form (Some said) = Ok said

-- the first line says the state, and each further one an answer
abbrev pub script_grammar : Grammar ScriptLine ScriptRule
script_grammar [] line = or_form (state_of_line line >>= λ s. Some (State s))
script_grammar (first ∷ others) line = or_form (answer_of_line line >>= λ w. Some (Answer w))

-- the lines of a script
abbrev pub script_lines : Scripted → List ScriptLine
script_lines script = State script.state ∷ map Answer script.answers

-- ---- which states a plan allows

-- the start line allows the state
pub record LineAllows (line : Start) (s : Began) : Type 0 where
  pub p : s.p ≡ line.at
  pub a : IsIn line.a (signed_value s.a)
  pub x : IsIn line.x (signed_value s.x)
  pub y : IsIn line.y (signed_value s.y)
  pub b : IfSome line.b (λ b. s.b ≡ b)

-- a start line does
pub record AllowsState (starts : List Start) (s : Began) : Type 0 where
  pub line : Start
  pub listed : Contains starts line
  pub allows : LineAllows line s

-- ---- whole texts

-- The text is that of the script: its lines that aren't skipped say the state and then the answers,
-- and a start line of the plan allows the state.
pub record IsScript (plan : PlanLines) (text : List ℕ) (script : Scripted) : Type 0 where
  pub said : Say script_grammar [] (kept_lines text) (script_lines script)
  pub allowed : AllowsState plan.starts script.state

-- Each line keeps Form, and no start line of the plan allows the state, which stands in the first
-- line.
pub record IsNoStart (plan : PlanLines) (text : List ℕ) (number : ℕ) : Type 0 where
  pub script : Scripted
  pub said : Say script_grammar [] (kept_lines text) (script_lines script)
  pub forbidden : AllowsState plan.starts script.state → ⊥
  pub line : List ℕ
  pub others : List NumberedLine
  pub first : kept_lines text ≡ record { number = number; text = line } ∷ others

-- Form: the first line that isn't of its form; one past the last line where none states anything.
-- Start: the line of the state, where the whole text keeps Form.
abbrev pub BreaksRule : PlanLines → List ℕ → ℕ → ScriptRule → Type 0
BreaksRule plan text line rules.Form =
    Breaks script_grammar has_some rules.Form (kept_lines text) (past_end text) line rules.Form
BreaksRule plan text line rules.Start = IsNoStart plan text line

-- why a text isn't read as a script: the rule that it breaks first, or want of memory
abbrev pub IsScriptFault : PlanLines → List ℕ → ScriptFault → Type 0
IsScriptFault plan text (faults.At line rule) = BreaksRule plan text line rule
IsScriptFault plan text faults.Memory = Unit {0}

-- the text breaks this rule first, at this line
abbrev pub script_fault : PlanLines → List ℕ → ℕ → ScriptRule → Type 0
script_fault plan text line rule = IsScriptFault plan text (faults.At line rule)
