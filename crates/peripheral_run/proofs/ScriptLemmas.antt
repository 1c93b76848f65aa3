-- What a script's lines say.
use Rattle.std.proofs.Common.{◌≡◌, ◌∙◌, ℕ, Bool, true, false, List, [], ◌∷◌, ◌++◌, map, cond, Option, Some, None, refl, sym, ap, subst}
use Rattle.std.proofs.lemmas.List.{map_push}
use Rattle.std.specs.Str.{bytes_eq}
use Rattle.text_lines.specs.Parts.{◌>>=◌}
use Rattle.text_lines.specs.Lines.{NumberedLine, kept_lines}
use Rattle.text_lines.specs.Reading.{Say, IsFirstBroken, IsUnfinished}
use Rattle.memory_plan.specs.PlanText.{has_some}
use Rattle.peripheral_run.specs.declared.fault.ScriptRule.TheVariants.{Form}
use Rattle.text_lines.proofs.Readings.{IsReadTo, read_none, read_more, read_broken}
use Rattle.memory_plan.specs.Images.{numbers}
use Rattle.viper_word.specs.declared.word.Word.{Word}
use Rattle.peripheral_run.specs.Scripts.{Began, ScriptLine, State, Answer, state_shape, state_of_tokens, script_grammar, script_lines, state_of_line, answer_of_line, or_form}

-- a line of one token says no state
pub no_tokens : (word : List ℕ) → state_of_tokens (word ∷ []) ≡ None
unfolding state_shape
no_tokens word = by (bytes_eq word _)
  where
    by : (b : Bool) → cond b (state_shape []) None ≡ None
    by true = refl
    by false = refl

-- the script of what was read
abbrev pub so_far : Began → List Word → List ScriptLine
so_far s answers = script_lines (record { state = s; answers = numbers answers })

-- the first line was read
pub first_read : (lines rest : List NumberedLine) (number : ℕ) (line : List ℕ) (s : Began) → lines ≡ record { number = number; text = line } ∷ rest → state_of_line line ≡ Some s → IsReadTo script_grammar lines (so_far s []) rest
first_read lines rest number line s is says =
    read_more script_grammar lines [] lines number line rest (State s) (read_none script_grammar lines) is (ap (λ (o : Option Began). or_form (o >>= λ t. Some (State t))) says)

-- and a further one
pub answer_read : (lines left rest : List NumberedLine) (number : ℕ) (line : List ℕ) (s : Began) (answers : List Word) (w : Word) → IsReadTo script_grammar lines (so_far s answers) left
    → left ≡ record { number = number; text = line } ∷ rest → answer_of_line line ≡ Some w.0 → IsReadTo script_grammar lines (so_far s (answers ++ w ∷ [])) rest
answer_read lines left rest number line s answers w h is says =
    let more = read_more script_grammar lines (so_far s answers) left number line rest (Answer w.0) h is (ap (λ (o : Option ℕ). or_form (o >>= λ v. Some (Answer v))) says) in
    subst (λ (es : List ScriptLine). IsReadTo script_grammar lines es rest) (sym pushed) more
  where
    pushed : so_far s (answers ++ w ∷ []) ≡ so_far s answers ++ Answer w.0 ∷ []
    pushed = ap (λ (es : List ScriptLine). State s ∷ es) (ap (map Answer) (map_push (λ (v : Word). v.0) answers w) ∙ map_push Answer (numbers answers) w.0)

-- ---- faults

-- the first line says no state
pub no_state : (text : List ℕ) (rest : List NumberedLine) (number : ℕ) (line : List ℕ) → kept_lines text ≡ record { number = number; text = line } ∷ rest → state_of_line line ≡ None
    → IsFirstBroken script_grammar (kept_lines text) number Form
no_state text rest number line is says =
    read_broken script_grammar (kept_lines text) [] (kept_lines text) number line rest Form (read_none script_grammar (kept_lines text)) is (ap (λ (o : Option Began). or_form (o >>= λ t. Some (State t))) says)

-- a further one says no answer
pub no_answer : (text : List ℕ) (left rest : List NumberedLine) (number : ℕ) (line : List ℕ) (s : Began) (answers : List Word) → IsReadTo script_grammar (kept_lines text) (so_far s answers) left
    → left ≡ record { number = number; text = line } ∷ rest → answer_of_line line ≡ None → IsFirstBroken script_grammar (kept_lines text) number Form
no_answer text left rest number line s answers h is says =
    read_broken script_grammar (kept_lines text) (so_far s answers) left number line rest Form h is (ap (λ (o : Option ℕ). or_form (o >>= λ v. Some (Answer v))) says)

-- there is no line
pub no_line : (text : List ℕ) → kept_lines text ≡ [] → IsUnfinished script_grammar has_some (kept_lines text)
no_line text none = record { entries = []; said = subst (λ (ls : List NumberedLine). Say script_grammar [] ls []) (sym none) tt; short = refl }
