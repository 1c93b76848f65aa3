-- A text is that of one script, or has one first fault.
use Rattle.std.proofs.Common.{◌≡◌, ◌∙◌, ℕ, List, [], ◌∷◌, map, refl, sym, ap, subst}
use Rattle.text_lines.specs.Lines.{NumberedLine, kept_lines, past_end}
use Rattle.text_lines.specs.Reading.{Breaks, IsWhole, HasOneReading}
use Rattle.text_lines.proofs.Readings.{said_once, reading_once}
use Rattle.memory_plan.specs.PlanText.{has_some}
use Rattle.memory_plan.specs.Plans.{PlanLines}
use Rattle.peripheral_run.specs.declared.fault.ScriptRule.{ScriptRule}
use Rattle.peripheral_run.specs.declared.fault.ScriptRule.TheVariants.{Form, Start}
use Rattle.peripheral_run.specs.Scripts.{Began, Scripted, ScriptLine, Answer, script_grammar, script_lines, AllowsState, IsScript, IsNoStart, script_fault}

-- ---- the lines of a script tell which it is

same_answers : (xs ys : List ℕ) → map Answer xs ≡ map Answer ys → xs ≡ ys
same_answers [] [] e = refl
same_answers [] (y ∷ ys) e = absurd cc
same_answers (x ∷ xs) [] e = absurd cc
same_answers (x ∷ xs) (y ∷ ys) e =
    let head : x ≡ y = cc in
    let tail : map Answer xs ≡ map Answer ys = cc in
    ap (λ (z : ℕ). z ∷ xs) head ∙ ap (λ (zs : List ℕ). y ∷ zs) (same_answers xs ys tail)

same_state : (a b : Scripted) → script_lines a ≡ script_lines b → a.state ≡ b.state
same_state a b e = cc

same_script : (a b : Scripted) → script_lines a ≡ script_lines b → a ≡ b
same_script a b e =
    let rest : map Answer a.answers ≡ map Answer b.answers = cc in
    ap (λ (s : Began). record { state = s; answers = a.answers }) (same_state a b e)
    ∙ ap (λ (ws : List ℕ). record { state = b.state; answers = ws }) (same_answers a.answers b.answers rest)

-- ---- a script, or a fault

-- a script's lines break no rule
form_once : (text : List ℕ) → HasOneReading (IsWhole script_grammar has_some (kept_lines text)) (Breaks script_grammar has_some Form (kept_lines text) (past_end text))
form_once text = reading_once ScriptLine ScriptRule script_grammar has_some Form (kept_lines text) (past_end text)

no_fault : (plan : PlanLines) (text : List ℕ) (a : Scripted) (line : ℕ) (rule : ScriptRule) → IsScript plan text a → script_fault plan text line rule → ⊥
no_fault plan text a line Form h b = (form_once text).no_fault (script_lines a) line Form (record { said = h.said; whole = refl }) b
no_fault plan text a line Start h b =
    let same = same_state a b.script (said_once script_grammar (kept_lines text) (script_lines a) (script_lines b.script) h.said b.said) in
    b.forbidden (subst (AllowsState plan.starts) same h.allowed)

-- a text of the form doesn't break it
no_form : (plan : PlanLines) (text : List ℕ) (line other : ℕ) → script_fault plan text line Form → IsNoStart plan text other → ⊥
no_form plan text line other b n = (form_once text).no_fault (script_lines n.script) line Form (record { said = n.said; whole = refl }) b

abbrev first_number : List NumberedLine → ℕ
first_number [] = 0
first_number (l ∷ ls) = l.number

one_fault : (plan : PlanLines) (text : List ℕ) (line other : ℕ) (rule last : ScriptRule) → script_fault plan text line rule → script_fault plan text other last → (line ≡ other) × (rule ≡ last)
one_fault plan text line other Form Form h k = (form_once text).fault line other Form Form h k
one_fault plan text line other Form Start h k = absurd (no_form plan text line other h k)
one_fault plan text line other Start Form h k = absurd (no_form plan text other line k h)
one_fault plan text line other Start Start h k = (ap first_number (sym h.first ∙ k.first), refl)

pub script_reading : (plan : PlanLines) (text : List ℕ) → HasOneReading (IsScript plan text) (script_fault plan text)
script_reading plan text = record {
  value = λ a b h k. same_script a b (said_once script_grammar (kept_lines text) (script_lines a) (script_lines b) h.said k.said);
  no_fault = no_fault plan text;
  fault = one_fault plan text;
}
