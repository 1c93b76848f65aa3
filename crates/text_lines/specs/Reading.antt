-- What a text says by a grammar that judges each line after what the lines before it said, and
-- which rule another text breaks first.
use Rattle.std.specs.Prelude.{◌≡◌, ℕ, Bool, true, false, List, [], ◌∷◌, ◌++◌, Result, Ok, Err, ◌⊎◌}
use Rattle.text_lines.specs.Lines.{NumberedLine}

-- A grammar judges a line after the entries of the lines before it: it gives the line's own entry,
-- or the first rule that the line breaks.
abbrev pub Grammar : Type 0 → Type 0 → Type 0
Grammar E R = List E → List ℕ → Result E R

-- After these entries the lines say those: each line, judged after all entries before its own, says
-- its own.
abbrev pub Say : {E R : Type 0} → Grammar E R → List E → List NumberedLine → List E → Type 0
Say judge before [] [] = Unit {0}
Say judge before [] (e ∷ es) = ⊥
Say judge before (l ∷ ls) [] = ⊥
Say judge before (l ∷ ls) (e ∷ es) =
    (judge before l.text ≡ Ok e) × Say judge (before ++ e ∷ []) ls es

-- The line of this number is the first that breaks a rule, and this is the first rule that it
-- breaks.
pub record IsFirstBroken {E R : Type 0} (judge : Grammar E R) (lines : List NumberedLine)
    (number : ℕ) (rule : R) : Type 0 where
  pub before : List NumberedLine
  pub line : List ℕ
  pub after : List NumberedLine
  pub lines_are : lines ≡ before ++ record { number = number; text = line } ∷ after
  pub entries : List E
  pub said : Say judge [] before entries
  pub broken : judge entries line ≡ Err rule

-- ---- whole texts, where something may be lacking behind the last line

-- The lines say these entries, which are those of a whole text.
pub record IsWhole {E R : Type 0} (judge : Grammar E R) (is_whole : List E → Bool)
    (lines : List NumberedLine) (entries : List E) : Type 0 where
  pub said : Say judge [] lines entries
  pub whole : is_whole entries ≡ true

-- No line breaks a rule, and what they say isn't a whole text.
pub record IsUnfinished {E R : Type 0} (judge : Grammar E R) (is_whole : List E → Bool)
    (lines : List NumberedLine) : Type 0 where
  pub entries : List E
  pub said : Say judge [] lines entries
  pub short : is_whole entries ≡ false

-- The text breaks this rule first, there: a line does; or no line breaks any, the text isn't whole,
-- and the rule is the last one, one past the last line.
abbrev pub Breaks : {E R : Type 0} → Grammar E R → (List E → Bool) → R → List NumberedLine → ℕ → ℕ
    → R → Type 0
Breaks judge is_whole last lines past number rule =
    IsFirstBroken judge lines number rule
    ⊎ ((number ≡ past) × (rule ≡ last) × IsUnfinished judge is_whole lines)

-- ---- some rules in the whole text before the others

-- The lines say these entries by a late grammar, which knows what they say by an early one.
pub record SayAfter {E F R : Type 0} (early : Grammar E R) (late : List E → Grammar F R)
    (lines : List NumberedLine) (entries : List F) : Type 0 where
  pub first : List E
  pub said_early : Say early [] lines first
  pub said : Say (late first) [] lines entries

-- no line breaks an early rule, and this one is the first that breaks a late one
pub record IsFirstBrokenLate {E F R : Type 0} (early : Grammar E R) (late : List E → Grammar F R)
    (lines : List NumberedLine) (number : ℕ) (rule : R) : Type 0 where
  pub first : List E
  pub said_early : Say early [] lines first
  pub broken : IsFirstBroken (late first) lines number rule

-- The early rules are looked for in the whole text before the late ones.
abbrev pub BreaksAfter : {E F R : Type 0} → Grammar E R → (List E → Grammar F R) → List NumberedLine
    → ℕ → R → Type 0
BreaksAfter early late lines number rule =
    IsFirstBroken early lines number rule ⊎ IsFirstBrokenLate early late lines number rule

-- ---- grammars that judge a line after what the lines before it made

-- what entries make, each added to what those before it made
abbrev pub made : {S E : Type 0} → (S → E → S) → S → List E → S
made add state [] = state
made add state (e ∷ es) = made add (add state e) es

-- the grammar that judges a line after the state that the entries before it made
abbrev pub grammar_by : {S E R : Type 0} → (S → E → S) → S → (S → List ℕ → Result E R) → Grammar E R
grammar_by add start judge before line = judge (made add start before) line

-- ---- a text has one reading

-- Of a text's two readings both are the same value, or the same fault.
pub record HasOneReading {V R : Type 0} (Value : V → Type 0) (Fault : ℕ → R → Type 0) : Type 0 where
  pub value : (a b : V) → Value a → Value b → a ≡ b
  pub no_fault : (a : V) (number : ℕ) (rule : R) → Value a → Fault number rule → ⊥
  pub fault : (number other : ℕ) (rule last : R) → Fault number rule → Fault other last
      → (number ≡ other) × (rule ≡ last)
