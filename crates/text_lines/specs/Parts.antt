-- The parts of a text between bytes of one kind, as the tokens of a line between its spaces.
use Rattle.std.specs.Prelude.{ℕ, ◌==◌, List, [], ◌∷◌, Option, Some, None}
use Rattle.std.specs.List.{slice_split}
use Rattle.std.specs.Option.{option_and_then}
use Rattle.text_lines.specs.declared.parts.TheConstants.{SPACE}

unfoldable pub parts_of : ℕ → List ℕ → List (List ℕ)
parts_of byte text = slice_split (λ b. b == byte) text

-- the tokens of a line, with single spaces between them
abbrev pub tokens_of : List ℕ → List (List ℕ)
tokens_of line = parts_of SPACE line

-- one step that may give nothing, and then another
infixl 10 ◌>>=◌
abbrev pub ◌>>=◌ : {A B : Type 0} → Option A → (A → Option B) → Option B
m >>= f = option_and_then f m

-- exactly so many parts
abbrev pub one : {A : Type 0} → List A → Option A
one [] = None
one (a ∷ []) = Some a
one (a ∷ b ∷ more) = None

abbrev pub two : {A : Type 0} → List A → Option (A × A)
two [] = None
two (a ∷ rest) = one rest >>= λ b. Some (a, b)

abbrev pub three : {A : Type 0} → List A → Option (A × A × A)
three [] = None
three (a ∷ rest) = two rest >>= λ r. Some (a, r.0, r.1)

abbrev pub four : {A : Type 0} → List A → Option (A × A × A × A)
four [] = None
four (a ∷ rest) = three rest >>= λ r. Some (a, r.0, r.1, r.2)

abbrev pub five : {A : Type 0} → List A → Option (A × A × A × A × A)
five [] = None
five (a ∷ rest) = four rest >>= λ r. Some (a, r.0, r.1, r.2, r.3)

abbrev pub six : {A : Type 0} → List A → Option (A × A × A × A × A × A)
six [] = None
six (a ∷ rest) = five rest >>= λ r. Some (a, r.0, r.1, r.2, r.3, r.4)
