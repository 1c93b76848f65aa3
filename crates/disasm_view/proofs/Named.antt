-- The name of a code: it is one token of one line, and it is read as its code.
use Rattle.std.proofs.Common.{◌≡◌, ℕ, zero, suc, ◌<◌, Bool, true, false, cond, eqb, ◌&&◌, ◌||◌, not, List, [], ◌∷◌, length, Option, Some, None, is_some, slice_get, refl, arith}
use Rattle.std.specs.List.{All, list_any}
use Rattle.std.proofs.lemmas.List.Elements.{All-cons}
use Rattle.text_lines.specs.Parts.{parts_of}
use Rattle.viper_word.specs.Fields.{Fields, AreFields}
use Rattle.field_asm.specs.Names.{code_of, are_names}
use Rattle.field_asm.specs.Tables.{function_names, comparison_names, destination_names, mode_names, register_names}
use Rattle.field_asm.specs.Tokens.{operation_of}
use Rattle.field_asm.proofs.NameLemmas.{name_codes}
use Rattle.disasm_view.specs.Listings.{name_of, operation_name}

-- no byte of the text is that one
abbrev pub Without : ℕ → List ℕ → Type 0
Without byte text = All (λ c. eqb c byte ≡ false) text

-- does none of the names have the byte?
abbrev none_has : ℕ → List (List ℕ) → Bool
none_has byte [] = true
none_has byte (name ∷ names) = not (list_any (λ c. eqb c byte) name) && none_has byte names

text_without : (byte : ℕ) (text : List ℕ) → list_any (λ c. eqb c byte) text ≡ false → Without byte text
text_without byte [] e = λ k d h. absurd (omega arith)
text_without byte (c ∷ cs) e = by (eqb c byte) refl e (text_without byte cs)
  where
    by : (b : Bool) → eqb c byte ≡ b → (b || list_any (λ c. eqb c byte) cs) ≡ false → (list_any (λ c. eqb c byte) cs ≡ false → Without byte cs) → Without byte (c ∷ cs)
    by true f g rest = absurd cc
    by false f g rest = All-cons (λ c. eqb c byte ≡ false) c cs f (rest g)

name_without : (byte : ℕ) (names : List (List ℕ)) (code : ℕ) → none_has byte names ≡ true → code < length names → Without byte (name_of names code)
name_without byte [] code e h = absurd (omega arith)
name_without byte (name ∷ names) code e h = by (list_any (λ c. eqb c byte) name) refl code e h (λ code f g. name_without byte names code f g)
  where
    by : (b : Bool) → list_any (λ c. eqb c byte) name ≡ b → (code : ℕ) → (not b && none_has byte names) ≡ true → code < length (name ∷ names)
        → ((code : ℕ) → none_has byte names ≡ true → code < length names → Without byte (name_of names code)) → Without byte (name_of (name ∷ names) code)
    by true there code f g rest = absurd cc
    by false there zero f g rest = text_without byte name there
    by false there (suc code) f g rest = rest code f (omega arith)

-- a code below the number of names has the name at its place
name_there : (names : List (List ℕ)) (code : ℕ) → code < length names → slice_get names code ≡ Some (name_of names code)
name_there [] code h = absurd (omega arith)
name_there (name ∷ names) zero h = refl
name_there (name ∷ names) (suc code) h = name_there names code (omega arith)

-- The name of a code in a table stands within a token and a line, and is read as the code.
pub record IsNameOf (names : List (List ℕ)) (code : ℕ) : Type 0 where
  pub token : Without 32 (name_of names code)
  pub line : Without 10 (name_of names code)
  pub is_read : code_of names (name_of names code) ≡ Some code

table_name : (names : List (List ℕ)) (code : ℕ) → none_has 32 names ≡ true → none_has 10 names ≡ true → are_names names ≡ true → code < length names → IsNameOf names code
table_name names code token line are below = record {
  token = name_without 32 names code token below;
  line = name_without 10 names code line below;
  is_read = name_codes names code (name_of names code) are (name_there names code below);
}

-- ---- the five tables

function_is_named : (code : ℕ) → code < 16 → IsNameOf function_names code
unfolding parts_of
function_is_named code h = table_name function_names code refl refl refl h

comparison_is_named : (code : ℕ) → code < 16 → IsNameOf comparison_names code
unfolding parts_of
comparison_is_named code h = table_name comparison_names code refl refl refl h

pub destination_is_named : (code : ℕ) → code < 8 → IsNameOf destination_names code
unfolding parts_of
destination_is_named code h = table_name destination_names code refl refl refl h

pub mode_is_named : (code : ℕ) → code < 4 → IsNameOf mode_names code
unfolding parts_of
mode_is_named code h = table_name mode_names code refl refl refl h

pub register_is_named : (code : ℕ) → code < 4 → IsNameOf register_names code
unfolding parts_of
register_is_named code h = table_name register_names code refl refl refl h

-- ---- functions and comparisons have no name in common

abbrev are_apart : List (List ℕ) → List (List ℕ) → Bool
are_apart names [] = true
are_apart names (other ∷ others) = not (is_some (code_of names other)) && are_apart names others

no_code : (names others : List (List ℕ)) (code : ℕ) → are_apart names others ≡ true → code < length others → code_of names (name_of others code) ≡ None
no_code names [] code e h = absurd (omega arith)
no_code names (other ∷ others) code e h = by (code_of names other) refl code e h (λ code f g. no_code names others code f g)
  where
    by : (o : Option ℕ) → code_of names other ≡ o → (code : ℕ) → (not (is_some o) && are_apart names others) ≡ true → code < length (other ∷ others)
        → ((code : ℕ) → are_apart names others ≡ true → code < length others → code_of names (name_of others code) ≡ None)
        → code_of names (name_of (other ∷ others) code) ≡ None
    by None there zero f g rest = there
    by None there (suc code) f g rest = rest code f (omega arith)
    by (Some k) there code f g rest = absurd cc

comparison_is_no_function : (code : ℕ) → code < 16 → code_of function_names (name_of comparison_names code) ≡ None
unfolding parts_of
comparison_is_no_function code h = no_code function_names comparison_names code refl h

-- The name of a word's function or comparison stands within a token and a line, and is read as that.
pub record IsOperationName (i : Fields) : Type 0 where
  pub token : Without 32 (operation_name i)
  pub line : Without 10 (operation_name i)
  pub is_read : operation_of (operation_name i) ≡ Some (i.c, i.f)

pub operation_is_named : (i : Fields) → AreFields i → IsOperationName i
operation_is_named i are = record {
  token = elim i.c as (λ c. Without 32 (cond c (name_of comparison_names i.f) (name_of function_names i.f))) [ true ↦ comparison.token | false ↦ function.token ];
  line = elim i.c as (λ c. Without 10 (cond c (name_of comparison_names i.f) (name_of function_names i.f))) [ true ↦ comparison.line | false ↦ function.line ];
  is_read = elim i.c as (λ c. operation_of (cond c (name_of comparison_names i.f) (name_of function_names i.f)) ≡ Some (c, i.f)) [
    | true ↦ rw (comparison_is_no_function i.f are.f, comparison.is_read) refl
    | false ↦ rw function.is_read refl
  ];
}
  where
    comparison : IsNameOf comparison_names i.f
    comparison = comparison_is_named i.f are.f

    function : IsNameOf function_names i.f
    function = function_is_named i.f are.f
