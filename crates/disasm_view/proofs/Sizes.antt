-- How long a listing is at the most.
use Rattle.std.proofs.Common.{◌≡◌, ℕ, zero, suc, ◌+◌, ◌*◌, ◌<◌, ◌≤◌, ◌^◌, leb, Bool, true, false, cond, ◌&&◌, List, [], ◌∷◌, ◌++◌, length, refl, arith}
use Rattle.std.proofs.lemmas.Bool.Decides.{nat_tests}
use Rattle.std.proofs.lemmas.List.{length-append}
use Rattle.text_lines.specs.Parts.{parts_of}
use Rattle.viper_word.specs.Digits.{address_digits}
use Rattle.viper_word.specs.Fields.{Fields, AreFields, fields_of}
use Rattle.memory_plan.specs.Images.{ImageWords, Fit, AreImageWords}
use Rattle.memory_plan.proofs.DigitLemmas.{digits_length}
use Rattle.memory_plan.proofs.ImageLemmas.{few_entries}
use Rattle.field_asm.specs.Tables.{function_names, comparison_names, destination_names, mode_names, register_names}
use Rattle.disasm_view.specs.Listings.{name_of, operation_name, spaced, fields_line, source_line, listing, MOST_LINE}
use Rattle.disasm_view.proofs.Judged.{fields_there}

-- is no name longer?
abbrev none_longer : ℕ → List (List ℕ) → Bool
none_longer most [] = true
none_longer most (name ∷ names) = leb (length name) most && none_longer most names

name_short : (most : ℕ) (names : List (List ℕ)) (code : ℕ) → none_longer most names ≡ true → code < length names → length (name_of names code) ≤ most
name_short most [] code e h = absurd (omega arith)
name_short most (name ∷ names) code e h = by (leb (length name) most) refl code e h (λ code f g. name_short most names code f g)
  where
    by : (b : Bool) → leb (length name) most ≡ b → (code : ℕ) → (b && none_longer most names) ≡ true → code < length (name ∷ names)
        → ((code : ℕ) → none_longer most names ≡ true → code < length names → length (name_of names code) ≤ most) → length (name_of (name ∷ names) code) ≤ most
    by true there zero f g rest = let short : length name ≤ most = grind (arith, nat_tests) in short
    by true there (suc code) f g rest = rest code f (omega arith)
    by false there code f g rest = absurd cc

operation_short : (i : Fields) → AreFields i → length (operation_name i) ≤ 5
unfolding parts_of
operation_short i are = elim i.c as (λ c. length (cond c (name_of comparison_names i.f) (name_of function_names i.f)) ≤ 5) [
  | true ↦ name_short 5 comparison_names i.f refl are.f
  | false ↦ name_short 5 function_names i.f refl are.f
]

register_short : (i : Fields) → AreFields i → length (name_of register_names i.r) ≤ 1
unfolding parts_of
register_short i are = name_short 1 register_names i.r refl are.r

mode_short : (i : Fields) → AreFields i → length (name_of mode_names i.m) ≤ 3
unfolding parts_of
mode_short i are = name_short 3 mode_names i.m refl are.m

destination_short : (i : Fields) → AreFields i → length (name_of destination_names i.d) ≤ 3
unfolding parts_of
destination_short i are = name_short 3 destination_names i.d refl are.d

-- a text behind a space
spaced_length : (text rest : List ℕ) → length (spaced text ++ rest) ≡ suc (length text) + length rest
spaced_length text rest = length-append (spaced text) rest

fields_short : (at : ℕ) (i : Fields) → AreFields i → length (fields_line at i) ≤ 27
fields_short at i are =
    let a = length-append (address_digits at) (spaced (operation_name i) ++ (spaced (name_of register_names i.r) ++ (spaced (name_of mode_names i.m) ++ (spaced (name_of destination_names i.d) ++ spaced (address_digits i.field))))) in
    let b = spaced_length (operation_name i) (spaced (name_of register_names i.r) ++ (spaced (name_of mode_names i.m) ++ (spaced (name_of destination_names i.d) ++ spaced (address_digits i.field)))) in
    let c = spaced_length (name_of register_names i.r) (spaced (name_of mode_names i.m) ++ (spaced (name_of destination_names i.d) ++ spaced (address_digits i.field))) in
    let d = spaced_length (name_of mode_names i.m) (spaced (name_of destination_names i.d) ++ spaced (address_digits i.field)) in
    let e = spaced_length (name_of destination_names i.d) (spaced (address_digits i.field)) in
    let first = digits_length 5 at in
    let last = digits_length 5 i.field in
    omega (arith, a, b, c, d, e, first, last, operation_short i are, register_short i are, mode_short i are, destination_short i are)

line_short : (at word : ℕ) → word < 2 ^ 32 → length (source_line at word ++ 10 ∷ []) ≤ MOST_LINE
unfolding source_line
line_short at word small = omega (arith, length-append (fields_line at (fields_of word)) (10 ∷ []), fields_short at (fields_of word) (fields_there word small).ranges)

lines_short : (image : ImageWords) → Fit image → length (listing image) ≤ MOST_LINE * length image
lines_short [] fit = omega arith
lines_short (e ∷ es) fit = omega (arith, length-append (source_line e.0 e.1 ++ 10 ∷ []) (listing es), line_short e.0 e.1 fit.1, lines_short es fit.2)

pub listing_size : (image : ImageWords) → AreImageWords image → (length (listing image) ≤ MOST_LINE * length image) × (length (listing image) ≤ MOST_LINE * 2 ^ 20)
listing_size image are = let lines = lines_short image are.fit in (lines, omega (arith, lines, few_entries image are))
