-- What the assembler says of a listing's line: the word at its address.
use Rattle.std.proofs.Common.{◌≡◌, ℕ, zero, suc, ◌/◌, ◌%◌, ◌<◌, ◌^◌, ◌==◌, false, eqb, [], ◌∷◌, ◌++◌, None, Ok, refl, sym, ap, arith}
use Rattle.std.proofs.lemmas.Bool.Decides.{nat_tests}
use Rattle.viper_word.specs.Digits.{digit, digits, address_digits}
use Rattle.viper_word.specs.Fields.{Fields, AreFields, bit_value, fields_of, IsFieldsOf}
use Rattle.text_lines.specs.Lines.{is_skipped}
use Rattle.text_lines.specs.Parts.{tokens_of}
use Rattle.memory_plan.specs.Images.{word_at}
use Rattle.memory_plan.proofs.Written.{digits_apart}
use Rattle.field_asm.specs.Tables.{register_names, mode_names, destination_names}
use Rattle.field_asm.specs.Sources.{Is, SoFar, judge_line}
use Rattle.disasm_view.specs.Listings.{name_of, operation_name, spaced, fields_line, source_line}
use Rattle.disasm_view.proofs.Named.{Without, operation_is_named, register_is_named, mode_is_named, destination_is_named}
use Rattle.disasm_view.proofs.Tokens.{digits_are_read, digits_are_no_label, digits_are_no_plus, six_tokens, without_two}

-- ---- the numbers of a word

bit_is : (n : ℕ) → n < 2 → bit_value (n == 1) ≡ n
bit_is zero h = refl
bit_is (suc zero) h = refl
bit_is (suc (suc n)) h = absurd (omega arith)

pub fields_there : (w : ℕ) → w < 2 ^ 32 → IsFieldsOf w (fields_of w)
unfolding fields_of
fields_there w small = record {
  ranges = record { r = omega arith; m = omega arith; d = omega arith; f = omega arith; field = omega arith };
  makes = let bit = bit_is (w / 2 ^ 24 % 2) (omega arith) in omega arith;
}

-- ---- the line

-- the tokens of a word's line
line_tokens : (at : ℕ) (i : Fields) → AreFields i
    → tokens_of (fields_line at i) ≡ address_digits at ∷ operation_name i ∷ name_of register_names i.r ∷ name_of mode_names i.m ∷ name_of destination_names i.d ∷ address_digits i.field ∷ []
line_tokens at i are =
    six_tokens (address_digits at) (operation_name i) (name_of register_names i.r) (name_of mode_names i.m) (name_of destination_names i.d) (address_digits i.field)
    (digits_apart 32 (omega arith) 5 at) (operation_is_named i are).token (register_is_named i.r are.r).token (mode_is_named i.m are.m).token (destination_is_named i.d are.d).token
    (digits_apart 32 (omega arith) 5 i.field)

-- it is one line
pub line_without : (at word : ℕ) → word < 2 ^ 32 → Without 10 (source_line at word)
unfolding source_line
line_without at word small =
    let i = fields_of word in
    let are = (fields_there word small).ranges in
    without_two 10 (address_digits at) (operation_name i ++ (spaced (name_of register_names i.r) ++ (spaced (name_of mode_names i.m) ++ (spaced (name_of destination_names i.d) ++ spaced (address_digits i.field)))))
    (digits_apart 10 (omega arith) 5 at)
    (without_two 10 (operation_name i) (name_of register_names i.r ++ (spaced (name_of mode_names i.m) ++ (spaced (name_of destination_names i.d) ++ spaced (address_digits i.field))))
    (operation_is_named i are).line
    (without_two 10 (name_of register_names i.r) (name_of mode_names i.m ++ (spaced (name_of destination_names i.d) ++ spaced (address_digits i.field)))
    (register_is_named i.r are.r).line
    (without_two 10 (name_of mode_names i.m) (name_of destination_names i.d ++ spaced (address_digits i.field))
    (mode_is_named i.m are.m).line
    (without_two 10 (name_of destination_names i.d) (address_digits i.field) (destination_is_named i.d are.d).line (digits_apart 10 (omega arith) 5 i.field) refl) refl) refl) refl) refl

-- that is neither empty nor a comment
no_comment : (d : ℕ) → d < 16 → eqb (digit d) 35 ≡ false
unfolding digit
no_comment d small = grind (arith, nat_tests)

pub line_is_kept : (at word : ℕ) → is_skipped (source_line at word) ≡ false
unfolding source_line digits
line_is_kept at word = no_comment (at / 16 / 16 / 16 / 16 % 16) (omega arith)

-- where no line gave the address, it says the word there
pub line_says : (s : SoFar) (at word : ℕ) → at < 2 ^ 20 → word < 2 ^ 32 → word_at s.words at ≡ None → judge_line s (source_line at word) ≡ Ok (Is at word)
unfolding source_line judge_line
line_says s at word low small free =
    let i = fields_of word in
    let is = fields_there word small in
    let are = is.ranges in
    rw (
      line_tokens at i are,
      digits_are_no_plus at,
      digits_are_read 5 at low,
      free,
      (operation_is_named i are).is_read,
      (register_is_named i.r are.r).is_read,
      (mode_is_named i.m are.m).is_read,
      (destination_is_named i.d are.d).is_read,
      digits_are_no_label i.field,
      digits_are_read 5 i.field are.field,
    )
    (ap (λ (w : ℕ). Ok (Is at w)) (sym is.makes))
