-- The tokens of a listing's line, and that it is no comment.
use Rattle.std.proofs.Common.{◌≡◌, ◌∙◌, ℕ, zero, suc, ◌/◌, ◌%◌, ◌^◌, ◌<◌, Bool, true, false, ◌&&◌, eqb, List, [], ◌∷◌, ◌++◌, Some, refl, ap, arith}
use Rattle.std.specs.Prelude.{codes}
use Rattle.std.specs.List.{All}
use Rattle.std.proofs.lemmas.Bool.Decides.{nat_tests}
use Rattle.std.proofs.lemmas.List.Elements.{All-cons, All-append, All-push}
use Rattle.std.proofs.lemmas.List.Folds.{list_any_none}
use Rattle.std.proofs.lemmas.List.Splits.{slice_split_at, slice_split_none}
use Rattle.std.specs.Str.{bytes_eq}
use Rattle.viper_word.specs.Digits.{digit, digits, address_digits}
use Rattle.text_lines.specs.Parts.{parts_of, tokens_of}
use Rattle.memory_plan.proofs.Written.{digits_read}
use Rattle.field_asm.specs.Tokens.{is_lower, upper_number, begins_label}
use Rattle.disasm_view.proofs.Named.{Without}

-- ---- digits

digit_is_upper : (d : ℕ) → d < 16 → is_lower (digit d) ≡ false
unfolding digit
digit_is_upper d small = grind (arith, nat_tests)

digits_are_upper : (count n : ℕ) → All (λ c. is_lower c ≡ false) (digits count n)
unfolding digits
digits_are_upper zero n = λ k d h. absurd (omega arith)
digits_are_upper (suc count) n = All-push (λ c. is_lower c ≡ false) (digits count (n / 16)) (digit (n % 16)) (digits_are_upper count (n / 16)) (digit_is_upper (n % 16) (omega arith))

pub digits_are_read : (count n : ℕ) → n < 16 ^ count → upper_number count (digits count n) ≡ Some n
digits_are_read count n small = rw (list_any_none is_lower (digits count n) (digits_are_upper count n)) (digits_read count n small)

pub digits_are_no_label : (n : ℕ) → begins_label (address_digits n) ≡ false
unfolding digits
digits_are_no_label n = digit_is_upper (n / 16 / 16 / 16 / 16 % 16) (omega arith)

pub digits_are_no_plus : (n : ℕ) → bytes_eq (address_digits n) (codes "+") ≡ false
unfolding digits
digits_are_no_plus n = by (eqb (digit (n / 16 / 16 / 16 / 16 % 16)) 43)
  where
    by : (b : Bool) → (b && false) ≡ false
    by true = refl
    by false = refl

-- ---- six tokens

pub six_tokens : (a b c d e f : List ℕ) → Without 32 a → Without 32 b → Without 32 c → Without 32 d → Without 32 e → Without 32 f
    → tokens_of (a ++ 32 ∷ (b ++ 32 ∷ (c ++ 32 ∷ (d ++ 32 ∷ (e ++ 32 ∷ f))))) ≡ a ∷ b ∷ c ∷ d ∷ e ∷ f ∷ []
unfolding parts_of
six_tokens a b c d e f ta tb tc td te tf =
    let cut = slice_split_at (λ (x : ℕ). eqb x 32) in
    cut a 32 (b ++ 32 ∷ (c ++ 32 ∷ (d ++ 32 ∷ (e ++ 32 ∷ f)))) ta refl
    ∙ ap (λ (ts : List (List ℕ)). a ∷ ts) (cut b 32 (c ++ 32 ∷ (d ++ 32 ∷ (e ++ 32 ∷ f))) tb refl
    ∙ ap (λ (ts : List (List ℕ)). b ∷ ts) (cut c 32 (d ++ 32 ∷ (e ++ 32 ∷ f)) tc refl
    ∙ ap (λ (ts : List (List ℕ)). c ∷ ts) (cut d 32 (e ++ 32 ∷ f) td refl
    ∙ ap (λ (ts : List (List ℕ)). d ∷ ts) (cut e 32 f te refl
    ∙ ap (λ (ts : List (List ℕ)). e ∷ ts) (slice_split_none (λ (x : ℕ). eqb x 32) f tf)))))

-- a text with a front without a byte, behind which it stands nowhere either
pub without_two : (byte : ℕ) (a b : List ℕ) → Without byte a → Without byte b → eqb 32 byte ≡ false → Without byte (a ++ 32 ∷ b)
without_two byte a b ta tb gap = All-append (λ c. eqb c byte ≡ false) a (32 ∷ b) ta (All-cons (λ c. eqb c byte ≡ false) 32 b gap tb)
