-- The written text of an image, and that it is read again.
use Rattle.std.proofs.Common.{◌≡◌, ◌∙◌, ℕ, zero, suc, ◌+◌, ◌*◌, ◌/◌, ◌%◌, ◌^◌, ◌<◌, ◌≤◌, false, eqb, List, [], ◌∷◌, ◌++◌, length, take, Option, Some, None, map, refl, ap, arith, rules}
use Rattle.std.specs.List.{All}
use Rattle.std.specs.Option.{option_and_then}
use Rattle.std.proofs.lemmas.Bool.Decides.{nat_tests}
use Rattle.std.proofs.lemmas.Grind.{common_steps}
use Rattle.std.proofs.lemmas.List.{length-append, take_all}
use Rattle.std.proofs.lemmas.List.Elements.{All-push, All-cons, All-append}
use Rattle.std.proofs.lemmas.List.Splits.{slice_split_at, slice_split_none}
use native.Mathlib.Numerals.{unary_clauses}
use Rattle.viper_word.specs.Digits.{digit, digits, address_digits, word_digits}
use Rattle.hex.specs.Hex.{hex_digit_value}
use Rattle.text_lines.specs.Lines.{lines_of}
use Rattle.text_lines.specs.Parts.{parts_of, tokens_of}
use Rattle.text_lines.proofs.Cuts.{lines_of_nothing, lines_of_cut}
use Rattle.memory_plan.specs.Hex.{hex_behind, hex_number}
use Rattle.viper_word.specs.declared.word.Word.{Word}
use Rattle.memory_plan.specs.Images.{entries, word_of_line, image_line, image_text, Ascend, Fit, IsImage}
use Rattle.memory_plan.proofs.DigitLemmas.{digits_length}
use Rattle.memory_plan.proofs.LineLemmas.{line_length}
use Rattle.memory_plan.proofs.HexLemmas.{hex_number_there}

-- ---- digits

pub digit_is : (d : ℕ) → d < 16 → hex_digit_value (digit d) ≡ Some d
unfolding digit
digit_is d small = grind (arith, nat_tests)

no_gap : (byte d : ℕ) → d < 16 → byte < 48 → eqb (digit d) byte ≡ false
unfolding digit
no_gap byte d small low = grind (arith, nat_tests)

-- digits have no byte that stands between them
pub digits_apart : (byte : ℕ) → byte < 48 → (count n : ℕ) → All (λ c. eqb c byte ≡ false) (digits count n)
unfolding digits
digits_apart byte low zero n = λ k d h. absurd (omega arith)
digits_apart byte low (suc count) n = All-push (λ c. eqb c byte ≡ false) (digits count (n / 16)) (digit (n % 16)) (digits_apart byte low count (n / 16)) (no_gap byte (n % 16) (omega arith) low)

hex_on : (n : ℕ) (xs ys : List ℕ) → hex_behind n (xs ++ ys) ≡ option_and_then (λ m. hex_behind m ys) (hex_behind n xs)
hex_on n [] ys = refl
hex_on n (c ∷ cs) ys = step (hex_digit_value c) (λ v. hex_on (n * 16 + v) cs ys)
  where
    step : (o : Option ℕ) → ((v : ℕ) → hex_behind (n * 16 + v) (cs ++ ys) ≡ option_and_then (λ m. hex_behind m ys) (hex_behind (n * 16 + v) cs))
        → option_and_then (λ v. hex_behind (n * 16 + v) (cs ++ ys)) o ≡ option_and_then (λ m. hex_behind m ys) (option_and_then (λ v. hex_behind (n * 16 + v) cs) o)
    step None each = refl
    step (Some v) each = each v

digits_number : (count n : ℕ) → n < 16 ^ count → hex_behind 0 (digits count n) ≡ Some n
unfolding digits
digits_number zero n small = ap Some (omega arith)
digits_number (suc count) n small =
    let power : 16 ^ suc count ≡ 16 ^ count * 16 = simp unary_clauses in
    let front : n / 16 < 16 ^ count = omega (arith, power, small) in
    let last : hex_digit_value (digit (n % 16)) ≡ Some (n % 16) = digit_is (n % 16) (omega arith) in
    let whole : n / 16 * 16 + n % 16 ≡ n = omega arith in
    hex_on 0 (digits count (n / 16)) (digit (n % 16) ∷ []) ∙ ap (option_and_then (λ m. hex_behind m (digit (n % 16) ∷ []))) (digits_number count (n / 16) front)
    ∙ ap (option_and_then (λ v. hex_behind (n / 16 * 16 + v) [])) last ∙ ap Some whole

pub digits_read : (count n : ℕ) → n < 16 ^ count → hex_number count (digits count n) ≡ Some n
digits_read count n small = hex_number_there count (digits count n) (digits_length count n) ∙ digits_number count n small

-- ---- lines

-- a line without its LF
line_text : ℕ × ℕ → List ℕ
line_text e = address_digits e.0 ++ 32 ∷ word_digits e.1

tokens_there : (e : ℕ × ℕ) → tokens_of (line_text e) ≡ address_digits e.0 ∷ word_digits e.1 ∷ []
unfolding line_text parts_of
tokens_there e =
    slice_split_at (λ (b : ℕ). eqb b 32) (address_digits e.0) 32 (word_digits e.1) (digits_apart 32 (omega arith) 5 e.0) refl
    ∙ ap (λ (ts : List (List ℕ)). address_digits e.0 ∷ ts) (slice_split_none (λ (b : ℕ). eqb b 32) (word_digits e.1) (digits_apart 32 (omega arith) 8 e.1))

line_read : (e : ℕ × ℕ) → e.0 < 2 ^ 20 → e.1 < 2 ^ 32 → word_of_line (line_text e) ≡ Some e
unfolding word_of_line
line_read e low small = rw (tokens_there e, digits_read 5 e.0 low, digits_read 8 e.1 small) refl

line_apart : (e : ℕ × ℕ) → All (λ c. eqb c 10 ≡ false) (line_text e)
unfolding line_text
line_apart e = All-append (λ c. eqb c 10 ≡ false) (address_digits e.0) (32 ∷ word_digits e.1) (digits_apart 10 (omega arith) 5 e.0) (All-cons (λ c. eqb c 10 ≡ false) 32 (word_digits e.1) refl (digits_apart 10 (omega arith) 8 e.1))

line_is : (e : ℕ × ℕ) (rest : List ℕ) → image_line e ++ rest ≡ line_text e ++ 10 ∷ rest
unfolding line_text image_line
line_is e rest = search (rules, common_steps)

lines_there : (e : ℕ × ℕ) (rest : List ℕ) → lines_of (line_text e ++ 10 ∷ rest) ≡ line_text e ∷ lines_of rest
unfolding parts_of
lines_there e rest = lines_of_cut (line_text e ++ 10 ∷ rest) (line_text e) rest (slice_split_at (λ (b : ℕ). eqb b 10) (line_text e) 10 rest (line_apart e) refl)

words_read : (words : List (ℕ × ℕ)) → Fit words → map word_of_line (lines_of (image_text words)) ≡ map Some words
words_read [] fit = ap (map word_of_line) lines_of_nothing
words_read (e ∷ es) fit =
    ap (λ (text : List ℕ). map word_of_line (lines_of text)) (line_is e (image_text es)) ∙ ap (map word_of_line) (lines_there e (image_text es))
    ∙ ap (λ (o : Option (ℕ × ℕ)). o ∷ map word_of_line (lines_of (image_text es))) (line_read e fit.0 fit.1) ∙ ap (λ (os : List (Option (ℕ × ℕ))). Some e ∷ os) (words_read es fit.2)

-- and a line more has fifteen bytes more
pub text_size : (image : List (ℕ × ℕ)) → length (image_text image) ≡ 15 * length image
text_size [] = refl
text_size (e ∷ es) = omega (arith, length-append (image_line e) (image_text es), line_length e, text_size es)

-- the lines of all words are the whole text
pub all_written : (text : List ℕ) (words : List (ℕ × Word)) (i : ℕ) (image : List (ℕ × ℕ)) → text ≡ image_text (entries (take i words)) → length words ≤ i → entries words ≡ image → text ≡ image_text image
all_written text words i image so_far past same =
    so_far ∙ ap (λ (ws : List (ℕ × Word)). image_text (entries ws)) (take_all i words past) ∙ ap image_text same

-- what is written is the text of the image
pub written_is_image : (text : List ℕ) (words : List (ℕ × ℕ)) → text ≡ image_text words → Ascend words → Fit words → IsImage text words
written_is_image text words e up fit = record { lines = ap (λ (t : List ℕ). map word_of_line (lines_of t)) e ∙ words_read words fit; ascending = up }
