-- The text of the plan of a sample is read as that plan.
use Rattle.std.proofs.Common.{◌≡◌, ◌∙◌, ℕ, zero, suc, ◌+◌, ◌*◌, ◌-◌, ◌<◌, ◌≤◌, ◌^◌, Bool, true, false, eqb, ltb, leb, ◌||◌, List, [], ◌∷◌, ◌++◌, length, Some, None, Ok, refl, sym, ap, subst, arith}
use Rattle.std.specs.Prelude.{codes}
use Rattle.std.specs.List.{All, list_any}
use Rattle.std.proofs.lemmas.Bool.Decides.{nat_tests}
use Rattle.std.proofs.lemmas.List.{length-append, length-map}
use Rattle.std.proofs.lemmas.List.Elements.{All-cons, All-append}
use Rattle.std.proofs.lemmas.List.Splits.{slice_split_at, slice_split_none}
use Rattle.viper_word.specs.Digits.{digits, address_digits}
use Rattle.text_lines.specs.Lines.{NumberedLine, lines_of, numbered, kept_lines}
use Rattle.text_lines.specs.Parts.{parts_of, tokens_of}
use Rattle.text_lines.specs.Reading.{Say}
use Rattle.text_lines.proofs.Cuts.{lines_of_cut}
use Rattle.memory_plan.specs.Hex.{hex_number}
use Rattle.memory_plan.specs.Numbers.{range_text}
use Rattle.memory_plan.specs.PlanRules.{all_words, empty_plan, SoFar, nothing_yet, add_line, broken_rule, judge_kept, judge_shape, judge_line}
use Rattle.memory_plan.specs.Plans.{PlanLines, code_words}
use Rattle.memory_plan.specs.Images.{ImageWords, numbers}
use Rattle.viper_word.specs.declared.word.Word.{Word}
use Rattle.memory_plan.specs.PlanShapes.{code_shape, marker_shape, start_shape, flag_of, shape_of}
use Rattle.memory_plan.specs.PlanText.{IsPlan, IsPlanFault, plan_grammar}
use Rattle.memory_plan.specs.declared.plan_line.WrittenLine.TheVariants as written
use Rattle.memory_plan.specs.declared.range_text.RangeText.TheVariants.{Any}
use Rattle.memory_plan.specs.declared.text_fault.PlanRule.{PlanRule}
use Rattle.memory_plan.specs.declared.text_fault.PlanFault.TheVariants as faults
use Rattle.memory_plan.proofs.OneValue.{plan_reading}
use Rattle.memory_plan.proofs.DigitLemmas.{digits_length}
use Rattle.memory_plan.specs.declared.plan_line.PlanLine.{PlanLine}
use Rattle.memory_plan.specs.declared.plan_line.PlanLine.TheVariants.{Code, Marker, Start}
use Rattle.memory_plan.proofs.Written.{digits_apart, digits_read}
use Rattle.sample_program.specs.Samples.{placed, loop_words, loops_words, procedure_of, sample_words, sample_text, sample_plan, any_start}
use Rattle.sample_program.proofs.Placed.{all_there}

-- ---- how many words there are

loops_length : (procedure n : ℕ) → length (loops_words procedure n) ≡ 5 * n
loops_length procedure zero = refl
loops_length procedure (suc n) =
    length-append (loops_words procedure n) (loop_words procedure (5 * n)) ∙ (let so_far = loops_length procedure n in omega (arith, so_far))

words_length : (n : ℕ) → length (sample_words n) ≡ 5 * n + 2
words_length n =
    length-append (loops_words (procedure_of n) n) (_ ∷ _ ∷ []) ∙ (let so_far = loops_length (procedure_of n) n in omega (arith, so_far))

-- ---- the lines of the text

text_without : (byte : ℕ) (text : List ℕ) → list_any (λ c. eqb c byte) text ≡ false → All (λ c. eqb c byte ≡ false) text
text_without byte [] e = λ k d h. absurd (omega arith)
text_without byte (c ∷ cs) e = by (eqb c byte) refl e (text_without byte cs)
  where
    by : (b : Bool) → eqb c byte ≡ b → (b || list_any (λ c. eqb c byte) cs) ≡ false → (list_any (λ c. eqb c byte) cs ≡ false → All (λ c. eqb c byte ≡ false) cs)
        → All (λ c. eqb c byte ≡ false) (c ∷ cs)
    by true f g rest = absurd cc
    by false f g rest = All-cons (λ c. eqb c byte ≡ false) c cs f (rest g)

code_line : ℕ → List ℕ
code_line last = codes "code 00000 " ++ address_digits last

marker_line : List ℕ
marker_line = codes "marker 00000"

start_line : List ℕ
start_line = codes "start 00000 any any any any"

numbered_line : ℕ → List ℕ → NumberedLine
numbered_line number text = record { number = number; text = text }

lines_there : (n : ℕ) → kept_lines (sample_text n) ≡ numbered_line 1 (code_line (procedure_of n)) ∷ numbered_line 2 marker_line ∷ numbered_line 3 start_line ∷ []
unfolding parts_of lines_of code_line marker_line start_line numbered_line digits
lines_there n =
    let rest = codes "marker 00000\nstart 00000 any any any any\n" in
    let last = procedure_of n in
    let front : All (λ c. eqb c 10 ≡ false) (code_line last) = All-append (λ c. eqb c 10 ≡ false) (codes "code 00000 ") (address_digits last) (text_without 10 (codes "code 00000 ") refl) (digits_apart 10 (omega arith) 5 last) in
    ap (numbered true 1) (lines_of_cut (sample_text n) (code_line last) rest (slice_split_at (λ (b : ℕ). eqb b 10) (code_line last) 10 rest front refl))

-- ---- what they say

-- behind each line
behind_code : ℕ → SoFar
behind_code n = add_line (nothing_yet (placed 0 (sample_words n))) (Code 0 (procedure_of n))

code_tokens : (last : ℕ) → tokens_of (code_line last) ≡ codes "code" ∷ codes "00000" ∷ address_digits last ∷ []
unfolding parts_of code_line
code_tokens last =
    ap (λ (ts : List (List ℕ)). codes "code" ∷ codes "00000" ∷ ts) (slice_split_none (λ (b : ℕ). eqb b 32) (address_digits last) (digits_apart 32 (omega arith) 5 last))

-- ---- each line has its shape

zero_read : hex_number 5 (codes "00000") ≡ Some 0
unfolding hex_number
zero_read = refl

code_shaped : (last : ℕ) → last < 16 ^ 5 → shape_of (tokens_of (code_line last)) ≡ Some (written.Code 0 last)
unfolding code_shape
code_shaped last small = ap shape_of (code_tokens last) ∙ rw (zero_read, digits_read 5 last small) refl

marker_shaped : shape_of (tokens_of marker_line) ≡ Some (written.Marker 0)
unfolding parts_of marker_line marker_shape hex_number
marker_shaped = refl

any_read : range_text (codes "any") ≡ Some Any
unfolding range_text
any_read = refl

start_shaped : shape_of (tokens_of start_line) ≡ Some (written.Start 0 Any Any Any None)
unfolding parts_of start_line start_shape hex_number range_text flag_of
start_shaped = refl

-- ---- and breaks no rule

code_kept : (n : ℕ) → n ≤ 1000 → broken_rule (nothing_yet (placed 0 (sample_words n))) (Code 0 (procedure_of n)) ≡ None
unfolding broken_rule
code_kept n few =
    let image = placed 0 (sample_words n) in
    let last = procedure_of n in
    let none : code_words (empty_plan image) ≡ 0 = refl in
    let count : code_words (empty_plan image) + (last + 1 - 0) ≡ 5 * n + 2 = omega (arith, none) in
    let fits : ltb 16384 (code_words (empty_plan image) + (last + 1 - 0)) ≡ false = rw count (few_words n few) in
    let span : ltb last 0 ≡ false = grind (arith, nat_tests) in
    let words = words_length n in
    let there : all_words image 0 (last + 1 - 0) ≡ true = all_there (sample_words n) 0 (last + 1 - 0) (omega (arith, words)) in
    rw (fits, span, there) refl
  where
    few_words : (n : ℕ) → n ≤ 1000 → ltb 16384 (5 * n + 2) ≡ false
    few_words n few = grind (arith, nat_tests)

low_there : (n : ℕ) → leb 0 (procedure_of n) ≡ true
low_there n = grind (arith, nat_tests)

marker_kept : (n : ℕ) → broken_rule (behind_code n) (Marker 0) ≡ None
unfolding broken_rule behind_code
marker_kept n = rw (low_there n) refl

start_kept : (n : ℕ) → broken_rule (add_line (behind_code n) (Marker 0)) (Start any_start) ≡ None
unfolding broken_rule behind_code
start_kept n = rw (low_there n) refl

code_says : (n : ℕ) → n ≤ 1000 → judge_line (nothing_yet (placed 0 (sample_words n))) (code_line (procedure_of n)) ≡ Ok (Code 0 (procedure_of n))
code_says n few =
    let small : procedure_of n < 16 ^ 5 = omega arith in
    ap (judge_shape (nothing_yet (placed 0 (sample_words n)))) (code_shaped (procedure_of n) small)
    ∙ ap (judge_kept (Code 0 (procedure_of n))) (code_kept n few)

marker_says : (n : ℕ) → judge_line (behind_code n) marker_line ≡ Ok (Marker 0)
marker_says n = ap (judge_shape (behind_code n)) marker_shaped ∙ ap (judge_kept (Marker 0)) (marker_kept n)

start_says : (n : ℕ) → judge_line (add_line (behind_code n) (Marker 0)) start_line ≡ Ok (Start any_start)
start_says n =
    ap (judge_shape (add_line (behind_code n) (Marker 0))) start_shaped ∙ ap (judge_kept (Start any_start)) (start_kept n)

said : ℕ → List PlanLine
said n = Code 0 (procedure_of n) ∷ Marker 0 ∷ Start any_start ∷ []

pub sample_is_plan : (n : ℕ) → n ≤ 1000 → IsPlan (placed 0 (sample_words n)) (sample_text n) (sample_plan n)
unfolding said behind_code numbered_line
sample_is_plan n few = record {
  lines = said n;
  whole = record {
    said = subst (λ (ls : List NumberedLine). Say (plan_grammar (placed 0 (sample_words n))) [] ls (said n)) (sym (lines_there n)) (code_says n few, (marker_says n, (start_says n, tt)));
    whole = refl;
  };
  is = refl;
}

-- ---- for the code

-- the plan that is read is that one, and no line of it breaks a rule
pub is_sample : (n : ℕ) (image : ImageWords) (text : List ℕ) (plan : PlanLines) → n ≤ 1000 → image ≡ placed 0 (sample_words n) → text ≡ sample_text n → IsPlan image text plan → plan ≡ sample_plan n
is_sample n image text plan few e f is =
    let over : IsPlan (placed 0 (sample_words n)) text plan = subst (λ (i : ImageWords). IsPlan i text plan) e is in
    let whole : IsPlan (placed 0 (sample_words n)) (sample_text n) plan = subst (λ (t : List ℕ). IsPlan (placed 0 (sample_words n)) t plan) f over in
    (plan_reading (placed 0 (sample_words n)) (sample_text n)).value plan (sample_plan n) whole (sample_is_plan n few)

pub no_fault : (n : ℕ) (image : ImageWords) (text : List ℕ) (line : ℕ) (rule : PlanRule) → n ≤ 1000 → image ≡ placed 0 (sample_words n) → text ≡ sample_text n → IsPlanFault image text (faults.At line rule) → ⊥
no_fault n image text line rule few e f is =
    let over : IsPlanFault (placed 0 (sample_words n)) text (faults.At line rule) = subst (λ (i : ImageWords). IsPlanFault i text (faults.At line rule)) e is in
    let whole : IsPlanFault (placed 0 (sample_words n)) (sample_text n) (faults.At line rule) = subst (λ (t : List ℕ). IsPlanFault (placed 0 (sample_words n)) t (faults.At line rule)) f over in
    (plan_reading (placed 0 (sample_words n)) (sample_text n)).no_fault (sample_plan n) line rule (sample_is_plan n few) whole

pub text_short : (n : ℕ) → length (sample_text n) + 1 < 2 ^ 32
text_short n =
    let whole = length-append (codes "code 00000 ") (address_digits (procedure_of n) ++ codes "\nmarker 00000\nstart 00000 any any any any\n") in
    let behind = length-append (address_digits (procedure_of n)) (codes "\nmarker 00000\nstart 00000 any any any any\n") in
    let digits = digits_length 5 (procedure_of n) in
    omega (arith, whole, behind, digits)

pub words_few : (n : ℕ) (words : List Word) → n ≤ 1000 → numbers words ≡ sample_words n → length words ≤ 2 ^ 20
words_few n words few is =
    let mapped = length-map words (λ (w : Word). w.0) in
    let count = ap length is ∙ words_length n in
    omega (arith, mapped, count)
