-- A text says one value, or has one first fault.
use Rattle.std.proofs.Common.{◌≡◌, ◌∙◌, ℕ, ◌+◌, Bool, true, false, cond, List, [], ◌∷◌, ◌++◌, Some, Ok, Err, map, refl, sym, ap, subst, append_assoc, arith}
use Rattle.std.proofs.lemmas.Bool.Decides.{nat_tests}
use Rattle.text_lines.specs.Lines.{lines_of, numbered, every_line, kept_lines, past_end}
use Rattle.text_lines.specs.Reading.{Say, HasOneReading}
use Rattle.text_lines.proofs.Readings.{said_once, said_unbroken, broken_once, reading_once}
use Rattle.memory_plan.specs.declared.text_fault.ImageRule.TheVariants.{Order}
use Rattle.memory_plan.specs.declared.text_fault.PlanRule.{PlanRule}
use Rattle.memory_plan.specs.declared.text_fault.PlanRule.TheVariants.{Start}
use Rattle.memory_plan.specs.declared.plan_line.PlanLine.{PlanLine}
use Rattle.memory_plan.specs.Images.{ImageWords, Ascend, is_above, word_of_line, in_order, image_grammar, IsImage, image_fault}
use Rattle.memory_plan.specs.PlanText.{plan_of, plan_grammar, has_start, IsPlan, plan_fault}

-- ---- images

above_there : (before : List (ℕ × ℕ)) (x : ℕ × ℕ) (xs : List (ℕ × ℕ)) → Ascend (before ++ x ∷ xs) → is_above before x.0 ≡ true
above_there [] x xs up = refl
above_there (e ∷ []) x xs up = let lt = up.0 in grind (arith, nat_tests)
above_there (e ∷ f ∷ fs) x xs up = above_there (f ∷ fs) x xs up.1

lines_say : (first : ℕ) (before : List (ℕ × ℕ)) (lines : List (List ℕ)) (words : List (ℕ × ℕ)) → map word_of_line lines ≡ map Some words → Ascend (before ++ words) → Say image_grammar before (numbered false first lines) words
lines_say first before [] [] e up = tt
lines_say first before [] (x ∷ xs) e up = absurd cc
lines_say first before (l ∷ ls) [] e up = absurd cc
lines_say first before (l ∷ ls) (x ∷ xs) e up =
    let head : word_of_line l ≡ Some x = cc in
    let tail : map word_of_line ls ≡ map Some xs = cc in (
      ap (in_order before) head ∙ ap (λ (b : Bool). cond b (Ok x) (Err Order)) (above_there before x xs up),
      lines_say (first + 1) (before ++ x ∷ []) ls xs tail (subst Ascend (sym (append_assoc before (x ∷ []) xs)) up),
    )

-- an image's text says its words
pub image_says : (text : List ℕ) (words : List (ℕ × ℕ)) → IsImage text words → Say image_grammar [] (every_line text) words
image_says text words is = lines_say 1 [] (lines_of text) words is.lines is.ascending

-- ---- plans

pub plan_reading : (image : ImageWords) (text : List ℕ) → HasOneReading (IsPlan image text) (plan_fault image text)
plan_reading image text =
    let one = reading_once PlanLine PlanRule (plan_grammar image) (has_start image) Start (kept_lines text) (past_end text) in
    record {
      value = λ a b h k. h.is ∙ ap (plan_of image) (one.value h.lines k.lines h.whole k.whole) ∙ sym k.is;
      no_fault = λ a line rule h b. one.no_fault h.lines line rule h.whole b;
      fault = one.fault;
    }

pub image_reading : (text : List ℕ) → HasOneReading (IsImage text) (image_fault text)
image_reading text = record {
  value = λ a b h k. said_once image_grammar (every_line text) a b (image_says text a h) (image_says text b k);
  no_fault = λ a line rule h b. said_unbroken image_grammar (every_line text) a line rule (image_says text a h) b;
  fault = λ line other rule last h k. broken_once image_grammar (every_line text) line other rule last h k;
}
