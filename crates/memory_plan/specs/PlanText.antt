-- The text of a plan.
use Rattle.std.specs.Prelude.{◌≡◌, ℕ, Bool, true, false, List, [], ◌∷◌}
use Rattle.text_lines.specs.Lines.{kept_lines, past_end}
use Rattle.text_lines.specs.Reading.{Grammar, IsWhole, Breaks, made, grammar_by}
use Rattle.memory_plan.specs.Images.{ImageWords}
use Rattle.memory_plan.specs.Plans.{PlanLines}
use Rattle.memory_plan.specs.PlanRules.{nothing_yet, add_line, judge_line}
use Rattle.memory_plan.specs.declared.plan_line.PlanLine.{PlanLine}
use Rattle.memory_plan.specs.declared.text_fault.PlanRule.{PlanRule}
use Rattle.memory_plan.specs.declared.text_fault.PlanRule.TheVariants as rules
use Rattle.memory_plan.specs.declared.text_fault.PlanFault.{PlanFault}
use Rattle.memory_plan.specs.declared.text_fault.PlanFault.TheVariants as faults

-- what lines declare together over an image
abbrev pub plan_of : ImageWords → List PlanLine → PlanLines
plan_of image lines = (made add_line (nothing_yet image) lines).plan

-- each line is judged after those before it
abbrev pub plan_grammar : ImageWords → Grammar PlanLine PlanRule
plan_grammar image = grammar_by add_line (nothing_yet image) judge_line

-- is there an item?
abbrev pub has_some : {A : Type 0} → List A → Bool
has_some [] = false
has_some (x ∷ xs) = true

-- does one of the lines declare a start?
abbrev pub has_start : ImageWords → List PlanLine → Bool
has_start image lines = has_some (plan_of image lines).starts

-- The text is that of the plan over the image: its lines that aren't skipped say lines of a plan,
-- each keeping all rules against those before it; one of them is a start; and the plan is what they
-- declare.
pub record IsPlan (image : ImageWords) (text : List ℕ) (plan : PlanLines) : Type 0 where
  pub lines : List PlanLine
  pub whole : IsWhole (plan_grammar image) (has_start image) (kept_lines text) lines
  pub is : plan ≡ plan_of image lines

-- why a text isn't read as a plan: the first line that breaks a rule; or Start, one past the last
-- line, where no line does and none is a start; or want of memory
abbrev pub IsPlanFault : ImageWords → List ℕ → PlanFault → Type 0
IsPlanFault image text (faults.At line rule) =
    Breaks (plan_grammar image) (has_start image) rules.Start (kept_lines text) (past_end text)
    line rule
IsPlanFault image text faults.Memory = Unit {0}

-- the text breaks this rule first, at this line
abbrev pub plan_fault : ImageWords → List ℕ → ℕ → PlanRule → Type 0
plan_fault image text line rule = IsPlanFault image text (faults.At line rule)
