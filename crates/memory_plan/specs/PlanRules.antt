-- The rules that a line of a plan may break after those before it, and their order.
use Rattle.std.specs.Prelude.{ℕ, zero, suc, ◌+◌, ◌-◌, nat_lt, nat_le, max, ◌&&◌, ◌||◌, ◌==◌, not, Bool, true, false, List, [], ◌∷◌, ◌++◌, length, Option, Some, None, is_some, Result, Ok, Err, if◌then◌else◌}
use Rattle.std.specs.List.{list_any}
use Rattle.viper_word.specs.Words.{signed_value}
use Rattle.viper_word.specs.declared.profile.Profile.TheVariants as profiles
use Rattle.text_lines.specs.Parts.{tokens_of}
use Rattle.memory_plan.specs.Images.{ImageWords, word_at}
use Rattle.memory_plan.specs.Ranges.{Span}
use Rattle.memory_plan.specs.Numbers.{range_has}
use Rattle.memory_plan.specs.Costs.{place_of}
use Rattle.memory_plan.specs.Plans.{PlanLines, in_code, is_marker, code_words}
use Rattle.memory_plan.specs.PlanShapes.{shape_of, value_of}
use Rattle.memory_plan.specs.declared.cost.Costed.{Costed}
use Rattle.memory_plan.specs.declared.plan.TheConstants.{SPANS, CODE_WORDS, MARKERS, STARTS, THRESHOLDS}
use Rattle.memory_plan.specs.declared.plan_line.Space.{Space}
use Rattle.memory_plan.specs.declared.plan_line.Space.TheVariants.{Data, Input, Output}
use Rattle.memory_plan.specs.declared.plan_line.WrittenLine.{WrittenLine}
use Rattle.memory_plan.specs.declared.plan_line.PlanLine.{PlanLine}
use Rattle.memory_plan.specs.declared.plan_line.PlanLine.TheVariants.{Profile, Code, Region, Marker, Start, Threshold, Cost}
use Rattle.memory_plan.specs.declared.text_fault.PlanRule.{PlanRule}
use Rattle.memory_plan.specs.declared.text_fault.PlanRule.TheVariants as rules

-- ---- the order of kinds

-- the place of a line's kind, from 1
abbrev pub kind_of : PlanLine → ℕ
kind_of (Profile p) = 1
kind_of (Code lo hi) = 2
kind_of (Region Data lo hi r) = 3
kind_of (Region Input lo hi r) = 4
kind_of (Region Output lo hi r) = 5
kind_of (Marker at) = 6
kind_of (Start s) = 7
kind_of (Threshold n) = 8
kind_of (Cost kind n) = 9

-- ---- what lines declare together

-- a plan of no lines
abbrev pub empty_plan : ImageWords → PlanLines
empty_plan image = record {
  profile = profiles.One;
  image = image;
  code = [];
  «data» = [];
  inputs = [];
  outputs = [];
  markers = [];
  starts = [];
  thresholds = [];
  costs = [];
}

-- the plan with one line more
abbrev pub add : PlanLines → PlanLine → PlanLines
add plan (Profile p) = record plan { profile = p }
add plan (Code lo hi) = record plan { code = plan.code ++ (lo, hi) ∷ [] }
add plan (Region Data lo hi r) = record plan { «data» = plan.«data» ++ (lo, hi, r) ∷ [] }
add plan (Region Input lo hi r) = record plan { inputs = plan.inputs ++ (lo, hi, r) ∷ [] }
add plan (Region Output lo hi r) = record plan { outputs = plan.outputs ++ (lo, hi, r) ∷ [] }
add plan (Marker at) = record plan { markers = plan.markers ++ at ∷ [] }
add plan (Start s) = record plan { starts = plan.starts ++ s ∷ [] }
add plan (Threshold n) = record plan { thresholds = plan.thresholds ++ n ∷ [] }
add plan (Cost kind n) = record plan { costs = plan.costs ++ (kind, n) ∷ [] }

-- what the lines so far declare, and the latest kind among them: 0 where there is no line
pub record SoFar : Type 0 where
  pub plan : PlanLines
  pub latest : ℕ

abbrev pub nothing_yet : ImageWords → SoFar
nothing_yet image = record { plan = empty_plan image; latest = 0 }

abbrev pub add_line : SoFar → PlanLine → SoFar
add_line s l = record { plan = add s.plan l; latest = max s.latest (kind_of l) }

-- ---- Limit: one line more than there may be of its kind, or more code words

-- has a line given the cost of the kind?
abbrev pub is_costed : List (Costed × ℕ) → Costed → Bool
is_costed costs kind = list_any (λ c. place_of c.0 == place_of kind) costs

-- one line of a profile; a cost once for each kind
abbrev pub too_many_lines : SoFar → PlanLine → Bool
too_many_lines s (Profile p) = nat_le 1 s.latest
too_many_lines s (Code lo hi) = nat_le SPANS (length s.plan.code)
too_many_lines s (Region Data lo hi r) = nat_le SPANS (length s.plan.«data»)
too_many_lines s (Region Input lo hi r) = nat_le SPANS (length s.plan.inputs)
too_many_lines s (Region Output lo hi r) = nat_le SPANS (length s.plan.outputs)
too_many_lines s (Marker at) = nat_le MARKERS (length s.plan.markers)
too_many_lines s (Start t) = nat_le STARTS (length s.plan.starts)
too_many_lines s (Threshold n) = nat_le THRESHOLDS (length s.plan.thresholds)
too_many_lines s (Cost kind n) = is_costed s.plan.costs kind

-- a line whose LO is above its HI brings none
abbrev pub too_many_words : PlanLines → PlanLine → Bool
too_many_words plan (Profile p) = false
too_many_words plan (Code lo hi) = nat_lt CODE_WORDS (code_words plan + (hi + 1 - lo))
too_many_words plan (Region space lo hi r) = false
too_many_words plan (Marker at) = false
too_many_words plan (Start t) = false
too_many_words plan (Threshold n) = false
too_many_words plan (Cost kind n) = false

-- ---- Span: no address, or one that an earlier span of its space has; code and data share a space

abbrev pub meets_code : List (ℕ × ℕ) → ℕ → ℕ → Bool
meets_code code lo hi = list_any (λ c. nat_le lo c.1 && nat_le c.0 hi) code

abbrev pub meets : List Span → ℕ → ℕ → Bool
meets spans lo hi = list_any (λ s. nat_le lo s.1 && nat_le s.0 hi) spans

abbrev pub meets_in : PlanLines → Space → ℕ → ℕ → Bool
meets_in plan Data lo hi = meets_code plan.code lo hi || meets plan.«data» lo hi
meets_in plan Input lo hi = meets plan.inputs lo hi
meets_in plan Output lo hi = meets plan.outputs lo hi

abbrev pub breaks_span : PlanLines → PlanLine → Bool
breaks_span plan (Profile p) = false
breaks_span plan (Code lo hi) = nat_lt hi lo || meets_in plan Data lo hi
breaks_span plan (Region space lo hi r) = nat_lt hi lo || meets_in plan space lo hi
breaks_span plan (Marker at) = false
breaks_span plan (Start t) = false
breaks_span plan (Threshold n) = false
breaks_span plan (Cost kind n) = false

-- ---- Image: a code address without a word, or a word in data that isn't in the range

-- has the image a word at each of so many addresses from this one on?
unfoldable pub all_words : ImageWords → ℕ → ℕ → Bool
all_words image at zero = true
all_words image at (suc count) = is_some (word_at image at) && all_words image (at + 1) count

-- is the word in the span, and not in its range?
abbrev pub is_misfit : Span → ℕ → ℕ → Bool
is_misfit s at word = nat_le s.0 at && nat_le at s.1 && not (range_has s.2 (signed_value word))

abbrev pub misfits : Span → ImageWords → Bool
misfits s image = list_any (λ e. is_misfit s e.0 e.1) image

abbrev pub breaks_image : PlanLines → PlanLine → Bool
breaks_image plan (Profile p) = false
breaks_image plan (Code lo hi) = not (all_words plan.image lo (hi + 1 - lo))
breaks_image plan (Region Data lo hi r) = misfits (lo, hi, r) plan.image
breaks_image plan (Region Input lo hi r) = false
breaks_image plan (Region Output lo hi r) = false
breaks_image plan (Marker at) = false
breaks_image plan (Start t) = false
breaks_image plan (Threshold n) = false
breaks_image plan (Cost kind n) = false

-- ---- Code: the address of a marker or a start that isn't in code

abbrev pub breaks_code : PlanLines → PlanLine → Bool
breaks_code plan (Profile p) = false
breaks_code plan (Code lo hi) = false
breaks_code plan (Region space lo hi r) = false
breaks_code plan (Marker at) = not (in_code plan at)
breaks_code plan (Start t) = not (in_code plan t.at)
breaks_code plan (Threshold n) = false
breaks_code plan (Cost kind n) = false

-- ---- Marker: a marker that was given before, or a start at none

abbrev pub breaks_marker : PlanLines → PlanLine → Bool
breaks_marker plan (Profile p) = false
breaks_marker plan (Code lo hi) = false
breaks_marker plan (Region space lo hi r) = false
breaks_marker plan (Marker at) = is_marker plan at
breaks_marker plan (Start t) = not (is_marker plan t.at)
breaks_marker plan (Threshold n) = false
breaks_marker plan (Cost kind n) = false

-- ---- the first rule that a line breaks

-- a line of right numbers
unfoldable pub broken_rule : SoFar → PlanLine → Option PlanRule
broken_rule s l =
    if nat_lt (kind_of l) s.latest then Some rules.Order
    else if too_many_lines s l || too_many_words s.plan l then Some rules.Limit
    else if breaks_span s.plan l then Some rules.Span
    else if breaks_image s.plan l then Some rules.Image
    else if breaks_code s.plan l then Some rules.Code
    else if breaks_marker s.plan l then Some rules.Marker
    else None

abbrev pub judge_kept : PlanLine → Option PlanRule → Result PlanLine PlanRule
judge_kept l (Some rule) = Err rule
judge_kept l None = Ok l

abbrev pub judge_value : SoFar → Option PlanLine → Result PlanLine PlanRule
judge_value s None = Err rules.Number
judge_value s (Some l) = judge_kept l (broken_rule s l)

abbrev pub judge_shape : SoFar → Option WrittenLine → Result PlanLine PlanRule
judge_shape s None = Err rules.Form
judge_shape s (Some w) = judge_value s (value_of w)

-- A line is judged after the lines before it: Form comes where it has none of the shapes, Number
-- where a number is wrong, and then the first of the other rules that it breaks.
abbrev pub judge_line : SoFar → List ℕ → Result PlanLine PlanRule
judge_line s line = judge_shape s (shape_of (tokens_of line))
