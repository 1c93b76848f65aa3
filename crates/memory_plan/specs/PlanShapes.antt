-- The lines of a plan as they are written, and what they declare.
use Rattle.std.specs.Prelude.{ℕ, ◌&&◌, ℤ, pos, int_le, unsigned_abs, Bool, true, false, List, [], ◌∷◌, codes, Option, Some, None, if◌then◌else◌}
use Rattle.std.specs.Str.{bytes_eq}
use Rattle.viper_word.specs.Words.{is_signed}
use Rattle.viper_word.specs.declared.profile.Profile.{Profile}
use Rattle.viper_word.specs.declared.profile.Profile.TheVariants as profiles
use Rattle.text_lines.specs.Parts.{tokens_of, one, two, three, five, ◌>>=◌}
use Rattle.memory_plan.specs.Hex.{hex_number}
use Rattle.viper_word.specs.Ranges.{NumberRange}
use Rattle.memory_plan.specs.Numbers.{number, range_text, range_of}
use Rattle.memory_plan.specs.Costs.{cost_name}
use Rattle.line_text.specs.declared.digits.TheConstants.{ADDRESS_DIGITS}
use Rattle.memory_plan.specs.declared.cost.TheConstants.{MOST_COST}
use Rattle.memory_plan.specs.declared.plan_line.Space.{Space}
use Rattle.memory_plan.specs.declared.plan_line.Space.TheVariants.{Data, Input, Output}
use Rattle.memory_plan.specs.declared.plan_line.WrittenLine.{WrittenLine}
use Rattle.memory_plan.specs.declared.plan_line.WrittenLine.TheVariants as written
use Rattle.memory_plan.specs.declared.plan_line.PlanLine.{PlanLine}
use Rattle.memory_plan.specs.declared.plan_line.PlanLine.TheVariants as lines

-- ---- the nine shapes

-- `profile N`; the number is judged by its text
abbrev pub profile_of : List ℕ → Option Profile
profile_of text =
    if bytes_eq text (codes "1") then Some profiles.One
    else if bytes_eq text (codes "2") then Some profiles.Two
    else None

unfoldable pub profile_shape : List (List ℕ) → Option WrittenLine
profile_shape tokens = do
  t ← one tokens
  n ← number t
  Some (written.Profile (profile_of t))

-- `code LO HI`
unfoldable pub code_shape : List (List ℕ) → Option WrittenLine
code_shape tokens = do
  t ← two tokens
  lo ← hex_number ADDRESS_DIGITS t.0
  hi ← hex_number ADDRESS_DIGITS t.1
  Some (written.Code lo hi)

-- `data LO HI RANGE`, and `input` and `output` likewise
unfoldable pub span_shape : Space → List (List ℕ) → Option WrittenLine
span_shape space tokens = do
  t ← three tokens
  lo ← hex_number ADDRESS_DIGITS t.0
  hi ← hex_number ADDRESS_DIGITS t.1
  range ← range_text t.2
  Some (written.Region space lo hi range)

-- `marker AT`
unfoldable pub marker_shape : List (List ℕ) → Option WrittenLine
marker_shape tokens = do
  t ← one tokens
  at ← hex_number ADDRESS_DIGITS t
  Some (written.Marker at)

-- B: `0`, `1` or `any`
unfoldable pub flag_of : List ℕ → Option (Option Bool)
flag_of text =
    if bytes_eq text (codes "0") then Some (Some false)
    else if bytes_eq text (codes "1") then Some (Some true)
    else if bytes_eq text (codes "any") then Some None
    else None

-- `start AT RANGE RANGE RANGE B`
unfoldable pub start_shape : List (List ℕ) → Option WrittenLine
start_shape tokens = do
  t ← five tokens
  at ← hex_number ADDRESS_DIGITS t.0
  a ← range_text t.1
  x ← range_text t.2
  y ← range_text t.3
  b ← flag_of t.4
  Some (written.Start at a x y b)

-- `threshold N`
unfoldable pub threshold_shape : List (List ℕ) → Option WrittenLine
threshold_shape tokens = do
  t ← one tokens
  n ← number t
  Some (written.Threshold n)

-- `cost NAME N`
unfoldable pub cost_shape : List (List ℕ) → Option WrittenLine
cost_shape tokens = do
  t ← two tokens
  kind ← cost_name t.0
  n ← number t.1
  Some (written.Cost kind n)

-- the shape that a line's first token tells
abbrev pub shape_by : List ℕ → List (List ℕ) → Option WrittenLine
shape_by kind tokens =
    if bytes_eq kind (codes "profile") then profile_shape tokens
    else if bytes_eq kind (codes "code") then code_shape tokens
    else if bytes_eq kind (codes "data") then span_shape Data tokens
    else if bytes_eq kind (codes "input") then span_shape Input tokens
    else if bytes_eq kind (codes "output") then span_shape Output tokens
    else if bytes_eq kind (codes "marker") then marker_shape tokens
    else if bytes_eq kind (codes "start") then start_shape tokens
    else if bytes_eq kind (codes "threshold") then threshold_shape tokens
    else if bytes_eq kind (codes "cost") then cost_shape tokens
    else None

abbrev pub shape_of : List (List ℕ) → Option WrittenLine
shape_of [] = None
shape_of (kind ∷ tokens) = shape_by kind tokens

-- ---- what a line declares; none where a number is wrong

-- three ranges, each as it is written
abbrev pub start_of : ℕ → Option Bool → Option NumberRange → Option NumberRange → Option NumberRange
    → Option PlanLine
start_of at b a x y = a >>= λ a'. x >>= λ x'. y >>= λ y'.
    Some (lines.Start (record { at = at; a = a'; x = x'; y = y'; b = b }))

-- a cost is from 1 on
abbrev pub is_cost : ℤ → Bool
is_cost n = int_le (pos 1) n && int_le n (pos MOST_COST)

abbrev pub value_of : WrittenLine → Option PlanLine
value_of (written.Profile p) = p >>= λ profile. Some (lines.Profile profile)
value_of (written.Code lo hi) = Some (lines.Code lo hi)
value_of (written.Region space lo hi r) =
    range_of r >>= λ range. Some (lines.Region space lo hi range)
value_of (written.Marker at) = Some (lines.Marker at)
value_of (written.Start at a x y b) = start_of at b (range_of a) (range_of x) (range_of y)
value_of (written.Threshold n) = if is_signed n then Some (lines.Threshold n) else None
value_of (written.Cost kind n) = if is_cost n then Some (lines.Cost kind (unsigned_abs n)) else None

-- what a line of the text declares
abbrev pub line_of : List ℕ → Option PlanLine
line_of line = shape_of (tokens_of line) >>= value_of
