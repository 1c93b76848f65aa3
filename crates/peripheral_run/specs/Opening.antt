-- The state in which a machine begins.
use Rattle.std.specs.Prelude.{◌≡◌, ℕ, ◌<◌, ◌^◌, ◌&&◌, nat_le, false, List, length, map, Option, Some, None, unwrap_or, slice_index, if◌then◌else◌}
use Rattle.std.specs.List.{range_with_len}
use Rattle.std.specs.Int.{w32, cast_unsigned}
use Rattle.viper_word.specs.Machine.{State}
use Rattle.viper_word.specs.Ranges.{NumberRange}
use Rattle.memory_plan.specs.Images.{ImageWords, word_at}
use Rattle.memory_plan.specs.Ranges.{Span}
use Rattle.memory_plan.specs.Plans.{PlanLines, range_at}
use Rattle.peripheral_run.specs.Scripts.{Began}

-- the word of the least number of a range, where there is one
abbrev pub least_or : Option NumberRange → ℕ → ℕ
least_or None w = w
least_or (Some r) w = cast_unsigned w32 r.lo

-- what memory holds at an address: the image's word; in data that the image doesn't give, the least
-- number of the range; and else 0
abbrev pub first_word : PlanLines → ℕ → ℕ
first_word plan at = unwrap_or (word_at plan.image at) (least_or (range_at plan.«data» at) 0)

-- the words of memory at the addresses from 0 on
unfoldable pub first_memory : PlanLines → List ℕ
first_memory plan = map (first_word plan) (range_with_len 0 (2 ^ 20))

-- the registers as a script says, stop clear, and this memory
abbrev pub opening : PlanLines → Began → State
opening plan s = record {
  a = s.a;
  x = s.x;
  y = s.y;
  p = s.p;
  b = s.b;
  stop = false;
  memory = first_memory plan;
}

-- ---- memory as it is filled, of which no public clause speaks

-- only memory changed, and holds these words
pub record Fills (before after : State) (word : ℕ → ℕ) : Type 0 where
  pub rest : after ≡ record before { memory = after.memory }
  pub count : length after.memory ≡ length before.memory
  pub words : (at : ℕ) → at < 2 ^ 20 → slice_index after.memory at ≡ word at

-- the word from lo to hi, and else what was there
abbrev pub word_between : ℕ → ℕ → ℕ → State → ℕ → ℕ
word_between lo hi w s at = if nat_le lo at && nat_le at hi then w else slice_index s.memory at

-- in the spans the least number of the range
abbrev pub least_in : List Span → State → ℕ → ℕ
least_in spans s at = least_or (range_at spans at) (slice_index s.memory at)

-- the words of an image
abbrev pub words_over : ImageWords → State → ℕ → ℕ
words_over image s at = unwrap_or (word_at image at) (slice_index s.memory at)
