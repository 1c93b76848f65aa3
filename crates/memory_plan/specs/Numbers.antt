-- Numbers and ranges as a plan writes them.
use Rattle.std.specs.Prelude.{ℕ, ◌+◌, ◌-◌, ◌*◌, nat_le, ◌==◌, ◌&&◌, ◌||◌, ℤ, pos, neg_ℤ, ◌-ℤ◌, int_le, int_lt, unsigned_abs, List, [], ◌∷◌, length, Bool, Option, Some, None, if◌then◌else◌, codes}
use Rattle.std.specs.Int.{int_rem_euclid}
use Rattle.std.specs.Ordering.{int_eq}
use Rattle.std.specs.Str.{bytes_eq}
use Rattle.viper_word.specs.Words.{is_signed}
use Rattle.text_lines.specs.Parts.{parts_of, two, three, ◌>>=◌}
use Rattle.viper_word.specs.Ranges.{NumberRange, any_word}
use Rattle.memory_plan.specs.declared.range.TheConstants.{GREATEST_STEP}
use Rattle.memory_plan.specs.declared.range_text.TheConstants.{MINUS, MOST_DIGITS, DOT, SLASH}
use Rattle.memory_plan.specs.declared.range_text.RangeText.{RangeText}
use Rattle.memory_plan.specs.declared.range_text.RangeText.TheVariants.{Any, One, Ends, Steps}

-- ---- numbers

-- the value of a decimal digit
abbrev pub decimal_digit : ℕ → Option ℕ
decimal_digit c = if nat_le 48 c && nat_le c 57 then Some (c - 48) else None

-- the number that decimal digits make behind those of another
abbrev pub decimal_behind : ℕ → List ℕ → Option ℕ
decimal_behind n [] = Some n
decimal_behind n (c ∷ cs) = decimal_digit c >>= λ d. decimal_behind (n * 10 + d) cs

-- one to ten digits
unfoldable pub natural : List ℕ → Option ℕ
natural text =
    if nat_le 1 (length text) && nat_le (length text) MOST_DIGITS
    then decimal_behind 0 text else None

-- and an optional `-` before them
unfoldable pub number : List ℕ → Option ℤ
number [] = None
number (c ∷ cs) =
    if c == MINUS then (natural cs >>= λ n. Some (neg_ℤ (pos n)))
    else natural (c ∷ cs) >>= λ n. Some (pos n)

-- ---- ranges in their three written forms, and `any`

-- `L..H`
unfoldable pub between : List ℕ → Option (ℤ × ℤ)
between text = do
  t ← three (parts_of DOT text)
  lo ← number t.0
  hi ← number t.2
  if length t.1 == 0 then Some (lo, hi) else None

-- `N` or `L..H`
abbrev pub unstepped_range : Option (ℤ × ℤ) → List ℕ → Option RangeText
unstepped_range (Some e) text = Some (Ends e.0 e.1)
unstepped_range None text = number text >>= λ n. Some (One n)

-- or `L..H/M`
abbrev pub stepped_range : Option (List ℕ × List ℕ) → List ℕ → Option RangeText
stepped_range (Some p) text =
    between p.0 >>= λ e. number p.1 >>= λ m. Some (Steps e.0 e.1 m)
stepped_range None text = unstepped_range (between text) text

unfoldable pub range_text : List ℕ → Option RangeText
range_text text =
    if bytes_eq text (codes "any") then Some Any
    else stepped_range (two (parts_of SLASH text)) text

-- ---- what they stand for

-- one number
abbrev pub one_number : ℤ → NumberRange
one_number n = record { lo = n; hi = n; modulus = pos 0; residue = n }

-- from lo to hi in steps, which has several numbers
abbrev pub several : ℤ → ℤ → ℤ → NumberRange
several lo hi m = record { lo = lo; hi = hi; modulus = m; residue = int_rem_euclid lo m }

-- are these two signed words, the lower one first?
abbrev pub is_rising : ℤ → ℤ → Bool
is_rising lo hi = is_signed lo && is_signed hi && int_lt lo hi

-- is the number a step of a range?
abbrev pub is_step : ℤ → Bool
is_step m = int_le (pos 1) m && int_le m GREATEST_STEP

-- does the step lead from the lower to the upper?
abbrev pub leads : ℤ → ℤ → ℤ → Bool
leads lo hi m = unsigned_abs (int_rem_euclid (hi -ℤ lo) m) == 0

-- is the number in the range?
abbrev pub range_has : NumberRange → ℤ → Bool
range_has r n = int_le r.lo n && int_le n r.hi && (int_eq n r.lo || leads r.lo n r.modulus)

-- the range of one number; none where it isn't a signed word
abbrev pub one_of : ℤ → Option NumberRange
one_of n = if is_signed n then Some (one_number n) else None

-- the range of such steps; none where they aren't those of a range
unfoldable pub steps_of : ℤ → ℤ → ℤ → Option NumberRange
steps_of lo hi m =
    if is_rising lo hi && is_step m && leads lo hi m then Some (several lo hi m) else None

-- The range that a text stands for. None where a number isn't a signed word, the ends are the wrong
-- way round, or a step doesn't lead from the lower to the upper.
abbrev pub range_of : RangeText → Option NumberRange
range_of Any = Some any_word
range_of (One n) = one_of n
range_of (Ends lo hi) = if int_eq lo hi then one_of lo else steps_of lo hi (pos 1)
range_of (Steps lo hi m) = steps_of lo hi m
