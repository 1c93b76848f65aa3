-- What holds of every plan that is read, said of the whole plan.
use Rattle.std.specs.Prelude.{◌≡◌, ◌≢◌, ℕ, ◌+◌, ◌-◌, ◌^◌, ◌<◌, ◌≤◌, true, false, List, length, ℤ, ◌⊎◌}
use Rattle.std.specs.List.{All, AllPairs}
use Rattle.viper_word.specs.Words.{IsSigned}
use Rattle.memory_plan.specs.Images.{ImageWords, AreImageWords}
use Rattle.viper_word.specs.Ranges.{IsNormal}
use Rattle.memory_plan.specs.Ranges.{Span}
use Rattle.memory_plan.specs.Plans.{PlanLines, has_code, has_marker, words_of}
use Rattle.memory_plan.specs.PlanRules.{all_words, misfits}
use Rattle.memory_plan.specs.declared.start.Start.{Start}
use Rattle.memory_plan.specs.declared.cost.Costed.{Costed}
use Rattle.memory_plan.specs.declared.plan.TheConstants.{SPANS, CODE_WORDS, MARKERS, STARTS, THRESHOLDS}
use Rattle.memory_plan.specs.declared.cost.TheConstants.{MOST_COST}

-- no address is from lo to hi and from low to high
abbrev pub Apart : ℕ → ℕ → ℕ → ℕ → Type 0
Apart lo hi low high = (hi < low) ⊎ (high < lo)

-- Code spans aren't empty, have no address in common, and have a word of the image at each address.
pub record AreCodeSpans (image : ImageWords) (code : List (ℕ × ℕ)) : Type 0 where
  pub few : length code ≤ SPANS
  pub words : words_of code ≤ CODE_WORDS
  pub some : All (λ s. s.0 ≤ s.1) code
  pub placed : All (λ s. s.1 < 2 ^ 20) code
  pub apart : AllPairs (λ s t. Apart s.0 s.1 t.0 t.1) code
  pub there : All (λ s. all_words image s.0 (s.1 + 1 - s.0) ≡ true) code

-- Spans of one space aren't empty, have no address in common, and have ranges in the normal form.
pub record AreSpans (spans : List Span) : Type 0 where
  pub few : length spans ≤ SPANS
  pub some : All (λ s. s.0 ≤ s.1) spans
  pub placed : All (λ s. s.1 < 2 ^ 20) spans
  pub apart : AllPairs (λ s t. Apart s.0 s.1 t.0 t.1) spans
  pub normal : All (λ s. IsNormal s.2) spans

-- markers are distinct, and in code
pub record AreMarkers (code : List (ℕ × ℕ)) (markers : List ℕ) : Type 0 where
  pub few : length markers ≤ MARKERS
  pub differ : AllPairs (λ m n. m ≢ n) markers
  pub in_code : All (λ m. has_code code m ≡ true) markers

-- the ranges of a start are in the normal form
pub record HasNormalRanges (start : Start) : Type 0 where
  pub a : IsNormal start.a
  pub x : IsNormal start.x
  pub y : IsNormal start.y

-- each start is at a marker, in code
pub record AreStarts (code : List (ℕ × ℕ)) (markers : List ℕ) (starts : List Start) : Type 0 where
  pub few : length starts ≤ STARTS
  pub placed : All (λ s. s.at < 2 ^ 20) starts
  pub in_code : All (λ s. has_code code s.at ≡ true) starts
  pub at_markers : All (λ s. has_marker markers s.at ≡ true) starts
  pub normal : All HasNormalRanges starts

-- thresholds are signed words
pub record AreThresholds (thresholds : List ℤ) : Type 0 where
  pub few : length thresholds ≤ THRESHOLDS
  pub signed : All IsSigned thresholds

-- each kind has one cost at the most
pub record AreCosts (costs : List (Costed × ℕ)) : Type 0 where
  pub differ : AllPairs (λ c d. c.0 ≢ d.0) costs
  pub some : All (λ c. 1 ≤ c.1) costs
  pub small : All (λ c. c.1 ≤ MOST_COST) costs

-- Code and data share no address, and each word of the image in data is in its span's range.
pub record IsWellFormed (plan : PlanLines) : Type 0 where
  pub image : AreImageWords plan.image
  pub code : AreCodeSpans plan.image plan.code
  pub «data» : AreSpans plan.«data»
  pub code_and_data : All (λ s. All (λ t. Apart s.0 s.1 t.0 t.1) plan.«data») plan.code
  pub fits : All (λ s. misfits s plan.image ≡ false) plan.«data»
  pub inputs : AreSpans plan.inputs
  pub outputs : AreSpans plan.outputs
  pub markers : AreMarkers plan.code plan.markers
  pub starts : AreStarts plan.code plan.markers plan.starts
  pub thresholds : AreThresholds plan.thresholds
  pub costs : AreCosts plan.costs
