-- The sample: loops in a row, each with a call behind it, and the plan over them.
use Rattle.std.specs.Prelude.{ℕ, zero, suc, ◌+◌, ◌*◌, List, [], ◌∷◌, ◌++◌, None, codes}
use Rattle.viper_word.specs.declared.profile.Profile.TheVariants.{One}
use Rattle.viper_word.specs.Digits.{address_digits}
use Rattle.viper_word.specs.Ranges.{any_word}
use Rattle.memory_plan.specs.Images.{ImageWords}
use Rattle.memory_plan.specs.Plans.{PlanLines}
use Rattle.memory_plan.specs.declared.start.Start.{Start}
use Rattle.sample_program.specs.declared.words.TheConstants.{LOOP_WORDS, SET_TEN, TAKE_ONE, IS_ZERO, GO_UNLESS, CALL, GO_TO_START, GO_BACK}

-- ---- its words

-- the loop at this address counts A down from 10 to 0; behind it the procedure is called
abbrev pub loop_words : ℕ → ℕ → List ℕ
loop_words procedure at =
    SET_TEN ∷ TAKE_ONE ∷ IS_ZERO ∷ (GO_UNLESS + (at + 1)) ∷ (CALL + procedure) ∷ []

-- so many loops, one behind the other, from address 0 on
abbrev pub loops_words : ℕ → ℕ → List ℕ
loops_words procedure zero = []
loops_words procedure (suc n) = loops_words procedure n ++ loop_words procedure (LOOP_WORDS * n)

-- the address of the procedure, which is the last word and only goes back
abbrev pub procedure_of : ℕ → ℕ
procedure_of n = LOOP_WORDS * n + 1

-- the words of a sample of so many loops
abbrev pub sample_words : ℕ → List ℕ
sample_words n = loops_words (procedure_of n) n ++ GO_TO_START ∷ GO_BACK ∷ []

-- words at the addresses from this one on
abbrev pub placed : ℕ → List ℕ → ImageWords
placed at [] = []
placed at (w ∷ ws) = (at, w) ∷ placed (at + 1) ws

-- ---- its plan

-- the start at address 0, with any registers
abbrev pub any_start : Start
any_start = record { at = 0; a = any_word; x = any_word; y = any_word; b = None }

-- all words are code; address 0 is the marker, and the start
abbrev pub sample_plan : ℕ → PlanLines
sample_plan n = record {
  profile = One;
  image = placed 0 (sample_words n);
  code = (0, procedure_of n) ∷ [];
  «data» = [];
  inputs = [];
  outputs = [];
  markers = 0 ∷ [];
  starts = any_start ∷ [];
  thresholds = [];
  costs = [];
}

-- the text of the plan
abbrev pub sample_text : ℕ → List ℕ
sample_text n =
    codes "code 00000 " ++ address_digits (procedure_of n)
    ++ codes "\nmarker 00000\nstart 00000 any any any any\n"
