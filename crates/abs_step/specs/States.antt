-- The states of the machine that a fact describes, and what an outcome says of a step.
use Rattle.std.specs.Prelude.{◌≡◌, ℕ, ℤ, false, List, [], ◌∷◌, map, Some, slice_index, ◌⊎◌}
use Rattle.viper_word.specs.Words.{signed_value}
use Rattle.viper_word.specs.Machine.{State, IsState}
use Rattle.viper_word.specs.Ranges.{NumberRange, IsIn}
use Rattle.memory_plan.specs.Plans.{PlanLines, code_word, range_at, IsStart}
use Rattle.memory_plan.specs.declared.start.Start.{Start}
use Rattle.num_domain.specs.Domain.{Domain}
use Rattle.flag_relation.specs.Values.{Values}
use Rattle.flag_relation.specs.Facts.{FactOf, Meets}
use Rattle.abs_step.specs.Posts.{PostsHold}
use Rattle.abs_step.specs.OutcomeLists.{OutcomeOf}

-- The machine runs, each word of code is the image's, and each word of data is in its span's range.
pub record IsKept (plan : PlanLines) (s : State) : Type 0 where
  pub words : IsState s
  pub running : s.stop ≡ false
  pub code : (at w : ℕ) → code_word plan at ≡ Some w → slice_index s.memory at ≡ w
  pub ranges : (at : ℕ) (r : NumberRange) → range_at plan.«data» at ≡ Some r
      → IsIn r (signed_value (slice_index s.memory at))

-- the signed values of a state's registers and of the words at the cells
abbrev pub numbers_in : List ℕ → State → Values ℤ
numbers_in cells s = record {
  regs = record { a = signed_value s.a; x = signed_value s.x; y = signed_value s.y };
  cells = map (λ c. signed_value (slice_index s.memory c)) cells;
}

module _ {T : Type 0} (d : Domain T) (plan : PlanLines) (cells : List ℕ) where
  -- a kept state whose numbers and B meet the fact
  pub record MeetsFact (f : FactOf T) (s : State) : Type 0 where
    pub kept : IsKept plan s
    pub meets : Meets d f (numbers_in cells s) s.b

  -- each state in which the plan may start at that line meets the fact
  abbrev pub MeetsStarts : Start → FactOf T → Type 0
  MeetsStarts line f = (s : State) (h : IsStart plan s) → h.line ≡ line → MeetsFact f s

  -- the outcome is that of a step from s to u: it leads to u's address, s meets its fact before and
  -- u its fact after, and what it says of each variable is true
  pub record IsOutcome (s u : State) (o : OutcomeOf T) : Type 0 where
    pub target : o.target ≡ u.p
    pub before : Meets d o.pre (numbers_in cells s) s.b
    pub after : Meets d o.after (numbers_in cells u) u.b
    pub posts : PostsHold o.posts (numbers_in cells s) (numbers_in cells u)

  -- one of the outcomes is
  abbrev pub SomeOutcome : State → State → List (OutcomeOf T) → Type 0
  SomeOutcome s u [] = ⊥
  SomeOutcome s u (o ∷ os) = IsOutcome s u o ⊎ SomeOutcome s u os
