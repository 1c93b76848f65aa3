-- Steps that read no peripheral.
use Rattle.std.specs.Prelude.{◌≡◌, ℕ}
use Rattle.viper_word.specs.declared.profile.Profile.{Profile}
use Rattle.viper_word.specs.Machine.{State, next}
use Rattle.viper_next.specs.Effects.{effect_of}

-- the step doesn't look at the answer: the state after it and its effect are the same for all
-- answers
pub record IgnoresAnswer (profile : Profile) (s : State) : Type 0 where
  pub state : (one other : ℕ) → next profile s one ≡ next profile s other
  pub effect : (one other : ℕ) → effect_of profile s one ≡ effect_of profile s other
