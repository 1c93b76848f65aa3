-- A machine: its profile with its state.
use Rattle.std.specs.Prelude.{ℕ, Result, slice_set}
use Rattle.viper_word.specs.declared.cause.Cause.{Cause}
use Rattle.viper_word.specs.declared.profile.Profile.{Profile}
use Rattle.viper_word.specs.Fields.{Fields}
use Rattle.viper_word.specs.Machine.{State, step, executed, performed}

-- the profile, which never changes, and the state
pub record Profiled : Type 0 where
  pub profile : Profile
  pub state : State

-- the state with a word in memory at an address
abbrev pub stored : State → ℕ → ℕ → State
stored s at w = record s { memory = slice_set s.memory at w }

-- what one instruction comes to in the machine's profile: from rule 1, 2 and 5 on
abbrev pub step_on : Profiled → ℕ → Result State Cause
step_on m answer = step m.profile m.state answer

abbrev pub executed_on : Profiled → Fields → ℕ → Result State Cause
executed_on m i answer = executed m.profile i m.state answer

abbrev pub performed_on : Profiled → Fields → ℕ → Result State Cause
performed_on m i answer = performed m.profile i m.state answer
