-- What one step tells those outside.
use Rattle.std.specs.Prelude.{ℕ, if◌then◌else◌, Option, Some, None, Result, Ok, Err}
use Rattle.viper_word.specs.declared.cause.Cause.{Cause}
use Rattle.viper_word.specs.declared.profile.Profile.{Profile}
use Rattle.viper_word.specs.Fields.{Fields, is_store, is_output}
use Rattle.viper_word.specs.Machine.{State, Computed, computed, step, register, address, operand, store_address, output_address, given}
use Rattle.viper_next.specs.declared.effect.Effect.{Effect}
use Rattle.viper_next.specs.declared.effect.Effect.TheVariants.{Quiet, Wrote, Out, Stopped}

-- a word that is stored to the first address, or put out to the second
abbrev pub passed_on : Option ℕ → Option ℕ → ℕ → Effect
passed_on (Some at) _ w = Wrote at (record { 0 = w })
passed_on None (Some at) w = Out at (record { 0 = w })
passed_on None None w = Quiet

-- why a step stops, or what it writes to memory or to a peripheral
unfoldable pub effect_of_step : State → Result State Cause → Effect
effect_of_step s (Ok _) = passed_on (store_address s) (output_address s) (given s)
effect_of_step s (Err cause) = Stopped cause

-- a stopped machine is quiet
unfoldable pub effect_of : Profile → State → ℕ → Effect
effect_of profile s answer = if s.stop then Quiet else effect_of_step s (step profile s answer)

-- what an instruction of these numbers passes on, where it doesn't stop
unfoldable pub effect_at : Fields → State → Effect
effect_at i s =
    if is_store i then Wrote (address i s) (record { 0 = register s i.r })
    else if is_output i then Out (address i s) (record { 0 = register s i.r })
    else Quiet

-- what the function of an instruction comes to
abbrev pub outcome_of : Profile → Fields → State → ℕ → Option Computed
outcome_of profile i s answer = computed profile i (register s i.r) (operand i s answer) s.b
