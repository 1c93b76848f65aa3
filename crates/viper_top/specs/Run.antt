-- run: how a run over a script ends.
use Rattle.std.specs.Prelude.{ℕ, Bool, true, false, List, ◌++◌, codes, decimal}
use Rattle.std.specs.List.{flat_map}
use Rattle.viper_word.specs.Digits.{address_digits, word_digits}
use Rattle.viper_word.specs.Machine.{State}
use Rattle.viper_word.specs.declared.cause.Cause.{Cause}
use Rattle.viper_word.specs.declared.cause.Cause.TheVariants.{End, Illegal, Address, Overflow, Target}
use Rattle.memory_plan.specs.Plans.{PlanLines}
use Rattle.peripheral_run.specs.Scripts.{Scripted}
use Rattle.peripheral_run.specs.Opening.{opening}
use Rattle.peripheral_run.specs.Log.{Output}
use Rattle.peripheral_run.specs.Runs.{Outcome, run_of}
use Rattle.peripheral_run.specs.declared.running.RunEnd.{RunEnd}
use Rattle.peripheral_run.specs.declared.running.RunEnd.TheVariants.{Ran, Stopped, ScriptEnded, OutOfRange}
use Rattle.viper_top.specs.Endings.{Ending, done, refused}

-- ---- its text

-- the line of an output
unfoldable pub output_line : Output → List ℕ
output_line o = codes "out " ++ decimal o.0 ++ codes " " ++ address_digits o.1 ++ codes " " ++ word_digits o.2.0 ++ codes "\n"

-- `0` or `1`
abbrev pub bit_text : Bool → List ℕ
bit_text true = codes "1"
bit_text false = codes "0"

-- P, A, X, Y and B
unfoldable pub registers_text : State → List ℕ
registers_text s =
    codes " P " ++ address_digits s.p ++ codes " A " ++ word_digits s.a ++ codes " X " ++ word_digits s.x ++ codes " Y " ++ word_digits s.y
    ++ codes " B " ++ bit_text s.b

-- the name of a cause
abbrev pub cause_text : Cause → List ℕ
cause_text End = codes "end"
cause_text Illegal = codes "illegal"
cause_text Address = codes "address"
cause_text Overflow = codes "overflow"
cause_text Target = codes "target"

-- the ending of a run of so many steps that left the machine in a state
unfoldable pub end_words : ℕ → State → RunEnd → List ℕ
end_words steps s Ran = codes "ran " ++ decimal steps ++ registers_text s
end_words steps s (Stopped k cause) = codes "stopped " ++ decimal k ++ codes " " ++ cause_text cause
end_words steps s (ScriptEnded k at) = codes "script ended " ++ decimal k ++ codes " " ++ address_digits at
end_words steps s (OutOfRange k at w) = codes "out of range " ++ decimal k ++ codes " " ++ address_digits at ++ codes " " ++ word_digits w.0

-- the outputs, and then the ending
unfoldable pub run_text : ℕ → Outcome → List ℕ
run_text steps o = flat_map output_line o.outputs ++ end_words steps o.last o.ending ++ codes "\n"

-- ---- how it ends

-- a run of all its steps is done, and any other refused
abbrev pub with_text : RunEnd → List ℕ → Ending
with_text Ran text = done text
with_text (Stopped k cause) text = refused text
with_text (ScriptEnded k at) text = refused text
with_text (OutOfRange k at w) text = refused text

abbrev pub run_ending : ℕ → Outcome → Ending
run_ending steps o = with_text o.ending (run_text steps o)

-- the run over the script's answers, from the state in which the script begins
unfoldable pub ran : PlanLines → Scripted → ℕ → Ending
ran plan script steps = run_ending steps (run_of plan steps script.answers (opening plan script.state))
