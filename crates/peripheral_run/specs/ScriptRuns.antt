-- A run over a script as one of the runs that a plan speaks of.
use Rattle.std.specs.Prelude.{◌≡◌, ℕ, ◌+◌, Bool, true, false, List, [], ◌∷◌, ◌++◌, Some, is_some, length, slice_get, if◌then◌else◌}
use Rattle.std.specs.List.{All}
use Rattle.viper_word.specs.Words.{IsWord}
use Rattle.viper_word.specs.declared.profile.Profile.{Profile}
use Rattle.viper_word.specs.Machine.{State, wants}
use Rattle.viper_next.specs.Effects.{effect_of}
use Rattle.viper_next.specs.declared.effect.Effect.{Effect}
use Rattle.viper_next.specs.declared.effect.Effect.TheVariants.{Quiet, Wrote, Out, Stopped as StoppedBy}
use Rattle.memory_plan.specs.Plans.{PlanLines, IsStart}
use Rattle.memory_plan.specs.Runs.{IsRun}
use Rattle.memory_plan.specs.WellFormed.{IsWellFormed}
use Rattle.peripheral_run.specs.Log.{Output}
use Rattle.peripheral_run.specs.Scripts.{Scripted, IsScript}
use Rattle.peripheral_run.specs.Opening.{opening}
use Rattle.peripheral_run.specs.Runs.{Outcome, run_of}
use Rattle.peripheral_run.specs.declared.running.RunEnd.{RunEnd}
use Rattle.peripheral_run.specs.declared.running.RunEnd.TheVariants.{Ran, Stopped, ScriptEnded, OutOfRange}

-- how many steps were performed: all; those up to the one that stopped; those before the one that
-- was given no answer
abbrev pub steps_performed : ℕ → RunEnd → ℕ
steps_performed steps Ran = steps
steps_performed steps (Stopped k cause) = k + 1
steps_performed steps (ScriptEnded k at) = k
steps_performed steps (OutOfRange k at w) = k

-- did the run stop the machine?
abbrev pub has_stopped : RunEnd → Bool
has_stopped Ran = false
has_stopped (Stopped k cause) = true
has_stopped (ScriptEnded k at) = false
has_stopped (OutOfRange k at w) = false

-- of the answers that states were given, those of the states that read a peripheral
abbrev pub answers_read : List State → List ℕ → List ℕ
answers_read [] answers = []
answers_read (s ∷ ss) [] = []
answers_read (s ∷ ss) (w ∷ ws) =
    if is_some (wants s) then w ∷ answers_read ss ws else answers_read ss ws

-- what a step put out, in front of what those behind it put out
abbrev pub out_before : ℕ → Effect → List Output → List Output
out_before k (Out at w) outputs = (k, at, w) ∷ outputs
out_before k (Wrote at w) outputs = outputs
out_before k Quiet outputs = outputs
out_before k (StoppedBy cause) outputs = outputs

-- what the steps from these states on put out, with these answers; the first step has number k
abbrev pub outputs_from : Profile → ℕ → List State → List ℕ → List Output
outputs_from profile k [] answers = []
outputs_from profile k (s ∷ ss) [] = []
outputs_from profile k (s ∷ ss) (w ∷ ws) =
    out_before k (effect_of profile s w) (outputs_from profile (k + 1) ss ws)

-- The outcome is that of a run of the plan: its states lead from the start to the state that is
-- left, one for each step that was performed; the steps that read took the script's answers in
-- their order; the outputs are those of the steps; and the machine has stopped exactly where the
-- ending says so.
pub record IsRunOver (plan : PlanLines) (steps : ℕ) (script : List ℕ) (start : State) (o : Outcome)
    : Type 0 where
  pub states : List State
  pub answers : List ℕ
  pub run : IsRun plan states answers
  pub performed : length answers ≡ steps_performed steps o.ending
  pub first : slice_get states 0 ≡ Some start
  pub last : slice_get states (length answers) ≡ Some o.last
  pub left : List ℕ
  pub taken : script ≡ answers_read states answers ++ left
  pub outputs : o.outputs ≡ outputs_from plan.profile 0 states answers
  pub stop : o.last.stop ≡ has_stopped o.ending

-- from a start of the plan, the run over answers is one of the plan's
abbrev pub RunsFromStart : PlanLines → ℕ → List ℕ → State → Type 0
RunsFromStart plan steps script start =
    IsWellFormed plan → All IsWord script → IsStart plan start
    → IsRunOver plan steps script start (run_of plan steps script start)

-- and so is the run of a script, from the state in which it begins
abbrev pub RunsOfScript : PlanLines → List ℕ → Scripted → ℕ → Type 0
RunsOfScript plan text script steps =
    IsWellFormed plan → IsScript plan text script
    → IsRunOver plan steps script.answers (opening plan script.state)
    (run_of plan steps script.answers (opening plan script.state))
