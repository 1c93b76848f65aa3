-- A run over a script of answers.
use Rattle.std.specs.Prelude.{ℕ, zero, suc, ◌+◌, Bool, true, List, [], ◌∷◌, Option, Some, None, Result, Ok, Err, if◌then◌else◌}
use Rattle.viper_word.specs.Words.{signed_value}
use Rattle.viper_word.specs.Machine.{State, next, wants}
use Rattle.viper_word.specs.Ranges.{NumberRange}
use Rattle.viper_next.specs.Effects.{effect_of}
use Rattle.viper_next.specs.declared.effect.Effect.{Effect}
use Rattle.viper_next.specs.declared.effect.Effect.TheVariants.{Quiet, Wrote, Out, Stopped as StoppedBy}
use Rattle.memory_plan.specs.Numbers.{range_has}
use Rattle.memory_plan.specs.Plans.{PlanLines, range_at}
use Rattle.peripheral_run.specs.Log.{Output}
use Rattle.peripheral_run.specs.declared.running.RunEnd.{RunEnd}
use Rattle.peripheral_run.specs.declared.running.RunEnd.TheVariants.{Ran, Stopped, ScriptEnded, OutOfRange}

-- how a run ends, what it put out, and the state in which it leaves the machine
pub record Outcome : Type 0 where
  pub ending : RunEnd
  pub outputs : List Output
  pub last : State

-- it ends here
abbrev pub ends : RunEnd → State → Outcome
ends ending s = record { ending = ending; outputs = []; last = s }

-- may the word be answered, where the peripheral address has this range, if it is declared?
abbrev pub may_answer : Option NumberRange → ℕ → Bool
may_answer None w = true
may_answer (Some r) w = range_has r (signed_value w)

-- the answer that step k is given and those that are left; or why it is given none. A step that
-- reads no peripheral uses none up.
abbrev pub answer_for : PlanLines → ℕ → Option ℕ → List ℕ → Result (ℕ × List ℕ) RunEnd
answer_for plan k None answers = Ok (0, answers)
answer_for plan k (Some at) [] = Err (ScriptEnded k at)
answer_for plan k (Some at) (w ∷ ws) =
    if may_answer (range_at plan.inputs at) w then Ok (w, ws)
    else Err (OutOfRange k at (record { 0 = w }))

-- step k told this and led to a state, from which the run goes on so
abbrev pub with_step : ℕ → Effect → State → Outcome → Outcome
with_step k (StoppedBy cause) t rest = ends (Stopped k cause) t
with_step k (Out at w) t rest = record rest { outputs = (k, at, w) ∷ rest.outputs }
with_step k (Wrote at w) t rest = rest
with_step k Quiet t rest = rest

-- a step needs its answer
abbrev pub given_answer : Result (ℕ × List ℕ) RunEnd → State → (ℕ → List ℕ → Outcome) → Outcome
given_answer (Err ending) s steps = ends ending s
given_answer (Ok (w, left)) s steps = steps w left

-- The run of so many steps, the first of which has number k, over these answers: each step is given
-- its answer and leads to the next state, until a step stops the machine, or is given none.
abbrev pub run_from : PlanLines → ℕ → ℕ → List ℕ → State → Outcome
run_from plan zero k answers s = ends Ran s
run_from plan (suc n) k answers s =
    given_answer (answer_for plan k (wants s) answers) s (λ w left.
    with_step k (effect_of plan.profile s w) (next plan.profile s w)
    (run_from plan n (k + 1) left (next plan.profile s w)))

-- the run of so many steps from a state
abbrev pub run_of : PlanLines → ℕ → List ℕ → State → Outcome
run_of plan steps answers s = run_from plan steps 0 answers s
