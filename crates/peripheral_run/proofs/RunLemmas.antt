-- Runs step by step.
use Rattle.std.proofs.Common.{◌≡◌, ◌∙◌, ℕ, suc, ◌+◌, ◌-◌, ◌<◌, ◌≤◌, List, [], ◌∷◌, ◌++◌, length, Result, Ok, Err, refl, sym, ap, append_assoc, append-nil, arith}
use Rattle.viper_word.specs.declared.word.Word.{Word}
use Rattle.std.proofs.lemmas.List.{length_push}
use Rattle.viper_word.specs.declared.cause.Cause.{Cause}
use Rattle.viper_word.specs.Machine.{State, next, wants}
use Rattle.viper_next.specs.Effects.{effect_of}
use Rattle.viper_next.specs.declared.effect.Effect.{Effect}
use Rattle.viper_next.specs.declared.effect.Effect.TheVariants as effects
use Rattle.memory_plan.specs.Plans.{PlanLines}
use Rattle.peripheral_run.specs.Log.{Output}
use Rattle.peripheral_run.specs.Runs.{Outcome, ends, answer_for, given_answer, with_step, run_from, run_of}
use Rattle.peripheral_run.specs.declared.running.RunEnd.{RunEnd}
use Rattle.peripheral_run.specs.declared.running.RunEnd.TheVariants.{Ran, Stopped}

-- outputs that came before
abbrev pub behind : List Output → Outcome → Outcome
behind items o = record o { outputs = items ++ o.outputs }

-- The whole run is what was put out, and the rest of it.
pub record IsRunTo (plan : PlanLines) (steps : ℕ) (answers : List ℕ) (start : State) (k : ℕ) (left : List ℕ) (s : State) (items : List Output) : Type 0 where
  pub same : run_of plan steps answers start ≡ behind items (run_from plan (steps - k) k left s)
  pub few : length items ≤ k

none_behind : (o : Outcome) → o ≡ behind [] o
none_behind o = refl

pub begun : (plan : PlanLines) (steps : ℕ) (answers : List ℕ) (start : State) (items : List Output) → items ≡ [] → IsRunTo plan steps answers start 0 answers start items
begun plan steps answers start items none = record {
  same = none_behind (run_of plan steps answers start) ∙ ap (λ (all : List Output). behind all (run_of plan steps answers start)) (sym none) ∙ ap (λ (n : ℕ). behind items (run_from plan n 0 answers start)) all_left;
  few = rw none (omega arith);
}
  where
    all_left : steps ≡ steps - 0
    all_left = omega arith

-- a step that is given an answer
pub goes_on : (plan : PlanLines) (steps k : ℕ) (left rest : List ℕ) (s t : State) (w : ℕ) (effect : Effect) → k < steps → answer_for plan k (wants s) left ≡ Ok (w, rest)
    → effect ≡ effect_of plan.profile s w → t ≡ next plan.profile s w → run_from plan (steps - k) k left s ≡ with_step k effect t (run_from plan (steps - (k + 1)) (k + 1) rest t)
goes_on plan steps k left rest s t w effect within given told leads =
    let more : steps - k ≡ suc (steps - (k + 1)) = omega (arith, within) in
    ap (λ (n : ℕ). run_from plan n k left s) more
    ∙ ap (λ (r : Result (ℕ × List ℕ) RunEnd). given_answer r s (λ v others. with_step k (effect_of plan.profile s v) (next plan.profile s v) (run_from plan (steps - (k + 1)) (k + 1) others (next plan.profile s v)))) given
    ∙ rw (told, leads) refl

-- and one that is given none
pub stays : (plan : PlanLines) (steps k : ℕ) (left : List ℕ) (s : State) (ending : RunEnd) → k < steps → answer_for plan k (wants s) left ≡ Err ending → run_from plan (steps - k) k left s ≡ ends ending s
stays plan steps k left s ending within given =
    let more : steps - k ≡ suc (steps - (k + 1)) = omega (arith, within) in
    ap (λ (n : ℕ). run_from plan n k left s) more
    ∙ ap (λ (r : Result (ℕ × List ℕ) RunEnd). given_answer r s (λ v others. with_step k (effect_of plan.profile s v) (next plan.profile s v) (run_from plan (steps - (k + 1)) (k + 1) others (next plan.profile s v)))) given

-- what is put out so far is all of it
pub ended : (plan : PlanLines) (steps : ℕ) (answers : List ℕ) (start : State) (k : ℕ) (left : List ℕ) (s t : State) (items : List Output) (ending : RunEnd) → IsRunTo plan steps answers start k left s items
    → run_from plan (steps - k) k left s ≡ ends ending t → run_of plan steps answers start ≡ record { ending = ending; outputs = items; last = t }
ended plan steps answers start k left s t items ending h e = h.same ∙ ap (behind items) e ∙ ap (λ (all : List Output). record { ending = ending; outputs = all; last = t }) (append-nil items)

-- ---- in a loop

-- a step that puts nothing out
pub quiet : (plan : PlanLines) (steps k : ℕ) (answers left rest : List ℕ) (start s t : State) (items : List Output) (w : ℕ) (effect : Effect) → IsRunTo plan steps answers start k left s items → k < steps
    → answer_for plan k (wants s) left ≡ Ok (w, rest) → effect ≡ effect_of plan.profile s w → t ≡ next plan.profile s w → ((o : Outcome) → with_step k effect t o ≡ o) → IsRunTo plan steps answers start (k + 1) rest t items
quiet plan steps k answers left rest start s t items w effect h within given told leads nothing = record {
  same = h.same ∙ ap (behind items) (goes_on plan steps k left rest s t w effect within given told leads ∙ nothing (run_from plan (steps - (k + 1)) (k + 1) rest t));
  few = let few = h.few in omega (arith, few);
}

-- and one that does
pub put_out : (plan : PlanLines) (steps k : ℕ) (answers left rest : List ℕ) (start s t : State) (items : List Output) (w at : ℕ) (word : Word) → IsRunTo plan steps answers start k left s items → k < steps
    → answer_for plan k (wants s) left ≡ Ok (w, rest) → effects.Out at word ≡ effect_of plan.profile s w → t ≡ next plan.profile s w → IsRunTo plan steps answers start (k + 1) rest t (items ++ (k, at, word) ∷ [])
put_out plan steps k answers left rest start s t items w at word h within given told leads =
    let o = run_from plan (steps - (k + 1)) (k + 1) rest t in
    record {
      same = h.same ∙ ap (behind items) (goes_on plan steps k left rest s t w (effects.Out at word) within given told leads)
          ∙ ap (λ (all : List Output). record o { outputs = all }) (sym (append_assoc items ((k, at, word) ∷ []) o.outputs));
      few = let few = h.few in omega (arith, few, length_push items (k, at, word));
    }

-- a run that ends: the step is given no answer, or it stops the machine, or there is none
pub ended_none : (plan : PlanLines) (steps k : ℕ) (answers left : List ℕ) (start s : State) (items : List Output) (ending : RunEnd) → IsRunTo plan steps answers start k left s items → k < steps
    → answer_for plan k (wants s) left ≡ Err ending → run_of plan steps answers start ≡ record { ending = ending; outputs = items; last = s }
ended_none plan steps k answers left start s items ending h within given = ended plan steps answers start k left s s items ending h (stays plan steps k left s ending within given)

pub ended_stopped : (plan : PlanLines) (steps k : ℕ) (answers left rest : List ℕ) (start s t : State) (items : List Output) (w : ℕ) (cause : Cause) → IsRunTo plan steps answers start k left s items → k < steps
    → answer_for plan k (wants s) left ≡ Ok (w, rest) → effects.Stopped cause ≡ effect_of plan.profile s w → t ≡ next plan.profile s w → run_of plan steps answers start ≡ record { ending = Stopped k cause; outputs = items; last = t }
ended_stopped plan steps k answers left rest start s t items w cause h within given told leads =
    ended plan steps answers start k left s t items (Stopped k cause) h (goes_on plan steps k left rest s t w (effects.Stopped cause) within given told leads)

pub ended_ran : (plan : PlanLines) (steps k : ℕ) (answers left : List ℕ) (start s : State) (items : List Output) → IsRunTo plan steps answers start k left s items → steps ≤ k
    → run_of plan steps answers start ≡ record { ending = Ran; outputs = items; last = s }
ended_ran plan steps k answers left start s items h past =
    let none : steps - k ≡ 0 = omega (arith, past) in
    ended plan steps answers start k left s s items Ran h (ap (λ (n : ℕ). run_from plan n k left s) none)
