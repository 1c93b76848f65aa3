-- The run over a script is one of the plan's.
use Rattle.std.proofs.Common.{◌≡◌, ◌∙◌, ℕ, zero, suc, ◌+◌, ◌<◌, Bool, true, false, cond, eqb, List, [], ◌∷◌, ◌++◌, length, slice_get, slice_index, Option, Some, None, Result, Ok, Err, refl, sym, ap, subst, arith}
use Rattle.std.specs.Prelude.{is_some, slice_set, ◌-◌, ◌^◌, ◌&&◌, not}
use Rattle.std.specs.List.{AllByRecursion}
use Rattle.std.proofs.lemmas.List.Elements.{recursion_from_All}
use Rattle.std.proofs.lemmas.Option.{none-some, same_Some, slice_get_within}
use Rattle.viper_word.specs.declared.cause.Cause.{Cause}
use Rattle.viper_word.specs.declared.cause.Cause.TheVariants.{End, Illegal, Address}
use Rattle.viper_word.specs.declared.profile.Profile.{Profile}
use Rattle.viper_word.specs.Words.{IsWord, signed_value}
use Rattle.viper_word.specs.Fields.{Fields, is_illegal, has_address}
use Rattle.viper_word.specs.Machine.{State, Computed, register, address, operand, compared, computed, is_skipped, is_lawful, current, given, store_address, output_address, written, finished, performed, executed, step, ended, next, wants}
use Rattle.viper_next.specs.Effects.{passed_on, effect_of_step, effect_of}
use Rattle.viper_next.specs.declared.effect.Effect.{Effect}
use Rattle.viper_next.specs.declared.effect.Effect.TheVariants as effects
use Rattle.memory_plan.specs.Ranges.{Span, Covers, Allows}
use Rattle.memory_plan.specs.Plans.{PlanLines, range_at, IsStart}
use Rattle.memory_plan.specs.Runs.{IsFair}
use Rattle.memory_plan.specs.WellFormed.{AreSpans}
use Rattle.memory_plan.proofs.RangeIn.{test_is_in}
use Rattle.memory_plan.proofs.RunsExist.{range_of}
use Rattle.peripheral_run.specs.Log.{Output}
use Rattle.peripheral_run.specs.Runs.{Outcome, may_answer, answer_for, given_answer, with_step, run_from, run_of}
use Rattle.peripheral_run.specs.ScriptRuns.{steps_performed, has_stopped, answers_read, out_before, outputs_from, IsRunOver, RunsFromStart}
use Rattle.peripheral_run.specs.declared.running.RunEnd.{RunEnd}
use Rattle.peripheral_run.specs.declared.running.RunEnd.TheVariants.{Ran, Stopped, ScriptEnded, OutOfRange}

-- ---- a step that doesn't stop leaves stop

-- a state that a step comes to has stop as before
record KeepsStop (s : State) (r : Result State Cause) : Type 0 where
  keeps : (t : State) → r ≡ Ok t → t.stop ≡ s.stop

ok_keeps : (s t : State) → t.stop ≡ s.stop → KeepsStop s (Ok t)
ok_keeps s t e = record { keeps = λ u is. let same : t ≡ u = cc in ap (λ (v : State). v.stop) (sym same) ∙ e }

err_keeps : (s : State) (cause : Cause) → KeepsStop s (Err cause)
err_keeps s cause = record { keeps = λ u is. absurd cc }

either_keeps : (s : State) (b : Bool) (x y : Result State Cause) → KeepsStop s x → KeepsStop s y → KeepsStop s (cond b x y)
either_keeps s true x y h k = h
either_keeps s false x y h k = k

written_keeps : (i : Fields) (s : State) (e : Computed) → (written i s e).stop ≡ s.stop
unfolding written
written_keeps i s e = by (eqb i.d 0) (eqb i.d 1) (eqb i.d 2) _ _ _ _ refl refl refl refl
  where
    by : (b c d : Bool) (t u v w : State) → t.stop ≡ s.stop → u.stop ≡ s.stop → v.stop ≡ s.stop → w.stop ≡ s.stop → (cond b t (cond c u (cond d v w))).stop ≡ s.stop
    by true c d t u v w e f g h = e
    by false true d t u v w e f g h = f
    by false false true t u v w e f g h = g
    by false false false t u v w e f g h = h

finished_keeps : (i : Fields) (s : State) (o : Option Computed) → KeepsStop s (finished i s o)
unfolding finished
finished_keeps i s None = err_keeps s _
finished_keeps i s (Some e) = either_keeps s _ _ _ (err_keeps s _) (ok_keeps s _ (written_keeps i s e))

performed_keeps : (profile : Profile) (i : Fields) (s : State) (answer : ℕ) → KeepsStop s (performed profile i s answer)
unfolding performed
performed_keeps profile i s answer =
    either_keeps s i.c _ _ (ok_keeps s (record s { b = compared i (register s i.r) (operand i s answer) s.b; p = s.p + 1 }) refl)
    (either_keeps s (eqb i.d 6) _ _ (ok_keeps s (record s { p = s.p + 1 }) refl)
    (either_keeps s (eqb i.d 7) _ _ (ok_keeps s (record s { memory = slice_set s.memory (address i s) (register s i.r); p = s.p + 1 }) refl)
    (finished_keeps i s (computed profile i (register s i.r) (operand i s answer) s.b))))

executed_keeps : (profile : Profile) (i : Fields) (s : State) (answer : ℕ) → KeepsStop s (executed profile i s answer)
unfolding executed
executed_keeps profile i s answer =
    either_keeps s (is_illegal i) _ _ (err_keeps s Illegal)
    (either_keeps s (is_skipped i s.b) _ _ (ok_keeps s (record s { p = s.p + 1 }) refl)
    (either_keeps s (has_address i && not (is_lawful (address i s))) _ _ (err_keeps s Address) (performed_keeps profile i s answer)))

step_keeps : (profile : Profile) (s : State) (answer : ℕ) → KeepsStop s (step profile s answer)
unfolding step
step_keeps profile s answer = either_keeps s (eqb s.p (2 ^ 20 - 1)) _ _ (err_keeps s End) (executed_keeps profile (current s) s answer)

-- does the effect say that the step stopped the machine?
abbrev tells_stop : Effect → Bool
tells_stop effects.Quiet = false
tells_stop (effects.Wrote at w) = false
tells_stop (effects.Out at w) = false
tells_stop (effects.Stopped cause) = true

passes : (a b : Option ℕ) (w : ℕ) → tells_stop (passed_on a b w) ≡ false
passes (Some at) b w = refl
passes None (Some at) w = refl
passes None None w = refl

comes_to : (s : State) (r : Result State Cause) → s.stop ≡ false → KeepsStop s r → tells_stop (effect_of_step s r) ≡ (ended s r).stop
unfolding effect_of_step
comes_to s (Ok t) runs h = passes (store_address s) (output_address s) (given s) ∙ sym (h.keeps t refl ∙ runs)
comes_to s (Err cause) runs h = refl

pub stop_told : (profile : Profile) (s : State) (w : ℕ) → s.stop ≡ false → tells_stop (effect_of profile s w) ≡ (next profile s w).stop
unfolding effect_of next
stop_told profile s w runs =
    ap (λ (b : Bool). tells_stop (cond b effects.Quiet (effect_of_step s (step profile s w)))) runs
    ∙ comes_to s (step profile s w) runs (step_keeps profile s w)
    ∙ sym (ap (λ (b : Bool). (cond b s (ended s (step profile s w))).stop) runs)

-- ---- fair answers

allowed : (spans : List Span) (at v : ℕ) → AreSpans spans → may_answer (range_at spans at) v ≡ true → Covers spans at → Allows spans at (signed_value v)
allowed spans at v are may covers =
    let r = range_of spans at covers.span are covers.listed covers.low covers.high in
    record {
      span = covers.span;
      listed = covers.listed;
      low = covers.low;
      high = covers.high;
      value = test_is_in covers.span.2 (signed_value v) r.1 (ap (λ o. may_answer o v) (sym r.0) ∙ may);
    }

fair_none : (plan : PlanLines) (s : State) → wants s ≡ None → IsFair plan s 0
fair_none plan s e = record { word = omega arith; declared = λ at wanted covers. absurd (none-some at (sym e ∙ wanted)) }

fair_some : (plan : PlanLines) (s : State) (at v : ℕ) → AreSpans plan.inputs → wants s ≡ Some at → IsWord v → may_answer (range_at plan.inputs at) v ≡ true → IsFair plan s v
fair_some plan s at v are e word may = record {
  word = word;
  declared = λ place wanted covers.
      let same : at ≡ place = same_Some at place (sym e ∙ wanted) in
      allowed plan.inputs place v are (subst (λ (n : ℕ). may_answer (range_at plan.inputs n) v ≡ true) same may) covers;
}

-- ---- the states of a run

-- states that a run goes through from its step k on, to this ending
record RunsTo (plan : PlanLines) (steps k : ℕ) (script : List ℕ) (s : State) (ending : RunEnd) (last : State) (outputs : List Output) : Type 0 where
  states : List State
  answers : List ℕ
  count : length states ≡ length answers + 1
  first : slice_get states 0 ≡ Some s
  last_is : slice_get states (length answers) ≡ Some last
  leads : (j : ℕ) (t u : State) → slice_get states j ≡ Some t → slice_get states (j + 1) ≡ Some u → u ≡ next plan.profile t (slice_index answers j)
  fair : (j : ℕ) (t : State) → j < length answers → slice_get states j ≡ Some t → IsFair plan t (slice_index answers j)
  performed : k + length answers ≡ steps_performed steps ending
  left : List ℕ
  taken : script ≡ answers_read states answers ++ left
  told : outputs ≡ outputs_from plan.profile k states answers
  stop : last.stop ≡ has_stopped ending

-- no step more
ends_here : (plan : PlanLines) (steps k : ℕ) (script : List ℕ) (s : State) (ending : RunEnd) → k ≡ steps_performed steps ending → s.stop ≡ has_stopped ending → RunsTo plan steps k script s ending s []
ends_here plan steps k script s ending performed stop = record {
  states = s ∷ [];
  answers = [];
  count = refl;
  first = refl;
  last_is = refl;
  leads = λ j t u here later. let within = slice_get_within (s ∷ []) (j + 1) u later in absurd (omega (arith, within));
  fair = λ j t within here. absurd (omega (arith, within));
  performed = omega (arith, performed);
  left = script;
  taken = refl;
  told = refl;
  stop = stop;
}

leads_more : (plan : PlanLines) (s : State) (w : ℕ) (states : List State) (answers : List ℕ) → slice_get states 0 ≡ Some (next plan.profile s w)
    → ((j : ℕ) (t u : State) → slice_get states j ≡ Some t → slice_get states (j + 1) ≡ Some u → u ≡ next plan.profile t (slice_index answers j))
    → (j : ℕ) (t u : State) → slice_get (s ∷ states) j ≡ Some t → slice_get (s ∷ states) (j + 1) ≡ Some u → u ≡ next plan.profile t (slice_index (w ∷ answers) j)
leads_more plan s w states answers first rest zero t u here later =
    same_Some u (next plan.profile s w) (sym later ∙ first) ∙ ap (λ (v : State). next plan.profile v w) (same_Some s t here)
leads_more plan s w states answers first rest (suc j) t u here later =
    let more : suc j + 1 ≡ suc (j + 1) = omega arith in
    rest j t u here (subst (λ (n : ℕ). slice_get (s ∷ states) n ≡ Some u) more later)

fair_more : (plan : PlanLines) (s : State) (w : ℕ) (states : List State) (answers : List ℕ) → IsFair plan s w
    → ((j : ℕ) (t : State) → j < length answers → slice_get states j ≡ Some t → IsFair plan t (slice_index answers j))
    → (j : ℕ) (t : State) → j < length (w ∷ answers) → slice_get (s ∷ states) j ≡ Some t → IsFair plan t (slice_index (w ∷ answers) j)
fair_more plan s w states answers fair rest zero t within here = subst (λ (v : State). IsFair plan v w) (same_Some s t here) fair
fair_more plan s w states answers fair rest (suc j) t within here = rest j t (omega (arith, within)) here

-- the script's answers before a step and behind it
abbrev Takes : Option ℕ → ℕ → List ℕ → List ℕ → Type 0
Takes None w script left = script ≡ left
Takes (Some at) w script left = script ≡ w ∷ left

takes_more : (o : Option ℕ) (w : ℕ) (script left behind read : List ℕ) → Takes o w script left → left ≡ read ++ behind → script ≡ cond (is_some o) (w ∷ read) read ++ behind
takes_more None w script left behind read h e = h ∙ e
takes_more (Some at) w script left behind read h e = h ∙ ap (λ (ws : List ℕ). w ∷ ws) e

-- one step more in front
one_more : (plan : PlanLines) (steps k : ℕ) (script left : List ℕ) (s : State) (w : ℕ) (ending : RunEnd) (last : State) (outputs : List Output) → IsFair plan s w → Takes (wants s) w script left
    → RunsTo plan steps (k + 1) left (next plan.profile s w) ending last outputs → RunsTo plan steps k script s ending last (out_before k (effect_of plan.profile s w) outputs)
one_more plan steps k script left s w ending last outputs fair takes h = record {
  states = s ∷ h.states;
  answers = w ∷ h.answers;
  count = let count = h.count in omega (arith, count);
  first = refl;
  last_is = h.last_is;
  leads = leads_more plan s w h.states h.answers h.first h.leads;
  fair = fair_more plan s w h.states h.answers fair h.fair;
  performed = omega (arith, h.performed);
  left = h.left;
  taken = takes_more (wants s) w script left h.left (answers_read h.states h.answers) takes h.taken;
  told = ap (out_before k (effect_of plan.profile s w)) h.told;
  stop = h.stop;
}

-- ---- what the definition's run goes through

-- the rest of a run goes through states
abbrev Rest : PlanLines → ℕ → ℕ → ℕ → Type 0
Rest plan steps n k =
    (left : List ℕ) (t : State) → AllByRecursion IsWord left → t.stop ≡ false → RunsTo plan steps k left t (run_from plan n k left t).ending (run_from plan n k left t).last (run_from plan n k left t).outputs

stepped : (plan : PlanLines) (steps n k : ℕ) (script left : List ℕ) (s : State) (w : ℕ) → Rest plan steps n (k + 1) → s.stop ≡ false → AllByRecursion IsWord left → IsFair plan s w → Takes (wants s) w script left
    → (e : Effect) → effect_of plan.profile s w ≡ e → (o : Outcome) → o ≡ with_step k e (next plan.profile s w) (run_from plan n (k + 1) left (next plan.profile s w)) → RunsTo plan steps k script s o.ending o.last o.outputs
stepped plan steps n k script left s w rest runs words fair takes e told o is = subst (λ (out : Outcome). RunsTo plan steps k script s out.ending out.last out.outputs) (sym is) (by e told)
  where
    t : State
    t = next plan.profile s w

    stop : (f : Effect) → effect_of plan.profile s w ≡ f → tells_stop f ≡ t.stop
    stop f g = ap tells_stop (sym g) ∙ stop_told plan.profile s w runs

    rest_of : Outcome
    rest_of = run_from plan n (k + 1) left t

    -- with what this effect puts out in front
    goes_on : (f : Effect) → effect_of plan.profile s w ≡ f → tells_stop f ≡ false → RunsTo plan steps k script s rest_of.ending rest_of.last (out_before k f rest_of.outputs)
    goes_on f g quiet =
        subst (λ (h : Effect). RunsTo plan steps k script s rest_of.ending rest_of.last (out_before k h rest_of.outputs)) g
        (one_more plan steps k script left s w rest_of.ending rest_of.last rest_of.outputs fair takes (rest left t words (sym (stop f g) ∙ quiet)))

    by : (f : Effect) → effect_of plan.profile s w ≡ f → RunsTo plan steps k script s (with_step k f t rest_of).ending (with_step k f t rest_of).last (with_step k f t rest_of).outputs
    by effects.Quiet g = goes_on effects.Quiet g refl
    by (effects.Wrote at v) g = goes_on (effects.Wrote at v) g refl
    by (effects.Out at v) g = goes_on (effects.Out at v) g refl
    by (effects.Stopped cause) g =
        subst (λ (h : Effect). RunsTo plan steps k script s (Stopped k cause) t (out_before k h [])) g
        (one_more plan steps k script left s w (Stopped k cause) t [] fair takes (ends_here plan steps (k + 1) left t (Stopped k cause) refl (sym (stop (effects.Stopped cause) g))))

-- the outcome of a step that is asked with this answer, or none
abbrev after_answer : PlanLines → ℕ → ℕ → State → Result (ℕ × List ℕ) RunEnd → Outcome
after_answer plan n k s r = given_answer r s (λ w left. with_step k (effect_of plan.profile s w) (next plan.profile s w) (run_from plan n (k + 1) left (next plan.profile s w)))

chosen : (plan : PlanLines) (steps n k at v : ℕ) (vs : List ℕ) (s : State) → AreSpans plan.inputs → Rest plan steps n (k + 1) → AllByRecursion IsWord (v ∷ vs) → s.stop ≡ false → wants s ≡ Some at
    → (b : Bool) → may_answer (range_at plan.inputs at) v ≡ b → (o : Outcome) → o ≡ after_answer plan n k s (cond b (Ok (v, vs)) (Err (OutOfRange k at (record { 0 = v })))) → RunsTo plan steps k (v ∷ vs) s o.ending o.last o.outputs
chosen plan steps n k at v vs s are rest words runs wanted true may o is =
    stepped plan steps n k (v ∷ vs) vs s v rest runs words.1 (fair_some plan s at v are wanted words.0 may) (subst (λ (w : Option ℕ). Takes w v (v ∷ vs) vs) (sym wanted) refl) (effect_of plan.profile s v) refl o is
chosen plan steps n k at v vs s are rest words runs wanted false may o is =
    subst (λ (out : Outcome). RunsTo plan steps k (v ∷ vs) s out.ending out.last out.outputs) (sym is) (ends_here plan steps k (v ∷ vs) s (OutOfRange k at (record { 0 = v })) refl runs)

answered : (plan : PlanLines) (steps n k : ℕ) (script : List ℕ) (s : State) → AreSpans plan.inputs → Rest plan steps n (k + 1) → AllByRecursion IsWord script → s.stop ≡ false → (wanted : Option ℕ) → wants s ≡ wanted
    → RunsTo plan steps k script s (after_answer plan n k s (answer_for plan k wanted script)).ending (after_answer plan n k s (answer_for plan k wanted script)).last (after_answer plan n k s (answer_for plan k wanted script)).outputs
answered plan steps n k script s are rest words runs None e =
    stepped plan steps n k script script s 0 rest runs words (fair_none plan s e) (subst (λ (w : Option ℕ). Takes w 0 script script) (sym e) refl) (effect_of plan.profile s 0) refl (after_answer plan n k s (Ok (0, script))) refl
answered plan steps n k [] s are rest words runs (Some at) e = ends_here plan steps k [] s (ScriptEnded k at) refl runs
answered plan steps n k (v ∷ vs) s are rest words runs (Some at) e =
    chosen plan steps n k at v vs s are rest words runs e (may_answer (range_at plan.inputs at) v) refl (after_answer plan n k s (answer_for plan k (Some at) (v ∷ vs))) refl

run_goes : (plan : PlanLines) (steps n k : ℕ) (script : List ℕ) (s : State) → AreSpans plan.inputs → k + n ≡ steps → AllByRecursion IsWord script → s.stop ≡ false
    → RunsTo plan steps k script s (run_from plan n k script s).ending (run_from plan n k script s).last (run_from plan n k script s).outputs
run_goes plan steps zero k script s are all words runs = ends_here plan steps k script s Ran (omega (arith, all)) runs
run_goes plan steps (suc n) k script s are all words runs =
    answered plan steps n k script s are (λ left t others running. run_goes plan steps n (k + 1) left t are (omega (arith, all)) others running) words runs (wants s) refl

pub goes_over : (plan : PlanLines) (steps : ℕ) (script : List ℕ) (start : State) → AreSpans plan.inputs → AllByRecursion IsWord script → IsStart plan start → IsRunOver plan steps script start (run_of plan steps script start)
goes_over plan steps script start are words starts =
    let h = run_goes plan steps steps 0 script start are (omega arith) words starts.running in
    record {
      states = h.states;
      answers = h.answers;
      run = record {
        count = h.count;
        start = λ s here. subst (IsStart plan) (same_Some start s (sym h.first ∙ here)) starts;
        steps = h.leads;
        fair = h.fair;
      };
      performed = omega (arith, h.performed);
      first = h.first;
      last = h.last_is;
      left = h.left;
      taken = h.taken;
      outputs = h.told;
      stop = h.stop;
    }

pub runs_from_start : (plan : PlanLines) (steps : ℕ) (script : List ℕ) (start : State) → RunsFromStart plan steps script start
runs_from_start plan steps script start well words starts = goes_over plan steps script start well.inputs (recursion_from_All IsWord script words) starts
