-- A step that reads no peripheral doesn't look at the answer.
use Rattle.std.proofs.Common.{◌≡◌, ℕ, Bool, true, false, not, ◌&&◌, ◌-◌, ◌^◌, ◌==◌, cond, Some, None, refl, ap, inl, inr, arith}
use Rattle.std.proofs.lemmas.Bool.Decides.{nat_tests}
use Rattle.std.proofs.lemmas.Bool.{cases_Bool}
use Rattle.viper_word.specs.declared.profile.Profile.{Profile}
use Rattle.viper_word.specs.Fields.{Fields, is_illegal, is_input, has_address}
use Rattle.viper_word.specs.Machine.{State, current, address, is_lawful, is_skipped, performed, executed, step, is_performed, wants, ended, next}
use Rattle.viper_next.specs.declared.effect.Effect.TheVariants.{Quiet}
use Rattle.viper_next.specs.Effects.{effect_of_step, effect_of}
use Rattle.viper_next.specs.Answers.{IgnoresAnswer}

none_guard : {A : Type 0} (b : Bool) (x : A) → cond b (Some x) None ≡ None → b ≡ false
none_guard true x e = cc
none_guard false x e = refl

input_has : (i : Fields) → is_input i ≡ true → has_address i ≡ true
input_has i input = grind (arith, nat_tests)

-- what keeps a running machine from reading
data Blocked (last illegal skipped lawful : Bool) : Type 0 where
  at_end : last ≡ true → Blocked last illegal skipped lawful
  bad_word : illegal ≡ true → Blocked last illegal skipped lawful
  no_jump : skipped ≡ true → Blocked last illegal skipped lawful
  bad_address : lawful ≡ false → Blocked last illegal skipped lawful

blocked : (last illegal skipped lawful : Bool)
    → ((true && (not last && (not illegal && not skipped))) && (true && (true && lawful))) ≡ false → Blocked last illegal skipped lawful
blocked true illegal skipped lawful e = at_end refl
blocked false true skipped lawful e = bad_word refl
blocked false false true lawful e = no_jump refl
blocked false false false lawful e = bad_address e

-- where the instruction is no input
other_alike : (profile : Profile) (s : State) (one other : ℕ) → is_input (current s) ≡ false → step profile s one ≡ step profile s other
unfolding step executed performed
other_alike profile s one other e = rw e refl

-- where it is one, but isn't reached
input_alike : (profile : Profile) (s : State) (one other : ℕ) → has_address (current s) ≡ true
    → Blocked (s.p == 2 ^ 20 - 1) (is_illegal (current s)) (is_skipped (current s) s.b) (is_lawful (address (current s) s)) → step profile s one ≡ step profile s other
unfolding step executed
input_alike profile s one other has (at_end e) = rw e refl
input_alike profile s one other has (bad_word e) = rw e refl
input_alike profile s one other has (no_jump e) = rw e refl
input_alike profile s one other has (bad_address e) = rw (has, e) refl

input_blocked : (s : State) → s.stop ≡ false → is_input (current s) ≡ true → has_address (current s) ≡ true → wants s ≡ None
    → Blocked (s.p == 2 ^ 20 - 1) (is_illegal (current s)) (is_skipped (current s) s.b) (is_lawful (address (current s) s))
unfolding wants is_performed
input_blocked s runs input has e =
    let test = none_guard _ (address (current s) s) e in
    let known = rw (runs, has, input) at test in
    blocked _ _ _ _ known

step_alike : (profile : Profile) (s : State) (one other : ℕ) → s.stop ≡ false → wants s ≡ None → step profile s one ≡ step profile s other
step_alike profile s one other runs e =
    elim (cases_Bool (is_input (current s))) [
      | inl input ↦
          let has : has_address (current s) ≡ true = input_has (current s) input in
          input_alike profile s one other has (input_blocked s runs input has e)
      | inr no_input ↦ other_alike profile s one other no_input
    ]

-- a choice between one thing and two that agree where they are chosen
unless_alike : {A : Type 0} (b : Bool) (x y z : A) → (b ≡ false → y ≡ z) → cond b x y ≡ cond b x z
unless_alike true x y z e = refl
unless_alike false x y z e = e refl

next_alike : (profile : Profile) (s : State) (one other : ℕ) → wants s ≡ None → next profile s one ≡ next profile s other
unfolding next
next_alike profile s one other e =
    unless_alike s.stop s (ended s (step profile s one)) (ended s (step profile s other)) (λ runs. ap (ended s) (step_alike profile s one other runs e))

effect_alike : (profile : Profile) (s : State) (one other : ℕ) → wants s ≡ None → effect_of profile s one ≡ effect_of profile s other
unfolding effect_of
effect_alike profile s one other e =
    unless_alike s.stop Quiet (effect_of_step s (step profile s one)) (effect_of_step s (step profile s other)) (λ runs. ap (effect_of_step s) (step_alike profile s one other runs e))

pub answer_ignored : (profile : Profile) (s : State) → wants s ≡ None → IgnoresAnswer profile s
answer_ignored profile s e = record { state = λ one other. next_alike profile s one other e; effect = λ one other. effect_alike profile s one other e }
