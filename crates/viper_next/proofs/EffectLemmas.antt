-- What a step that goes on passes on.
use Rattle.std.proofs.Common.{◌≡◌, ℕ, Bool, true, false, not, ◌&&◌, ◌-◌, ◌^◌, ◌==◌, cond, Some, None, Ok, refl, inl, inr, arith}
use Rattle.std.proofs.lemmas.Bool.Decides.{nat_tests}
use Rattle.viper_word.proofs.Booleans.{chosen}
use Rattle.std.proofs.lemmas.Bool.{cases_Bool}
use Rattle.viper_word.specs.declared.profile.Profile.{Profile}
use Rattle.viper_word.specs.Fields.{Fields, is_illegal, is_store, is_output, has_address}
use Rattle.viper_word.specs.Machine.{State, current, address, is_lawful, is_skipped, executed, step, is_performed, address_if, store_address, output_address}
use Rattle.viper_next.specs.Effects.{effect_of_step, effect_at}

-- what a step that goes on has passed: the last address, illegal words, and unlawful addresses
record Went (i : Fields) (s : State) : Type 0 where
  inside : (s.p == 2 ^ 20 - 1) ≡ false
  legal : is_illegal i ≡ false
  lawful : is_skipped i s.b ≡ false → (has_address i && not (is_lawful (address i s))) ≡ false

executed_went : (profile : Profile) (i : Fields) (s t : State) (answer : ℕ) → (s.p == 2 ^ 20 - 1) ≡ false → executed profile i s answer ≡ Ok t → Went i s
unfolding executed
executed_went profile i s t answer inside e =
    elim (chosen (is_illegal i) _ _ _ e) [
      | inl illegal ↦ let stops = illegal.1 in cc
      | inr legal ↦
          elim (chosen (is_skipped i s.b) _ _ _ legal.1) [
            | inl skipped ↦ let skips = skipped.0 in record { inside = inside; legal = legal.0; lawful = λ h. cc }
            | inr here ↦
                elim (chosen (has_address i && not (is_lawful (address i s))) _ _ _ here.1) [
                  | inl unlawful ↦ let stops = unlawful.1 in cc
                  | inr lawful ↦ record { inside = inside; legal = legal.0; lawful = λ _. lawful.0 }
                ]
          ]
    ]

went : (profile : Profile) (s t : State) (answer : ℕ) → step profile s answer ≡ Ok t → Went (current s) s
unfolding step
went profile s t answer e =
    elim (chosen (s.p == 2 ^ 20 - 1) _ _ _ e) [
      | inl last ↦ let stops = last.1 in cc
      | inr more ↦ executed_went profile (current s) s t answer more.0 more.1
    ]

-- a legal output or store has an address, and no jump is one
store_has : (i : Fields) (b : Bool) → is_illegal i ≡ false → is_store i ≡ true → (has_address i ≡ true) × (is_skipped i b ≡ false)
unfolding is_illegal
store_has i b legal store = grind (arith, nat_tests)

output_has : (i : Fields) (b : Bool) → is_illegal i ≡ false → is_output i ≡ true → (has_address i ≡ true) × (is_skipped i b ≡ false) × (is_store i ≡ false)
unfolding is_illegal
output_has i b legal output = grind (arith, nat_tests)

-- no address without such a word
none_such : {A : Type 0} (performs has lawful : Bool) (x : A) → cond (performs && (has && (false && lawful))) (Some x) None ≡ None
none_such true true lawful x = refl
none_such true false lawful x = refl
none_such false has lawful x = refl

no_address : (such : Fields → Bool) (s : State) → such (current s) ≡ false → address_if such s ≡ None
no_address such s e = rw e (none_such (is_performed s) (has_address (current s)) (is_lawful (address (current s) s)) (address (current s) s))

-- its address where the word is such a one
lawful_from : (has lawful : Bool) → has ≡ true → (has && not lawful) ≡ false → lawful ≡ true
lawful_from has true a b = refl
lawful_from true false a b = cc
lawful_from false false a b = cc

the_address : (such : Fields → Bool) (s : State) → s.stop ≡ false → Went (current s) s → is_skipped (current s) s.b ≡ false → has_address (current s) ≡ true → such (current s) ≡ true
    → address_if such s ≡ Some (address (current s) s)
unfolding is_performed
the_address such s runs went here has e =
    let lawful : is_lawful (address (current s) s) ≡ true = lawful_from (has_address (current s)) (is_lawful (address (current s) s)) has (went.lawful here) in
    rw (runs, went.inside, went.legal, here, has, e, lawful) refl

-- a step that goes on passes on what its instruction does
pub effect_known : (profile : Profile) (s t : State) (answer : ℕ) → s.stop ≡ false → step profile s answer ≡ Ok t → effect_at (current s) s ≡ effect_of_step s (Ok t)
unfolding effect_of_step effect_at store_address output_address
effect_known profile s t answer runs e =
    let passed = went profile s t answer e in
    elim (cases_Bool (is_store (current s))) [
      | inl store ↦
          let facts = store_has (current s) s.b passed.legal store in
          rw (the_address is_store s runs passed facts.1 facts.0 store, store) refl
      | inr other ↦
          elim (cases_Bool (is_output (current s))) [
            | inl output ↦
                let facts = output_has (current s) s.b passed.legal output in
                rw (no_address is_store s other, the_address is_output s runs passed facts.1 facts.0 output, other, output) refl
            | inr quiet ↦ rw (no_address is_store s other, no_address is_output s quiet, other, quiet) refl
          ]
    ]
