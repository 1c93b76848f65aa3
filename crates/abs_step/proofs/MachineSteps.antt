-- The machine's step is what its word's instruction says, on signed numbers.
use Rattle.std.specs.Prelude.{◌≡◌, ℕ, ◌+◌, ◌%◌, ◌^◌, ◌<◌, ◌==◌, ◌||◌, ◌&&◌, ℤ, pos, Bool, true, false, cond, not, nat_le, nat_eq, length, slice_index, slice_set, Option, Some, None, IsSomeAnd, Result, Ok, Err, IsOkAnd, if◌then◌else◌, ◌⊎◌}
use Rattle.std.proofs.Common.{refl, arith, sym, subst, ap, ◌∙◌, zero, suc, set, get_or, ⊎_elim, inl, inr}
use Rattle.std.proofs.Math.Path.{ap₂}
use Rattle.std.proofs.lemmas.List.{get_or-set_same, get_or-set_other, length-set}
use Rattle.std.proofs.lemmas.Bool.{or_parts, false≢true, cases_Bool, eqb-true, not-false, eq-eqb}
use Rattle.std.proofs.lemmas.Bool.Decides.{nat_tests}
use Rattle.std.proofs.lemmas.Option.{same_Some}
use Rattle.viper_word.specs.Words.{IsWord, signed_value}
use Rattle.viper_word.specs.Fields.{Fields, AreFields, is_illegal, is_function, is_jump, is_to_register, has_address, may_jump}
use Rattle.viper_word.specs.Machine.{State, IsState, register, address, is_lawful, operand, Computed, computed, kind_of, compared, is_skipped, written, finished, performed, executed}
use Rattle.viper_word.specs.Signed.{signed_compares, compares}
use Rattle.viper_word.specs.declared.cause.Cause.{Cause}
use Rattle.viper_word.specs.declared.cause.Cause.TheVariants.{Target}
use Rattle.viper_word.specs.declared.profile.Profile.{Profile}
use Rattle.viper_word.specs.Options.{bind}
use Rattle.viper_word.specs.declared.reg.Reg.{Reg}
use Rattle.viper_word.specs.declared.reg.Reg.TheVariants.{A, X, Y}
use Rattle.flag_relation.specs.Values.{set_reg}
use Rattle.viper_decode.specs.Instructions.{source_of, place_of, operand_of, function_of, work_of, result_to, instruction_of}
use Rattle.abs_step.specs.Results.{is_call}
use Rattle.abs_step.proofs.Performing.{Numbers, numbers_of, lawful, place_number, source_number, operand_number, result_number, function_bit, bit_after, at_next, put_at, perform}
use Rattle.viper_decode.specs.declared.instructions.Side.TheVariants.{Always, IfB, IfNotB}
use Rattle.viper_decode.specs.declared.instructions.Instruction.TheVariants.{Compare, Assign, Jump, Output, Store}
use Rattle.abs_step.proofs.FunctionSteps.{GivesBoth}
use Rattle.abs_step.proofs.MachineReads.{Represents, small_signed, register_word, source_is, lawful_word, place_is, lawful_test, Operates, operand_is, work_is}
use Rattle.abs_step.proofs.SearchLaws.{and_not}
use Rattle.viper_word.proofs.Options.{WasBound, bind_was}

-- ---- one instruction

-- the machine goes on, in a state with these numbers
pub record GoesOn (s u : State) (t : Numbers) : Type 0 where
  pub state : IsState u
  pub stop : u.stop ≡ s.stop
  pub numbers : Represents u t

pub record IsLegal (i : Fields) : Type 0 where
  pub small : is_function i ≡ true → nat_le 13 i.f ≡ false
  pub register : is_to_register i ≡ true → (i.f == 1) ≡ false
  pub jump : is_jump i ≡ true → may_jump i.f ≡ true

pub second_false : (x y : Bool) → x ≡ true → (x && y) ≡ false → y ≡ false
second_false true y e h = h
second_false false y e h = absurd (false≢true e)

pub legal_is : (i : Fields) → is_illegal i ≡ false → IsLegal i
unfolding is_illegal
legal_is i h =
    let a = or_parts _ _ h in
    let b = or_parts _ _ a.1 in
    let c = or_parts _ _ b.1 in
    record {
      small = λ t. second_false (is_function i) (nat_le 13 i.f) t b.0;
      register = λ t. second_false (is_to_register i) (i.f == 1) t c.0;
      jump = λ t. not-false (may_jump i.f) (second_false (is_jump i) (not (may_jump i.f)) t c.1);
    }

-- what holds of each function that a jump may have
by_jump : (P : ℕ → Type 0) → P 1 → P 3 → P 5 → P 7 → (f : ℕ) → may_jump f ≡ true → P f
by_jump P a b c d zero h = absurd (false≢true h)
by_jump P a b c d (suc zero) h = a
by_jump P a b c d (suc (suc zero)) h = absurd (false≢true h)
by_jump P a b c d (suc (suc (suc zero))) h = b
by_jump P a b c d (suc (suc (suc (suc zero)))) h = absurd (false≢true h)
by_jump P a b c d (suc (suc (suc (suc (suc zero))))) h = c
by_jump P a b c d (suc (suc (suc (suc (suc (suc zero)))))) h = absurd (false≢true h)
by_jump P a b c d (suc (suc (suc (suc (suc (suc (suc zero))))))) h = d
by_jump P a b c d (suc (suc (suc (suc (suc (suc (suc (suc f)))))))) h = absurd (false≢true (sym (none (suc (suc (suc (suc (suc (suc (suc (suc f)))))))) (omega arith)) ∙ h))
  where
    none : (f : ℕ) → 7 < f → may_jump f ≡ false
    none f l = grind (arith, nat_tests)

below : (a b : ℕ) → (a ≡ b) × (b < 2 ^ 20) → a < 2 ^ 20
below a b p = let e = p.0 in let l = p.1 in omega arith

performed_of : (a b c : Bool) (x y z w : Result State Cause) (P : State → Type 0) → a ≡ false → b ≡ false → c ≡ false → IsOkAnd w P → IsOkAnd (if a then x else if b then y else if c then z else w) P
performed_of false false false x y z w P e f g h = h
performed_of true b c x y z w P e f g h = absurd (false≢true (sym e))
performed_of false true c x y z w P e f g h = absurd (false≢true (sym f))
performed_of false false true x y z w P e f g h = absurd (false≢true (sym g))

-- rules 2 to 4 let the instruction through
run_is : (pr : Profile) (i : Fields) (s : State) (answer : ℕ) (P : State → Type 0) → is_illegal i ≡ false → is_skipped i s.b ≡ false → (has_address i && not (is_lawful (address i s))) ≡ false → IsOkAnd (performed pr i s answer) P → IsOkAnd (executed pr i s answer) P
unfolding executed
run_is pr i s answer P e f g h = performed_of (is_illegal i) (is_skipped i s.b) (has_address i && not (is_lawful (address i s))) _ _ _ (performed pr i s answer) P e f g h

skipped_of : (a b : Bool) (x y w : Result State Cause) (P : State → Type 0) → a ≡ false → b ≡ true → IsOkAnd y P → IsOkAnd (if a then x else if b then y else w) P
skipped_of false true x y w P e f h = h
skipped_of true b x y w P e f h = absurd (false≢true (sym e))
skipped_of false false x y w P e f h = absurd (false≢true f)

skip_is : (pr : Profile) (i : Fields) (s : State) (answer : ℕ) (P : State → Type 0) → is_illegal i ≡ false → is_skipped i s.b ≡ true → P (record s { p = s.p + 1 }) → IsOkAnd (executed pr i s answer) P
unfolding executed
skip_is pr i s answer P e f h = skipped_of (is_illegal i) (is_skipped i s.b) _ (Ok (record s { p = s.p + 1 })) _ P e f h

same_numbers : (s : State) → Represents s (numbers_of s)
same_numbers s = record { a = refl; x = refl; y = refl; mem = λ n. refl; b = refl; p = refl }

-- P goes on, and nothing else changes
on_is : (s : State) → IsState s → s.p + 1 < 2 ^ 20 → GoesOn s (record s { p = s.p + 1 }) (at_next (numbers_of s))
on_is s w n = record {
  state = record { a = w.a; x = w.x; y = w.y; p = n; count = w.count; memory = w.memory };
  stop = refl;
  numbers = record { a = refl; x = refl; y = refl; mem = λ n. refl; b = refl; p = refl };
}

module _ (pr : Profile) (s : State) (answer : ℕ) (w : IsState s) (n : s.p + 1 < 2 ^ 20) (g : IsWord answer) where
  compare_is : (i : Fields) (t : Numbers) → AreFields i → perform pr (Compare (nat_le 8 i.f) (kind_of (i.f % 8)) (source_of i.r) (operand_of (record i { c = true }))) (signed_value answer) (numbers_of s) ≡ Some t → IsOkAnd (executed pr (record i { c = true }) s answer) (λ u. GoesOn s u t)
  unfolding perform is_illegal performed compared compares
  compare_is i t f h =
      run_is pr j s answer (λ u. GoesOn s u t) refl refl o.safe
      (subst (λ (t : Numbers). GoesOn s (record s { b = compared j (register s i.r) (operand j s answer) s.b; p = s.p + 1 }) t) (same_Some _ t q.gives)
      (record {
        state = record { a = w.a; x = w.x; y = w.y; p = n; count = w.count; memory = w.memory };
        stop = refl;
        numbers = record { a = refl; x = refl; y = refl; mem = λ n. refl; b = ap (λ (b : Bool). cond (nat_le 8 i.f) (s.b || b) b) holds; p = refl };
      }))
    where
      j : Fields
      j = record i { c = true }

      q : WasBound (operand_number (numbers_of s) (signed_value answer) (operand_of j)) (λ m. let holds = signed_compares (kind_of (i.f % 8)) (source_number (numbers_of s) (source_of i.r)) m in Some (record { regs = (numbers_of s).regs; mem = (numbers_of s).mem; b = cond (nat_le 8 i.f) (s.b || holds) holds; p = s.p + 1 })) t
      q = bind_was _ _ t h

      fields : AreFields j
      fields = record { r = f.r; m = f.m; d = f.d; f = f.f; field = f.field }

      o : Operates j s answer q.first
      o = operand_is j s answer q.first w fields g q.is

      holds : compares (kind_of (i.f % 8)) (register s i.r) (operand j s answer) ≡ signed_compares (kind_of (i.f % 8)) (source_number (numbers_of s) (source_of i.r)) q.first
      holds =
          ap₂ (λ (x y : ℤ). signed_compares (kind_of (i.f % 8)) x y) (sym (source_is s i.r w f.r)) o.value

  output_is : (i : Fields) (t : Numbers) → AreFields i → is_illegal (record i { c = false; d = 6 }) ≡ false → perform pr (Output (source_of i.r) (place_of i)) (signed_value answer) (numbers_of s) ≡ Some t → IsOkAnd (executed pr (record i { c = false; d = 6 }) s answer) (λ u. GoesOn s u t)
  unfolding perform performed place_of
  output_is i t f e h =
      let q = bind_was (lawful (place_number (place_of i) (numbers_of s).regs)) (λ n. Some (at_next (numbers_of s))) t h in
      let l = lawful_test (address i s) q.first (place_is i s q.first w f q.is) in
      run_is pr (record i { c = false; d = 6 }) s answer (λ u. GoesOn s u t) e refl (and_not (has_address (record i { c = false; d = 6 })) (is_lawful (address i s)) l)
      (subst (λ (t : Numbers). GoesOn s (record s { p = s.p + 1 }) t) (same_Some _ t q.gives) (on_is s w n))

  inside : (a : ℕ) → a < 2 ^ 20 → a < length s.memory
  inside a l = let c = w.count in omega arith

  put_is : (a z k : ℕ) (b : Bool) → nat_eq a k ≡ b → a < 2 ^ 20 → signed_value (slice_index (slice_set s.memory a z) k) ≡ cond b (signed_value z) (signed_value (slice_index s.memory k))
  put_is a z k true e l = ap signed_value (ap (λ (m : ℕ). get_or (set s.memory a z) m 0) (sym (eqb-true a k e)) ∙ get_or-set_same s.memory a z 0 (inside a l))
  put_is a z k false e l = ap signed_value (get_or-set_other s.memory a k z 0 (λ q. false≢true (sym e ∙ eq-eqb a k (sym q))))

  put_word : (a z k : ℕ) (b : Bool) → nat_eq a k ≡ b → a < 2 ^ 20 → IsWord z → IsWord (slice_index (slice_set s.memory a z) k)
  put_word a z k true e l h = subst IsWord (sym (ap (λ (m : ℕ). get_or (set s.memory a z) m 0) (sym (eqb-true a k e)) ∙ get_or-set_same s.memory a z 0 (inside a l))) h
  put_word a z k false e l h = subst IsWord (sym (get_or-set_other s.memory a k z 0 (λ q. false≢true (sym e ∙ eq-eqb a k (sym q))))) (w.memory k)

  store_is : (i : Fields) (t : Numbers) → AreFields i → is_illegal (record i { c = false; d = 7 }) ≡ false → perform pr (Store (source_of i.r) (place_of i)) (signed_value answer) (numbers_of s) ≡ Some t → IsOkAnd (executed pr (record i { c = false; d = 7 }) s answer) (λ u. GoesOn s u t)
  unfolding perform performed place_of
  store_is i t f e h =
      run_is pr (record i { c = false; d = 7 }) s answer (λ u. GoesOn s u t) e refl (and_not (has_address (record i { c = false; d = 7 })) (is_lawful (address i s)) l)
      (subst (λ (t : Numbers). GoesOn s after t) (same_Some _ t q.gives) (record {
        state = record { a = w.a; x = w.x; y = w.y; p = n; count = length-set s.memory (address i s) (register s i.r) ∙ w.count; memory = λ m. put_word (address i s) (register s i.r) m (nat_eq (address i s) m) refl small (register_word s i.r w f.r) };
        stop = refl;
        numbers = record { a = refl; x = refl; y = refl; mem = λ m. stored m; b = refl; p = refl };
      }))
    where
      after : State
      after = record s { memory = slice_set s.memory (address i s) (register s i.r); p = s.p + 1 }

      q : WasBound (lawful (place_number (place_of i) (numbers_of s).regs)) (λ n. Some (record { regs = (numbers_of s).regs; mem = put_at (numbers_of s).mem n (source_number (numbers_of s) (source_of i.r)); b = s.b; p = s.p + 1 })) t
      q = bind_was _ _ t h

      k : (address i s ≡ q.first) × (q.first < 2 ^ 20)
      k = place_is i s q.first w f q.is

      l : is_lawful (address i s) ≡ true
      l = lawful_test (address i s) q.first k

      small : address i s < 2 ^ 20
      small = below (address i s) q.first k

      stored : (m : ℕ) → signed_value (slice_index (slice_set s.memory (address i s) (register s i.r)) m) ≡ put_at (numbers_of s).mem q.first (source_number (numbers_of s) (source_of i.r)) m
      stored m =
          put_is (address i s) (register s i.r) m (nat_eq (address i s) m) refl small
          ∙ ap₂ (λ (a : ℕ) (z : ℤ). cond (nat_eq a m) z (signed_value (slice_index s.memory m))) k.0 (sym (source_is s i.r w f.r))

  -- a result that is there, finished
  finish_of : (i : Fields) (o : Option Computed) (z : ℤ) (b : Bool) (P : State → Type 0) → IsSomeAnd o (λ e. GivesBoth e z b) → ((e : Computed) → GivesBoth e z b → IsOkAnd (finished i s (Some e)) P) → IsOkAnd (finished i s o) P
  finish_of i None z b P h k = absurd h
  finish_of i (Some e) z b P h k = k e h

  -- a function whose result goes to a register: what the writing has to give
  assign_with : (i : Fields) (r : Reg) (t : Numbers) → AreFields i → is_illegal i ≡ false → is_function i ≡ true → is_skipped i s.b ≡ false → i.c ≡ false → (performed pr i s answer ≡ finished i s (computed pr i (register s i.r) (operand i s answer) s.b)) → ((e : Computed) (z : ℤ) (b : Bool) → GivesBoth e z b → IsOkAnd (finished i s (Some e)) (λ u. GoesOn s u (record { regs = set_reg (numbers_of s).regs r z; mem = (numbers_of s).mem; b = b; p = s.p + 1 }))) → perform pr (Assign r (work_of i)) (signed_value answer) (numbers_of s) ≡ Some t → IsOkAnd (executed pr i s answer) (λ u. GoesOn s u t)
  unfolding perform
  assign_with i r t f e is k c same writes h =
      let q = bind_was (result_number pr (numbers_of s) (signed_value answer) (work_of i)) (λ z. Some (record { regs = set_reg (numbers_of s).regs r z; mem = (numbers_of s).mem; b = bit_after pr (numbers_of s) (signed_value answer) (work_of i); p = s.p + 1 })) t h in
      let v = work_is pr i s answer q.first w f g is ((legal_is i e).small is) q.is in
      run_is pr i s answer (λ u. GoesOn s u t) e k v.safe
      (subst (λ (o : Result State Cause). IsOkAnd o (λ u. GoesOn s u t)) (sym same)
      (subst (λ (t : Numbers). IsOkAnd (finished i s (computed pr i (register s i.r) (operand i s answer) s.b)) (λ u. GoesOn s u t)) (same_Some _ t q.gives)
      (finish_of i (computed pr i (register s i.r) (operand i s answer) s.b) q.first (bit_after pr (numbers_of s) (signed_value answer) (work_of i)) _ v.some (λ e g. writes e q.first (bit_after pr (numbers_of s) (signed_value answer) (work_of i)) g))))

  no_link : (b : Bool) (k : ℕ) → b ≡ false → (if b then k else s.y) ≡ s.y
  no_link false k e = refl
  no_link true k e = absurd (false≢true (sym e))

  assign_a : (i : Fields) (t : Numbers) → AreFields i → is_illegal (record i { c = false; d = 0 }) ≡ false → perform pr (Assign A (work_of (record i { c = false; d = 0 }))) (signed_value answer) (numbers_of s) ≡ Some t → IsOkAnd (executed pr (record i { c = false; d = 0 }) s answer) (λ u. GoesOn s u t)
  unfolding performed finished written
  assign_a i t f e h =
      let j = record i { c = false; d = 0 } in
      let keeps = no_link (i.f == 1) (s.p + 1) ((legal_is j e).register refl) in
      assign_with j A t (record { r = f.r; m = f.m; d = omega arith; f = f.f; field = f.field }) e refl refl refl refl
      (λ e z b k. record {
        state = record { a = k.word; x = w.x; y = subst IsWord (sym keeps) w.y; p = n; count = w.count; memory = w.memory };
        stop = refl;
        numbers = record { a = k.value; x = refl; y = ap signed_value keeps; mem = λ m. refl; b = k.bit; p = refl };
      }) h

  assign_x : (i : Fields) (t : Numbers) → AreFields i → is_illegal (record i { c = false; d = 1 }) ≡ false → perform pr (Assign X (work_of (record i { c = false; d = 1 }))) (signed_value answer) (numbers_of s) ≡ Some t → IsOkAnd (executed pr (record i { c = false; d = 1 }) s answer) (λ u. GoesOn s u t)
  unfolding performed finished written
  assign_x i t f e h =
      let j = record i { c = false; d = 1 } in
      let keeps = no_link (i.f == 1) (s.p + 1) ((legal_is j e).register refl) in
      assign_with j X t (record { r = f.r; m = f.m; d = omega arith; f = f.f; field = f.field }) e refl refl refl refl
      (λ e z b k. record {
        state = record { a = w.a; x = k.word; y = subst IsWord (sym keeps) w.y; p = n; count = w.count; memory = w.memory };
        stop = refl;
        numbers = record { a = refl; x = k.value; y = ap signed_value keeps; mem = λ m. refl; b = k.bit; p = refl };
      }) h

  assign_y : (i : Fields) (t : Numbers) → AreFields i → is_illegal (record i { c = false; d = 2 }) ≡ false → perform pr (Assign Y (work_of (record i { c = false; d = 2 }))) (signed_value answer) (numbers_of s) ≡ Some t → IsOkAnd (executed pr (record i { c = false; d = 2 }) s answer) (λ u. GoesOn s u t)
  unfolding performed finished written
  assign_y i t f e h =
      assign_with (record i { c = false; d = 2 }) Y t (record { r = f.r; m = f.m; d = omega arith; f = f.f; field = f.field }) e refl refl refl refl
      (λ e z b k. record {
        state = record { a = w.a; x = w.x; y = k.word; p = n; count = w.count; memory = w.memory };
        stop = refl;
        numbers = record { a = refl; x = refl; y = k.value; mem = λ m. refl; b = k.bit; p = refl };
      }) h

  -- ---- jumps

  -- B stays in the functions that a jump may have
  jump_bit : (i : Fields) → may_jump i.f ≡ true → bit_after pr (numbers_of s) (signed_value answer) (work_of i) ≡ s.b
  unfolding work_of function_of bit_after function_bit
  jump_bit i h = by_jump (λ f. bit_after pr (numbers_of s) (signed_value answer) (work_of (record i { f = f })) ≡ s.b) refl refl refl refl i.f h

  jump_call : (i : Fields) → may_jump i.f ≡ true → is_call (work_of i) ≡ (i.f == 1)
  unfolding work_of function_of
  jump_call i h = by_jump (λ f. is_call (work_of (record i { f = f })) ≡ (f == 1)) refl refl refl refl i.f h

  -- the link of CALL
  linked_word : (b : Bool) → IsWord (if b then s.p + 1 else s.y)
  linked_word true = omega arith
  linked_word false = w.y

  linked_a : (b : Bool) → signed_value s.a ≡ (cond b (set_reg (numbers_of s).regs Y (pos (s.p + 1))) (numbers_of s).regs).a
  linked_a true = refl
  linked_a false = refl

  linked_x : (b : Bool) → signed_value s.x ≡ (cond b (set_reg (numbers_of s).regs Y (pos (s.p + 1))) (numbers_of s).regs).x
  linked_x true = refl
  linked_x false = refl

  linked_y : (b : Bool) → signed_value (if b then s.p + 1 else s.y) ≡ (cond b (set_reg (numbers_of s).regs Y (pos (s.p + 1))) (numbers_of s).regs).y
  linked_y true = small_signed (s.p + 1) (omega arith)
  linked_y false = refl

  target_of : (a b : Bool) (x y : Result State Cause) (P : State → Type 0) → b ≡ true → IsOkAnd y P → IsOkAnd (if a && not b then x else y) P
  target_of true true x y P e h = h
  target_of false true x y P e h = h
  target_of a false x y P e h = absurd (false≢true e)

  abbrev jumped_to : Fields → ℕ → Numbers
  jumped_to i k = record { regs = cond (is_call (work_of i)) (set_reg (numbers_of s).regs Y (pos (s.p + 1))) (numbers_of s).regs; mem = (numbers_of s).mem; b = s.b; p = k }

  abbrev jump_result : Fields → Option Numbers
  jump_result i = bind (result_number pr (numbers_of s) (signed_value answer) (work_of i)) (λ z. bind (lawful z) (λ k. Some (jumped_to i k)))

  -- a jump that is taken, by how its result is written
  taken_is : (i : Fields) (t : Numbers) → AreFields i → is_illegal i ≡ false → is_function i ≡ true → is_jump i ≡ true → is_skipped i s.b ≡ false → (performed pr i s answer ≡ finished i s (computed pr i (register s i.r) (operand i s answer) s.b)) → ((e : Computed) → written i s e ≡ record s { y = if i.f == 1 then s.p + 1 else s.y; b = e.b; p = e.value }) → jump_result i ≡ Some t → IsOkAnd (executed pr i s answer) (λ u. GoesOn s u t)
  unfolding finished
  taken_is i t f e is jumps k same writes h =
      let q = bind_was (result_number pr (numbers_of s) (signed_value answer) (work_of i)) (λ z. bind (lawful z) (λ k. Some (jumped_to i k))) t h in
      let u = bind_was (lawful q.first) (λ k. Some (jumped_to i k)) t q.gives in
      let v = work_is pr i s answer q.first w f g is ((legal_is i e).small is) q.is in
      let stays = jump_bit i ((legal_is i e).jump jumps) in
      let calls : is_call (work_of i) ≡ (i.f == 1) = jump_call i ((legal_is i e).jump jumps) in
      run_is pr i s answer (λ u. GoesOn s u t) e k v.safe
      (subst (λ (o : Result State Cause). IsOkAnd o (λ u. GoesOn s u t)) (sym same)
      (finish_of i (computed pr i (register s i.r) (operand i s answer) s.b) q.first (bit_after pr (numbers_of s) (signed_value answer) (work_of i)) (λ u. GoesOn s u t) v.some
      (λ e g. let l = lawful_word e.value u.first g.word (subst (λ (z : ℤ). lawful z ≡ Some u.first) (sym g.value) u.is) in
      target_of (is_jump i) (is_lawful e.value) (Err Target) (Ok (written i s e)) (λ u. GoesOn s u t) (lawful_test e.value u.first l)
      (subst (λ (x : State). GoesOn s x t) (sym (writes e))
      (subst (λ (t : Numbers). GoesOn s (record s { y = if i.f == 1 then s.p + 1 else s.y; b = e.b; p = e.value }) t) (same_Some _ t u.gives)
      (record {
        state = record { a = w.a; x = w.x; y = linked_word (i.f == 1); p = below e.value u.first l; count = w.count; memory = w.memory };
        stop = refl;
        numbers = record { a = linked_a (is_call (work_of i)); x = linked_x (is_call (work_of i)); y = ap (λ (b : Bool). signed_value (if b then s.p + 1 else s.y)) (sym calls) ∙ linked_y (is_call (work_of i)); mem = λ m. refl; b = g.bit ∙ stays; p = l.0 };
      }))))))

  cond_true : {S : Type 0} (b : Bool) (x y z : S) → b ≡ true → cond b x y ≡ z → x ≡ z
  cond_true true x y z e h = h
  cond_true false x y z e h = absurd (false≢true e)

  cond_false : {S : Type 0} (b : Bool) (x y z : S) → b ≡ false → cond b x y ≡ z → y ≡ z
  cond_false false x y z e h = h
  cond_false true x y z e h = absurd (false≢true (sym e))

  skip_set : (b : Bool) → b ≡ true → (not false && ((true && not b) || (false && b))) ≡ false
  skip_set true e = refl
  skip_set false e = absurd (false≢true e)

  skip_clear : (b : Bool) → b ≡ false → (not false && ((true && not b) || (false && b))) ≡ true
  skip_clear false e = refl
  skip_clear true e = absurd (false≢true (sym e))

  always_is : (i : Fields) (t : Numbers) → AreFields i → is_illegal (record i { c = false; d = 3 }) ≡ false → perform pr (Jump Always (work_of (record i { c = false; d = 3 }))) (signed_value answer) (numbers_of s) ≡ Some t → IsOkAnd (executed pr (record i { c = false; d = 3 }) s answer) (λ u. GoesOn s u t)
  unfolding perform performed written
  always_is i t f e h =
      taken_is (record i { c = false; d = 3 }) t (record { r = f.r; m = f.m; d = omega arith; f = f.f; field = f.field }) e refl refl refl refl (λ e. refl) h

  if_set_is : (i : Fields) (t : Numbers) → AreFields i → is_illegal (record i { c = false; d = 4 }) ≡ false → perform pr (Jump IfB (work_of (record i { c = false; d = 4 }))) (signed_value answer) (numbers_of s) ≡ Some t → IsOkAnd (executed pr (record i { c = false; d = 4 }) s answer) (λ u. GoesOn s u t)
  unfolding perform performed written
  if_set_is i t f e h =
      ⊎_elim (λ (b : s.b ≡ true). taken_is j t (record { r = f.r; m = f.m; d = omega arith; f = f.f; field = f.field }) e refl refl (skipped_not s.b b) refl (λ e. refl) (cond_true s.b (jump_result j) (Some (at_next (numbers_of s))) (Some t) b h))
      (λ (b : s.b ≡ false). skip_is pr j s answer (λ u. GoesOn s u t) e (skipped_so s.b b)
      (subst (λ (t : Numbers). GoesOn s (record s { p = s.p + 1 }) t) (same_Some _ t (cond_false s.b (jump_result j) (Some (at_next (numbers_of s))) (Some t) b h)) (on_is s w n))) (cases_Bool s.b)
    where
      j : Fields
      j = record i { c = false; d = 4 }

      skipped_not : (b : Bool) → b ≡ true → is_skipped j b ≡ false
      skipped_not true e = refl
      skipped_not false e = absurd (false≢true e)

      skipped_so : (b : Bool) → b ≡ false → is_skipped j b ≡ true
      skipped_so false e = refl
      skipped_so true e = absurd (false≢true (sym e))

  if_clear_is : (i : Fields) (t : Numbers) → AreFields i → is_illegal (record i { c = false; d = 5 }) ≡ false → perform pr (Jump IfNotB (work_of (record i { c = false; d = 5 }))) (signed_value answer) (numbers_of s) ≡ Some t → IsOkAnd (executed pr (record i { c = false; d = 5 }) s answer) (λ u. GoesOn s u t)
  unfolding perform performed written
  if_clear_is i t f e h =
      ⊎_elim (λ (b : s.b ≡ false). taken_is j t (record { r = f.r; m = f.m; d = omega arith; f = f.f; field = f.field }) e refl refl (skipped_not s.b b) refl (λ e. refl) (cond_true (not s.b) (jump_result j) (Some (at_next (numbers_of s))) (Some t) (ap not b) h))
      (λ (b : s.b ≡ true). skip_is pr j s answer (λ u. GoesOn s u t) e (skipped_so s.b b)
      (subst (λ (t : Numbers). GoesOn s (record s { p = s.p + 1 }) t) (same_Some _ t (cond_false (not s.b) (jump_result j) (Some (at_next (numbers_of s))) (Some t) (ap not b) h)) (on_is s w n))) (other s.b)
    where
      j : Fields
      j = record i { c = false; d = 5 }

      other : (b : Bool) → (b ≡ false) ⊎ (b ≡ true)
      other true = inr refl
      other false = inl refl

      skipped_not : (b : Bool) → b ≡ false → is_skipped j b ≡ false
      skipped_not false e = refl
      skipped_not true e = absurd (false≢true (sym e))

      skipped_so : (b : Bool) → b ≡ true → is_skipped j b ≡ true
      skipped_so true e = refl
      skipped_so false e = absurd (false≢true e)

  -- every kind of instruction
  by_kind : (c : Bool) (d : ℕ) (i : Fields) (t : Numbers) → d < 8 → AreFields i → is_illegal (record i { c = c; d = d }) ≡ false → perform pr (instruction_of (record i { c = c; d = d })) (signed_value answer) (numbers_of s) ≡ Some t → IsOkAnd (executed pr (record i { c = c; d = d }) s answer) (λ u. GoesOn s u t)
  unfolding instruction_of result_to place_of
  by_kind true d i t l f e h = compare_is (record i { d = d }) t (record { r = f.r; m = f.m; d = l; f = f.f; field = f.field }) h
  by_kind false zero i t l f e h = assign_a i t f e h
  by_kind false (suc zero) i t l f e h = assign_x i t f e h
  by_kind false (suc (suc zero)) i t l f e h = assign_y i t f e h
  by_kind false (suc (suc (suc zero))) i t l f e h = always_is i t f e h
  by_kind false (suc (suc (suc (suc zero)))) i t l f e h = if_set_is i t f e h
  by_kind false (suc (suc (suc (suc (suc zero))))) i t l f e h = if_clear_is i t f e h
  by_kind false (suc (suc (suc (suc (suc (suc zero)))))) i t l f e h = output_is i t f e h
  by_kind false (suc (suc (suc (suc (suc (suc (suc zero))))))) i t l f e h = store_is i t f e h
  by_kind false (suc (suc (suc (suc (suc (suc (suc (suc d)))))))) i t l f e h = absurd (omega arith)

  pub executed_is : (i : Fields) (t : Numbers) → AreFields i → is_illegal i ≡ false → perform pr (instruction_of i) (signed_value answer) (numbers_of s) ≡ Some t → IsOkAnd (executed pr i s answer) (λ u. GoesOn s u t)
  executed_is i t f e h = by_kind i.c i.d i t f.d f e h
