-- A step from a state that meets a fact touches only what the plan declares.
use Rattle.std.specs.Prelude.{◌≡◌, ℕ, ◌-◌, ◌^◌, ◌<◌, ◌==◌, ℤ, Bool, true, false, not, ◌&&◌, ◌||◌, cond, nat_le, List, [], ◌∷◌, length, Some, None, IfSome, IsSomeAnd, if◌then◌else◌, ◌⊎◌}
use Rattle.std.proofs.Common.{refl, arith, sym, subst, ◌∙◌, inl, inr, suc}
use Rattle.std.proofs.lemmas.Bool.{and_parts, false≢true, leb-true, not-true}
use Rattle.std.proofs.lemmas.Bool.Decides.{nat_tests}
use Rattle.std.proofs.lemmas.Option.{same_Some}
use Rattle.viper_word.specs.Words.{signed_value}
use Rattle.viper_word.specs.Fields.{Fields, AreFields, is_illegal, is_function, is_output, is_store, is_shift, has_address, is_input}
use Rattle.viper_word.specs.Machine.{State, IsState, current, register, address, is_lawful, is_skipped, is_performed, address_if}
use Rattle.viper_word.specs.Ranges.{NumberRange, IsIn, IsNormal}
use Rattle.viper_word.proofs.RangeLemmas.{range_in}
use Rattle.viper_decode.specs.Instructions.{source_of, place_of, operand_of, function_of, shift_of, work_of, instruction_of}
use Rattle.viper_decode.specs.declared.instructions.Operand.TheVariants.{Literal, Memory, Peripheral}
use Rattle.viper_decode.specs.declared.instructions.Work.TheVariants.{Apply, Move}
use Rattle.viper_decode.specs.declared.instructions.Instruction.{Instruction}
use Rattle.memory_plan.specs.Ranges.{Span, Covers, Allows}
use Rattle.memory_plan.specs.Plans.{PlanLines, in_code, range_at}
use Rattle.num_domain.specs.Domain.{Domain}
use Rattle.num_domain.specs.Laws.{DomainLaws}
use Rattle.flag_relation.specs.Values.{Values}
use Rattle.flag_relation.specs.Facts.{MeetsValues}
use Rattle.abs_step.specs.Addresses.{in_spans}
use Rattle.abs_step.specs.Results.{in_memory, source_value}
use Rattle.abs_step.specs.Conditions.{operand_lawful, work_lawful, each_address, each_allows, c3, c6, c7}
use Rattle.abs_step.proofs.Performing.{numbers_of, env, lawful, place_number, source_number, InRangeOf}
use Rattle.abs_step.proofs.ResultCover.{PlaceIs, place_has}
use Rattle.abs_step.proofs.TidyLaws.{allowed_tidy}
use Rattle.abs_step.proofs.MachineReads.{place_is, source_is}
use Rattle.abs_step.proofs.StateCover.{is_there, spaced}
use Rattle.abs_step.proofs.KindCases.{each_kind}
use Rattle.abs_step.proofs.MachineSteps.{second_false}

-- ---- spans

pub covers_from : (ss : List Span) (n : ℕ) → in_spans ss n ≡ true → Covers ss n
covers_from [] n h = absurd (false≢true h)
covers_from (s ∷ ss) n h = by_test (nat_le s.0 n && nat_le n s.1) refl h (λ e. covers_from ss n e)
  where
    by_test : (b : Bool) → (nat_le s.0 n && nat_le n s.1) ≡ b → (b || in_spans ss n) ≡ true → (in_spans ss n ≡ true → Covers ss n) → Covers (s ∷ ss) n
    by_test true t e k =
        let p = and_parts (nat_le s.0 n) (nat_le n s.1) t in
        record { span = s; listed = (0, omega arith, refl); low = leb-true s.0 n p.0; high = leb-true n s.1 p.1 }
    by_test false t e k =
        let c = k e in
        record { span = c.span; listed = (suc c.listed.0, further (length ss) c.listed.0 c.listed.1, c.listed.2); low = c.low; high = c.high }
      where
        further : (n k : ℕ) → k < n → suc k < suc n
        further n k h = omega arith

allows_from : (ss : List Span) (n : ℕ) (r : NumberRange) (z : ℤ) → range_at ss n ≡ Some r → IsIn r z → Allows ss n z
allows_from [] n r z h k = absurd (cc)
allows_from (s ∷ ss) n r z h k = by_test (nat_le s.0 n && nat_le n s.1) refl h (λ e. allows_from ss n r z e k)
  where
    by_test : (b : Bool) → (nat_le s.0 n && nat_le n s.1) ≡ b → (if b then Some s.2 else range_at ss n) ≡ Some r → (range_at ss n ≡ Some r → Allows ss n z) → Allows (s ∷ ss) n z
    by_test true t e q =
        let p = and_parts (nat_le s.0 n) (nat_le n s.1) t in
        record { span = s; listed = (0, omega arith, refl); low = leb-true s.0 n p.0; high = leb-true n s.1 p.1; value = subst (λ (x : NumberRange). IsIn x z) (sym (same_Some s.2 r e)) k }
    by_test false t e q =
        let c = q e in
        record { span = c.span; listed = (suc c.listed.0, further (length ss) c.listed.0 c.listed.1, c.listed.2); low = c.low; high = c.high; value = c.value }
      where
        further : (n k : ℕ) → k < n → suc k < suc n
        further n k h = omega arith

-- ---- what the machine touches

if_some : (b : Bool) (a : ℕ) (P : ℕ → Type 0) → (b ≡ true → P a) → IfSome (if b then Some a else None) P
if_some true a P h = h refl
if_some false a P h = tt

-- the tests of an address that is touched
pub record Touches (such : Fields → Bool) (s : State) : Type 0 where
  pub unskipped : is_skipped (current s) s.b ≡ false
  pub addressed : has_address (current s) ≡ true
  pub such_is : such (current s) ≡ true

pub touched : (such : Fields → Bool) (s : State) (P : ℕ → Type 0) → (Touches such s → P (address (current s) s)) → IfSome (address_if such s) P
unfolding is_performed
touched such s P h =
    let i = current s in
    if_some (is_performed s && (has_address i && (such i && is_lawful (address i s)))) (address i s) P (λ e.
    let a = and_parts (is_performed s) (has_address i && (such i && is_lawful (address i s))) e in
    let b = and_parts (not s.stop) (not (s.p == 2 ^ 20 - 1) && (not (is_illegal i) && not (is_skipped i s.b))) a.0 in
    let c = and_parts (not (s.p == 2 ^ 20 - 1)) (not (is_illegal i) && not (is_skipped i s.b)) b.1 in
    let d = and_parts (not (is_illegal i)) (not (is_skipped i s.b)) c.1 in
    let f = and_parts (has_address i) (such i && is_lawful (address i s)) a.1 in
    let g = and_parts (such i) (is_lawful (address i s)) f.1 in
    h (record { unskipped = not-true (is_skipped i s.b) d.1; addressed = f.0; such_is = g.0 }))

module _ {T : Type 0} (d : Domain T) (laws : DomainLaws d) (plan : PlanLines) (cells : List ℕ) (s : State) (answer : ℕ) (words : IsState s) (i : Fields) (fields : AreFields i) where
  -- the machine's address is one of those that the place may be
  place_tidy : (v : Values T) (ok : ℕ → Bool) → MeetsValues d v (env cells (numbers_of s)) → each_address d (place_of i) v ok ≡ true → ok (address i s) ≡ true
  place_tidy v ok m h =
      let k = is_there (lawful (place_number (place_of i) (numbers_of s).regs)) (λ n. PlaceIs d laws (place_of i) v (place_number (place_of i) (numbers_of s).regs) ok n) (place_has d laws (place_of i) v (numbers_of s) cells ok m h) in
      subst (λ (n : ℕ). ok n ≡ true) (sym (place_is i s k.value words fields k.is).0) k.holds.passes

  -- the operand of an instruction that has one is what C3 asks of
  abbrev OperandAllowed : Values T → Fields → Instruction → Type 0
  OperandAllowed v j instruction = is_output j ≡ false → is_store j ≡ false → is_shift j ≡ false → c3 d plan instruction v ≡ true → operand_lawful d plan v (operand_of j) ≡ true

  no_shift : (v : Values T) → is_function i ≡ true → is_shift i ≡ false → work_lawful d plan v (work_of i) ≡ true → operand_lawful d plan v (operand_of i) ≡ true
  unfolding work_of
  no_shift v is h k = by_test (i.f == 12) (second_false (is_function i) (i.f == 12) is h) k
    where
      by_test : (b : Bool) → b ≡ false → work_lawful d plan v (if b then Move (shift_of i.m) (source_of i.r) else Apply (function_of i.f) (source_of i.r) (operand_of i)) ≡ true → operand_lawful d plan v (operand_of i) ≡ true
      by_test false e k = k
      by_test true e k = absurd (false≢true (sym e))

  operand_allowed : (v : Values T) → OperandAllowed v i (instruction_of i)
  unfolding c3
  operand_allowed v = each_kind (OperandAllowed v) i fields (record {
    compare = λ e a b c k. k;
    assign = λ r e a b c k. no_shift v e.function c k;
    jump = λ side e a b c k. no_shift v e.function c k;
    output = λ e a. absurd (false≢true (sym a ∙ e));
    store = λ e a b. absurd (false≢true (sym b ∙ e));
  })

  pub memory_tidy : (v : Values T) → MeetsValues d v (env cells (numbers_of s)) → c3 d plan (instruction_of i) v ≡ true → has_address i ≡ true → is_input i ≡ false → is_output i ≡ false → is_store i ≡ false → (in_code plan (address i s) ≡ true) ⊎ Covers plan.«data» (address i s)
  unfolding operand_of operand_lawful
  memory_tidy v m h a j o q =
      let p = and_parts (not (i.m == 0)) (not (is_shift i)) a in
      from (in_code plan (address i s)) refl (place_tidy v (λ n. in_memory plan n) m (by_mode (i.m == 0) (is_input i) (not-true (i.m == 0) p.0) j (operand_allowed v o q (not-true (is_shift i) p.1) h)))
    where
      by_mode : (b c : Bool) → b ≡ false → c ≡ false → operand_lawful d plan v (if b then Literal i.field else if c then Peripheral (place_of i) else Memory (place_of i)) ≡ true → each_address d (place_of i) v (λ n. in_memory plan n) ≡ true
      by_mode false false e g k = k
      by_mode true c e g k = absurd (false≢true (sym e))
      by_mode false true e g k = absurd (false≢true (sym g))

      from : (b : Bool) → in_code plan (address i s) ≡ b → cond b true (in_spans plan.«data» (address i s)) ≡ true → (in_code plan (address i s) ≡ true) ⊎ Covers plan.«data» (address i s)
      from true e k = inl e
      from false e k = inr (covers_from plan.«data» (address i s) k)

  pub input_tidy : (v : Values T) → MeetsValues d v (env cells (numbers_of s)) → c3 d plan (instruction_of i) v ≡ true → has_address i ≡ true → is_input i ≡ true → Covers plan.inputs (address i s)
  unfolding operand_of operand_lawful
  input_tidy v m h a j =
      let p = and_parts (not (i.m == 0)) (not (is_shift i)) a in
      covers_from plan.inputs (address i s) (place_tidy v (λ n. in_spans plan.inputs n) m (by_mode (i.m == 0) (is_input i) (not-true (i.m == 0) p.0) j (operand_allowed v (no_output i j) (no_store i j) (not-true (is_shift i) p.1) h)))
    where
      no_output : (i : Fields) → is_input i ≡ true → is_output i ≡ false
      no_output i h = grind (arith, nat_tests)

      no_store : (i : Fields) → is_input i ≡ true → is_store i ≡ false
      no_store i h = grind (arith, nat_tests)

      by_mode : (b c : Bool) → b ≡ false → c ≡ true → operand_lawful d plan v (if b then Literal i.field else if c then Peripheral (place_of i) else Memory (place_of i)) ≡ true → each_address d (place_of i) v (λ n. in_spans plan.inputs n) ≡ true
      by_mode false true e g k = k
      by_mode true c e g k = absurd (false≢true (sym e))
      by_mode false false e g k = absurd (false≢true g)

  -- a word that is given out lies in the range of its address
  pub given_tidy : (spans : List Span) (v : Values T) → s.p < 2 ^ 20 → ((n : ℕ) (r : NumberRange) → range_at spans n ≡ Some r → IsNormal r) → MeetsValues d v (env cells (numbers_of s)) → each_allows d spans (place_of i) v (source_value d s.p v (source_of i.r)) ≡ true → Allows spans (address i s) (signed_value (register s i.r))
  given_tidy spans v at normal m h =
      let k = is_there (lawful (place_number (place_of i) (numbers_of s).regs)) (λ n. IsSomeAnd (range_at spans n) (λ r. InRangeOf r (source_number (numbers_of s) (source_of i.r)))) (allowed_tidy d laws spans (place_of i) v (numbers_of s) cells (source_of i.r) at (λ n r e. spaced r (normal n r e)) m h) in
      let q = is_there (range_at spans k.value) (λ r. InRangeOf r (source_number (numbers_of s) (source_of i.r))) k.holds in
      let in_it = range_in q.value (source_number (numbers_of s) (source_of i.r)) (normal k.value q.value q.is) q.holds in
      subst (λ (n : ℕ). Allows spans n (signed_value (register s i.r))) (sym (place_is i s k.value words fields k.is).0)
      (allows_from spans k.value q.value (signed_value (register s i.r)) q.is (subst (IsIn q.value) (source_is s i.r words fields.r) in_it))

  abbrev OutputAllowed : Values T → Fields → Instruction → Type 0
  OutputAllowed v j instruction = is_output j ≡ true → c7 d plan s.p instruction v ≡ true → each_allows d plan.outputs (place_of j) v (source_value d s.p v (source_of j.r)) ≡ true

  pub output_allowed : (v : Values T) → OutputAllowed v i (instruction_of i)
  unfolding c7
  output_allowed v = each_kind (OutputAllowed v) i fields (record {
    compare = λ e o k. absurd (no_compare i e o);
    assign = λ r e o k. absurd (no_function i e.function o);
    jump = λ side e o k. absurd (no_function i e.function o);
    output = λ e o k. k;
    store = λ e o k. absurd (no_both i e o);
  })
    where
      no_compare : (i : Fields) → i.c ≡ true → is_output i ≡ true → ⊥
      no_compare i e o = grind (arith, nat_tests)

      no_function : (i : Fields) → is_function i ≡ true → is_output i ≡ true → ⊥
      no_function i e o = grind (arith, nat_tests)

      no_both : (i : Fields) → is_store i ≡ true → is_output i ≡ true → ⊥
      no_both i e o = grind (arith, nat_tests)

  abbrev StoreGoes : Values T → Fields → Instruction → Type 0
  StoreGoes v j instruction = is_store j ≡ true → c6 d plan s.p instruction v ≡ true → each_allows d plan.«data» (place_of j) v (source_value d s.p v (source_of j.r)) ≡ true

  pub store_goes : (v : Values T) → StoreGoes v i (instruction_of i)
  unfolding c6
  store_goes v = each_kind (StoreGoes v) i fields (record {
    compare = λ e o k. absurd (no_compare i e o);
    assign = λ r e o k. absurd (no_function i e.function o);
    jump = λ side e o k. absurd (no_function i e.function o);
    output = λ e o k. absurd (no_both i e o);
    store = λ e o k. k;
  })
    where
      no_compare : (i : Fields) → i.c ≡ true → is_store i ≡ true → ⊥
      no_compare i e o = grind (arith, nat_tests)

      no_function : (i : Fields) → is_function i ≡ true → is_store i ≡ true → ⊥
      no_function i e o = grind (arith, nat_tests)

      no_both : (i : Fields) → is_output i ≡ true → is_store i ≡ true → ⊥
      no_both i e o = grind (arith, nat_tests)
