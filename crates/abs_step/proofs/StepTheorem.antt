-- The step from a state that meets a fact where no condition fails, and the start.
use Rattle.std.specs.Prelude.{◌≡◌, ℕ, ◌+◌, ◌-◌, ◌^◌, ◌<◌, ◌==◌, Bool, true, false, not, ◌&&◌, ◌||◌, cond, nat_eq, nat_le, List, [], ◌∷◌, slice_index, Option, Some, None, IfSome, IsSomeAnd, if◌then◌else◌}
use Rattle.std.specs.List.{list_any}
use Rattle.std.proofs.Common.{refl, arith, sym, subst, ◌∙◌, ap}
use Rattle.std.proofs.lemmas.Bool.{and_parts, and_from, false≢true, not-true, or_from}
use Rattle.std.proofs.lemmas.Bool.Decides.{nat_tests}
use Rattle.std.proofs.lemmas.Option.{same_Some}
use Rattle.viper_word.specs.Words.{signed_value}
use Rattle.viper_word.specs.Fields.{Fields, AreFields, fields_of, is_illegal, is_output, is_store, has_address, is_input, may_jump}
use Rattle.viper_word.specs.Machine.{State, current, address, is_lawful, is_skipped, next, is_performed, wants, operand_address, store_address, output_address}
use Rattle.viper_word.specs.Ranges.{NumberRange, IsIn}
use Rattle.viper_word.proofs.RangeLemmas.{in_range}
use Rattle.viper_word.specs.Options.{bind}
use Rattle.viper_decode.specs.Instructions.{source_of, place_of, operand_of, function_of, shift_of, work_of, instruction_of}
use Rattle.viper_decode.specs.declared.instructions.Operand.TheVariants.{Literal, Memory, Peripheral}
use Rattle.viper_decode.specs.declared.instructions.Work.TheVariants.{Apply, Move}
use Rattle.viper_decode.specs.declared.instructions.Side.{Side}
use Rattle.viper_decode.specs.declared.instructions.Side.TheVariants.{Always, IfB, IfNotB}
use Rattle.viper_decode.specs.declared.instructions.Instruction.{Instruction}
use Rattle.viper_decode.specs.declared.instructions.Instruction.TheVariants.{Jump}
use Rattle.memory_plan.specs.Ranges.{Span, Covers}
use Rattle.memory_plan.specs.Plans.{PlanLines, code_word, range_at}
use Rattle.memory_plan.specs.Runs.{IsTidy}
use Rattle.memory_plan.specs.Runs as runs
use Rattle.memory_plan.specs.WellFormed.{IsWellFormed}
use Rattle.num_domain.specs.Domain.{Domain}
use Rattle.num_domain.specs.Laws.{DomainLaws}
use Rattle.flag_relation.specs.Facts.{FactOf, values, Meets}
use Rattle.abs_step.specs.declared.outcome.Cond.{Cond}
use Rattle.abs_step.specs.declared.outcome.Cond.TheVariants.{C3, C6, C7}
use Rattle.abs_step.specs.Outcomes.{taken_side}
use Rattle.abs_step.specs.Conditions.{c3, c6, c7, side_keeps, if_there, instruction_keeps, word_fields, if_legal, instruction_at, is_some, keeps, fault, outcomes}
use Rattle.abs_step.proofs.Performing.{numbers_of, env, lawful, place_number, is_taken, perform, IsPlanOf, IsFair, InRangeOf, SomeCovers}
use Rattle.abs_step.specs.Addresses.{is_tracked}
use Rattle.abs_step.specs.States.{IsKept, MeetsFact}
use Rattle.abs_step.specs.StepLaws.{Ascend, StepCovered}
use Rattle.abs_step.proofs.ResultCover.{IsOperand, IsWork, IsFairWork}
use Rattle.abs_step.proofs.StoreCover.{Distinct}
use Rattle.abs_step.proofs.StepCover.{live_met}
use Rattle.abs_step.proofs.Cover.{IsInstruction, IsFairStep, live_side, side_kept}
use Rattle.abs_step.proofs.CoverAt.{at_instruction, cover}
use Rattle.abs_step.proofs.FaultLaws.{AllKeep, no_fault_keeps}
use Rattle.abs_step.proofs.MachineReads.{place_is, lawful_test}
use Rattle.abs_step.proofs.MachineSteps.{GoesOn, legal_is, executed_is}
use Rattle.abs_step.proofs.PlanFacts.{PlanFacts, plan_facts}
use Rattle.abs_step.proofs.StateCover.{IsThere, is_there, kept_numbers, kept_state, next_is, some_outcome, StoreAllowed, perform_keeps}
use Rattle.abs_step.proofs.KindCases.{each_kind, fields_are}
use Rattle.abs_step.proofs.TidyCover.{touched, memory_tidy, input_tidy, given_tidy, output_allowed, store_goes, covers_from}

none_some : {A : Type 0} (x : A) → None ≡ Some x → ⊥
none_some x h = cc

-- ---- the word at the address

pub record WordAt (plan : PlanLines) (at : ℕ) : Type 0 where
  pub word : ℕ
  pub code : code_word plan at ≡ Some word
  pub last : nat_eq at (2 ^ 20 - 1) ≡ false
  pub legal : is_illegal (fields_of word) ≡ false
  pub instruction : instruction_at plan at ≡ Some (instruction_of (fields_of word))

word_found : (plan : PlanLines) (at : ℕ) → is_some (word_fields plan at) ≡ true → (c2 : (i : Fields) → word_fields plan at ≡ Some i → is_illegal i ≡ false) → WordAt plan at
word_found plan at h c2 = by_last (nat_eq at (2 ^ 20 - 1)) refl (code_word plan at) refl
  where
    fields : Bool → Option ℕ → Option Fields
    fields b o = cond b None (bind o (λ w. Some (fields_of w)))

    by_last : (b : Bool) → nat_eq at (2 ^ 20 - 1) ≡ b → (o : Option ℕ) → code_word plan at ≡ o → WordAt plan at
    by_last true e o k = absurd (false≢true (subst (λ (b : Bool). is_some (fields b (code_word plan at)) ≡ true) e h))
    by_last false e None k = absurd (false≢true (subst (λ (o : Option ℕ). is_some (fields false o) ≡ true) k (subst (λ (b : Bool). is_some (fields b (code_word plan at)) ≡ true) e h)))
    by_last false e (Some w) k =
        let is : word_fields plan at ≡ Some (fields_of w) = subst (λ (b : Bool). fields b (code_word plan at) ≡ Some (fields_of w)) (sym e) (ap (fields false) k) in
        let legal = c2 (fields_of w) is in
        record {
          word = w;
          code = k;
          last = e;
          legal = legal;
          instruction = subst (λ (o : Option Fields). bind (bind o if_legal) (λ i. Some (instruction_of i)) ≡ Some (instruction_of (fields_of w))) (sym is)
              (subst (λ (b : Bool). bind (cond b None (Some (fields_of w))) (λ i. Some (instruction_of i)) ≡ Some (instruction_of (fields_of w))) (sym legal) refl);
        }

-- ---- operands and answers

module _ {T : Type 0} (d : Domain T) (laws : DomainLaws d) where
  operand_small : (i : Fields) → AreFields i → IsOperand d laws (operand_of i)
  unfolding operand_of
  operand_small i f = by_mode (i.m == 0) (is_input i)
    where
      by_mode : (b c : Bool) → IsOperand d laws (if b then Literal i.field else if c then Peripheral (place_of i) else Memory (place_of i))
      by_mode true c = f.field
      by_mode false true = tt
      by_mode false false = tt

  work_small : (i : Fields) → AreFields i → IsWork d laws (work_of i)
  unfolding work_of
  work_small i f = by_shift (i.f == 12)
    where
      by_shift : (b : Bool) → IsWork d laws (if b then Move (shift_of i.m) (source_of i.r) else Apply (function_of i.f) (source_of i.r) (operand_of i))
      by_shift true = tt
      by_shift false = operand_small i f

  abbrev InstructionOf : Fields → Instruction → Type 0
  InstructionOf i instruction = IsInstruction d laws instruction

  pub instruction_small : (i : Fields) → AreFields i → IsInstruction d laws (instruction_of i)
  instruction_small i f = each_kind InstructionOf i f (record {
    compare = λ e. operand_small i f;
    assign = λ r e. work_small i f;
    jump = λ side e. work_small i f;
    output = λ e. tt;
    store = λ e. tt;
  })

  module _ (plan : PlanLines) (s : State) (answer : ℕ) where
    -- the answer is in the range of the place's address, where INP asks
    abbrev pub FairInput : Fields → Type 0
    FairInput i = is_input i ≡ true → (n : ℕ) (r : NumberRange) → lawful (place_number (place_of i) (numbers_of s).regs) ≡ Some n → range_at plan.inputs n ≡ Some r → InRangeOf r (signed_value answer)

    operand_fair : (i : Fields) → FairInput i → IsFair plan (signed_value answer) (numbers_of s) (operand_of i)
    unfolding operand_of
    operand_fair i h = by_mode (i.m == 0) (is_input i) refl
      where
        by_mode : (b c : Bool) → is_input i ≡ c → IsFair plan (signed_value answer) (numbers_of s) (if b then Literal i.field else if c then Peripheral (place_of i) else Memory (place_of i))
        by_mode true c e = tt
        by_mode false true e = h e
        by_mode false false e = tt

    work_fair : (i : Fields) → FairInput i → IsFairWork d laws plan (signed_value answer) (numbers_of s) (work_of i)
    unfolding work_of
    work_fair i h = by_shift (i.f == 12)
      where
        by_shift : (b : Bool) → IsFairWork d laws plan (signed_value answer) (numbers_of s) (if b then Move (shift_of i.m) (source_of i.r) else Apply (function_of i.f) (source_of i.r) (operand_of i))
        by_shift true = tt
        by_shift false = operand_fair i h

    abbrev FairStep : Fields → Instruction → Type 0
    FairStep i instruction = IsFairStep d laws plan (signed_value answer) (numbers_of s) instruction

    no_input : (i : Fields) → i.c ≡ true → is_input i ≡ true → ⊥
    no_input i e h = grind (arith, nat_tests)

    jump_no_input : (i : Fields) → may_jump i.f ≡ true → is_input i ≡ true → ⊥
    jump_no_input i e h = grind (arith, nat_tests)

    pub step_fair : (i : Fields) → AreFields i → is_illegal i ≡ false → (is_skipped i s.b ≡ false → FairInput i) → IsFairStep d laws plan (signed_value answer) (numbers_of s) (instruction_of i)
    step_fair i f legal h = each_kind FairStep i f (record {
      compare = λ e. operand_fair i (λ j. absurd (no_input i e j));
      assign = λ r e. work_fair i (h (e.unskipped s.b));
      jump = λ side e. work_fair i (λ j. absurd (jump_no_input i ((legal_is i legal).jump e.jump) j));
      output = λ e. tt;
      store = λ e. tt;
    })

-- ---- the premises

range_covers : (ss : List Span) (n : ℕ) (r : NumberRange) → range_at ss n ≡ Some r → Covers ss n
range_covers ss n r h = covers_from ss n (in_them ss h)
  where
    in_them : (ss : List Span) → range_at ss n ≡ Some r → list_any (λ s. nat_le s.0 n && nat_le n s.1) ss ≡ true
    in_them [] h = absurd (cc)
    in_them (s ∷ ss) h = by_test (nat_le s.0 n && nat_le n s.1) h (λ e. in_them ss e)
      where
        by_test : (b : Bool) → (if b then Some s.2 else range_at ss n) ≡ Some r → (range_at ss n ≡ Some r → list_any (λ s. nat_le s.0 n && nat_le n s.1) ss ≡ true) → (b || list_any (λ s. nat_le s.0 n && nat_le n s.1) ss) ≡ true
        by_test true e k = refl
        by_test false e k = k e

-- cells that ascend are distinct
pub distinct : (cells : List ℕ) → Ascend cells → Distinct cells
distinct [] h = tt
distinct (c ∷ cs) h = (untracked c cs h, distinct cs (tail c cs h))
  where
    tail : (c : ℕ) (cs : List ℕ) → Ascend (c ∷ cs) → Ascend cs
    tail c [] h = tt
    tail c (c' ∷ cs) h = h.1

    differ : (c b : ℕ) → b < c → nat_eq c b ≡ false
    differ c b l = grind (arith, nat_tests)

    above : (c : ℕ) (cs : List ℕ) → Ascend (c ∷ cs) → (b : ℕ) → b < c → is_tracked cs b ≡ false
    above c [] h b l = refl
    above c (c' ∷ cs) h b l = or_from (nat_eq c' b) (is_tracked cs b) (differ c' b (below b c c' l h.0)) (above c' cs h.1 b (below b c c' l h.0))
      where
        below : (b c c' : ℕ) → b < c → c < c' → b < c'
        below b c c' l m = omega arith

    untracked : (c : ℕ) (cs : List ℕ) → Ascend (c ∷ cs) → is_tracked cs c ≡ false
    untracked c [] h = refl
    untracked c (c' ∷ cs) h = or_from (nat_eq c' c) (is_tracked cs c) (differ c' c h.0) (above c' cs h.1 c h.0)

module _ {T : Type 0} (d : Domain T) (laws : DomainLaws d) (plan : PlanLines) (cells : List ℕ) where
  plan_of : PlanFacts plan → IsPlanOf plan
  plan_of h = record { words = h.words; «data» = h.data_ranges; inputs = h.input_ranges }

  if_there_is : (o : Option Fields) (p : Fields → Bool) (i : Fields) → o ≡ Some i → if_there d o p ≡ true → p i ≡ true
  if_there_is o p i e h = subst (λ (q : Option Fields). if_there d q p ≡ true) e h

  found : (at : ℕ) (f : FactOf T) → AllKeep d plan cells at f → WordAt plan at
  unfolding keeps
  found at f k = word_found plan at k.c1 (λ i e. not-true (is_illegal i) (if_there_is (word_fields plan at) (λ i. not (is_illegal i)) i e k.c2))

  module _ (facts : PlanFacts plan) (apart : Distinct cells) (f : FactOf T) (s : State) (answer : ℕ) (kept : IsKept plan s) (m : Meets d f (env cells (numbers_of s)) s.b) (fair : runs.IsFair plan s answer) (k : AllKeep d plan cells s.p f) (faultless : fault d plan cells s.p f ≡ None) where
    at : WordAt plan s.p
    at = found s.p f k

    abbrev i : Fields
    i = current s

    is_word : fields_of at.word ≡ i
    is_word = ap fields_of (sym (kept.code s.p at.word at.code))

    fields : AreFields i
    fields = fields_are (slice_index s.memory s.p) (kept.words.memory s.p)

    legal : is_illegal i ≡ false
    legal = subst (λ (j : Fields). is_illegal j ≡ false) is_word at.legal

    instruction : instruction_at plan s.p ≡ Some (instruction_of i)
    instruction = subst (λ (j : Fields). instruction_at plan s.p ≡ Some (instruction_of j)) is_word at.instruction

    last : (s.p == 2 ^ 20 - 1) ≡ false
    last = at.last

    next_p : s.p + 1 < 2 ^ 20
    next_p = below s.p kept.words.p at.last
      where
        below : (p : ℕ) → p < 2 ^ 20 → nat_eq p (2 ^ 20 - 1) ≡ false → p + 1 < 2 ^ 20
        below p h e = grind (arith, nat_tests)

    performed : is_skipped i s.b ≡ false → is_performed s ≡ true
    unfolding is_performed
    performed e = and_from (not s.stop) _ (ap not kept.running) (and_from (not (s.p == 2 ^ 20 - 1)) _ (ap not last) (and_from (not (is_illegal i)) (not (is_skipped i s.b)) (ap not legal) (ap not e)))

    -- the answer that INP gets is in its address's range
    fair_input : is_skipped i s.b ≡ false → FairInput d laws plan s answer i
    unfolding wants
    fair_input e j n r l q =
        let p = place_is i s n kept.words fields l in
        let lawful_is : is_lawful (address i s) ≡ true = lawful_test (address i s) n p in
        let a : (has_address i && (is_input i && is_lawful (address i s))) ≡ true = and_from (has_address i) _ (addressed i j) (and_from (is_input i) _ j lawful_is) in
        let w : wants s ≡ Some n = subst (λ (b : Bool). (if b then Some (address i s) else None) ≡ Some n) (sym (and_from (is_performed s) _ (performed e) a)) (ap Some p.0) in
        let v = fair.declared n w (range_covers plan.inputs n r q) in
        let same : v.span.2 ≡ r = same_Some v.span.2 r (sym (facts.inputs_once n v.span v.listed v.low v.high) ∙ q) in
        in_range r (signed_value answer) (facts.input_normal n r q) (subst (λ (x : NumberRange). IsIn x (signed_value answer)) same v.value)
      where
        addressed : (i : Fields) → is_input i ≡ true → has_address i ≡ true
        addressed i h = grind (arith, nat_tests)

    -- the numbers after the step
    moved : IsThere (perform plan.profile (instruction_of i) (signed_value answer) (numbers_of s)) (λ t. SomeCovers d cells (numbers_of s) t (outcomes d plan cells s.p f))
    moved =
        is_there _ _ (cover d laws plan cells (instruction_of i) f (numbers_of s) (signed_value answer) kept.words.p (plan_of facts) (kept_numbers plan s facts kept) apart instruction (instruction_small d laws i fields)
        (step_fair d laws plan s answer i fields legal fair_input) m faultless)

    goes : GoesOn s (next plan.profile s answer) moved.value
    goes = next_is plan.profile s answer (λ u. GoesOn s u moved.value) kept.running last (executed_is plan.profile s answer kept.words next_p fair.word i moved.value fields legal moved.is)

    -- the side that is taken, with its conditions
    abbrev TakenSide : Fields → Instruction → Type 0
    TakenSide j w = is_skipped j s.b ≡ false → IsSomeAnd (taken_side d w f) (λ g. Meets d g (env cells (numbers_of s)) s.b)

    taken : TakenSide i (instruction_of i)
    unfolding taken_side
    taken = each_kind TakenSide i fields (record {
      compare = λ e h. m;
      assign = λ r e h. m;
      jump = λ side e h. by_side side (e.skipped s.b h);
      output = λ e h. m;
      store = λ e h. m;
    })
      where
        by_side : (side : Side) → is_taken side s.b ≡ true → IsSomeAnd (taken_side d (Jump side (work_of i)) f) (λ g. Meets d g (env cells (numbers_of s)) s.b)
        by_side Always h = m
        by_side IfB h = live_side d laws f cells (numbers_of s) true h m
        by_side IfNotB h = live_side d laws f cells (numbers_of s) false (not-true s.b h) m

    of_instruction : (c : Cond) → if_there d (instruction_at plan s.p) (λ w. instruction_keeps d plan cells s.p w c f) ≡ true → IfSome (taken_side d (instruction_of i) f) (λ g. side_keeps d plan cells s.p (instruction_of i) c g ≡ true)
    of_instruction c h = side_kept d laws plan cells s.p (instruction_of i) c f (live_met d laws f (env cells (numbers_of s)) s.b m) (at_instruction d laws plan cells (instruction_at plan s.p) (instruction_of i) (λ w. instruction_keeps d plan cells s.p w c f) instruction h)

    pub record TakenFact (g : FactOf T) : Type 0 where
      pub meets : Meets d g (env cells (numbers_of s)) s.b
      pub c3 : c3 d plan (instruction_of i) (values g) ≡ true
      pub c6 : c6 d plan s.p (instruction_of i) (values g) ≡ true
      pub c7 : c7 d plan s.p (instruction_of i) (values g) ≡ true

    the_side : is_skipped i s.b ≡ false → IsThere (taken_side d (instruction_of i) f) TakenFact
    unfolding keeps side_keeps
    the_side e =
        let t = is_there (taken_side d (instruction_of i) f) (λ g. Meets d g (env cells (numbers_of s)) s.b) (taken e) in
        let of = λ (P : FactOf T → Type 0) (h : IfSome (taken_side d (instruction_of i) f) P). subst (λ (o : Option (FactOf T)). IfSome o P) t.is h in
        record {
          value = t.value;
          is = t.is;
          holds = record {
            meets = t.holds;
            c3 = of (λ g. c3 d plan (instruction_of i) (values g) ≡ true) (of_instruction C3 k.c3);
            c6 = of (λ g. c6 d plan s.p (instruction_of i) (values g) ≡ true) (of_instruction C6 k.c6);
            c7 = of (λ g. c7 d plan s.p (instruction_of i) (values g) ≡ true) (of_instruction C7 k.c7);
          };
        }

    tidy : IsTidy plan s answer
    unfolding wants operand_address store_address output_address
    tidy = record {
      running = goes.stop ∙ kept.running;
      operand = touched (λ j. not (is_input j) && (not (is_output j) && not (is_store j))) s _ (λ h.
          let g = the_side h.unskipped in
          let p = and_parts (not (is_input i)) (not (is_output i) && not (is_store i)) h.such_is in
          let q = and_parts (not (is_output i)) (not (is_store i)) p.1 in
          memory_tidy d laws plan cells s answer kept.words i fields (values g.value) g.holds.meets.values g.holds.c3 h.addressed (not-true (is_input i) p.0) (not-true (is_output i) q.0) (not-true (is_store i) q.1));
      input = touched is_input s _ (λ h. let g = the_side h.unskipped in input_tidy d laws plan cells s answer kept.words i fields (values g.value) g.holds.meets.values g.holds.c3 h.addressed h.such_is);
      store = touched is_store s _ (λ h.
          let g = the_side h.unskipped in
          given_tidy d laws plan cells s answer kept.words i fields plan.«data» (values g.value) kept.words.p facts.data_normal g.holds.meets.values (store_goes d laws plan cells s answer kept.words i fields (values g.value) h.such_is g.holds.c6));
      output = touched is_output s _ (λ h.
          let g = the_side h.unskipped in
          given_tidy d laws plan cells s answer kept.words i fields plan.outputs (values g.value) kept.words.p facts.output_normal g.holds.meets.values (output_allowed d laws plan cells s answer kept.words i fields (values g.value) h.such_is g.holds.c7));
    }

    -- what is stored is in its range
    abbrev Stores : Fields → Instruction → Type 0
    Stores j w = IfSome (taken_side d w f) (λ g. side_keeps d plan cells s.p w C6 g ≡ true) → StoreAllowed d laws plan cells w (values f) s.p

    stores : Stores i (instruction_of i)
    unfolding taken_side side_keeps c6
    stores = each_kind Stores i fields (record {
      compare = λ e h. tt;
      assign = λ r e h. tt;
      jump = λ side e h. tt;
      output = λ e h. tt;
      store = λ e h. h;
    })

    step_covered : StepCovered d plan cells f s answer
    unfolding keeps
    step_covered = record {
      tidy = tidy;
      kept = kept_state plan s (next plan.profile s answer) moved.value facts kept.running goes (perform_keeps d laws plan cells facts (instruction_of i) (values f) (numbers_of s) (signed_value answer) moved.value kept.words.p (kept_numbers plan s facts kept) m.values (stores (of_instruction C6 k.c6)) moved.is);
      outcome = some_outcome d plan cells s (next plan.profile s answer) moved.value (outcomes d plan cells s.p f) goes.numbers moved.holds;
    }

  pub step_is_covered : IsWellFormed plan → Ascend cells → (f : FactOf T) (s : State) (answer : ℕ) → MeetsFact d plan cells f s → runs.IsFair plan s answer → fault d plan cells s.p f ≡ None → StepCovered d plan cells f s answer
  step_is_covered w a f s answer h fair faultless = step_covered (plan_facts plan w) (distinct cells a) f s answer h.kept h.meets fair (no_fault_keeps d plan cells s.p f faultless) faultless
