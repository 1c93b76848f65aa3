-- Cover: a step of the machine from a state that meets a fact.
use Rattle.std.specs.Prelude.{◌≡◌, ℕ, ◌+◌, ◌-◌, ◌^◌, ◌<◌, ◌==◌, ℤ, pos, ◌≤ℤ◌, Bool, true, false, cond, List, [], ◌∷◌, map, slice_index, Option, Some, None, IsSomeAnd, Result, Ok, Err, IsOkAnd, if◌then◌else◌, ◌⊎◌}
use Rattle.std.proofs.Common.{refl, arith, sym, subst, ◌∙◌, ap, inl, inr}
use Rattle.std.proofs.Math.Path.{ap₂}
use Rattle.std.proofs.lemmas.Int.{ints}
use Rattle.std.proofs.lemmas.Bool.{false≢true}
use Rattle.viper_word.specs.Words.{IsWord, signed_value}
use Rattle.viper_word.specs.Machine.{State, current, executed, step, ended, next}
use Rattle.viper_word.specs.Ranges.{NumberRange, OnStep, IsIn, IsSingle, IsSeveral, IsNormal}
use Rattle.viper_word.proofs.RangeLemmas.{in_range, range_in}
use Rattle.viper_word.proofs.Steps.{steps_between}
use Rattle.viper_word.specs.Options.{bind}
use Rattle.memory_plan.specs.Plans.{PlanLines, in_code, code_word, word_at}
use Rattle.flag_relation.specs.Values.{Values, Regs, set_reg}
use Rattle.flag_relation.specs.Facts.{Meets, MeetsValues}
use Rattle.num_domain.specs.Domain.{Domain}
use Rattle.num_domain.specs.Laws.{DomainLaws}
use Rattle.std.specs.Ordering.{int_eq}
use Rattle.std.proofs.lemmas.Option.{same_Some}
use Rattle.viper_word.specs.declared.profile.Profile.{Profile}
use Rattle.viper_word.specs.declared.cause.Cause.{Cause}
use Rattle.viper_word.specs.declared.cause.Cause.TheVariants.{End}
use Rattle.viper_word.specs.declared.reg.Reg.TheVariants.{Y}
use Rattle.viper_decode.specs.declared.instructions.Instruction.{Instruction}
use Rattle.viper_decode.specs.declared.instructions.Instruction.TheVariants.{Compare, Assign, Jump, Output, Store}
use Rattle.abs_step.specs.Addresses.{passes_at}
use Rattle.abs_step.specs.Results.{is_call, source_value}
use Rattle.abs_step.specs.OutcomeLists.{OutcomeOf}
use Rattle.abs_step.specs.Conditions.{in_range as is_in_range, each_allows}
use Rattle.abs_step.specs.Posts.{PostsHold}
use Rattle.abs_step.proofs.Performing.{Numbers, numbers_of, env, lawful, place_number, source_number, operand_number, result_number, is_taken, at_next, perform, IsKeptBy, SomeCovers}
use Rattle.abs_step.proofs.ResultCover.{PlaceIs, place_has, source_has}
use Rattle.abs_step.proofs.KeptLaws.{IsSpaced, store_keeps}
use Rattle.abs_step.specs.States.{IsKept, SomeOutcome}
use Rattle.abs_step.proofs.MachineReads.{Represents}
use Rattle.abs_step.proofs.MachineSteps.{GoesOn}
use Rattle.abs_step.proofs.PlanFacts.{PlanFacts}
use Rattle.viper_word.proofs.Integers.{true_eq}
use Rattle.abs_step.proofs.FunctionSteps.{signed_in_w}
use Rattle.viper_word.proofs.Options.{bind_was}

-- ---- kept, in words and in signed numbers

code_word_is : (plan : PlanLines) (n w : ℕ) → in_code plan n ≡ true → word_at plan.image n ≡ Some w → code_word plan n ≡ Some w
code_word_is plan n w c e = subst (λ (b : Bool). (if b then word_at plan.image n else None) ≡ Some w) (sym c) e

pub kept_numbers : (plan : PlanLines) (s : State) → PlanFacts plan → IsKept plan s → IsKeptBy plan (numbers_of s).mem
kept_numbers plan s f h = record {
  signed = λ n. signed_in_w (slice_index s.memory n) (h.words.memory n);
  code = λ n w c e. let k = h.code n w (code_word_is plan n w c e) in (ap signed_value k, subst IsWord k (h.words.memory n));
  ranges = λ n r e. in_range r (signed_value (slice_index s.memory n)) (f.data_normal n r e) (h.ranges n r e);
}

pub in_code_of : (plan : PlanLines) (n w : ℕ) → code_word plan n ≡ Some w → (in_code plan n ≡ true) × (word_at plan.image n ≡ Some w)
in_code_of plan n w h = by_test (in_code plan n) refl h
  where
    by_test : (b : Bool) → in_code plan n ≡ b → (if b then word_at plan.image n else None) ≡ Some w → (in_code plan n ≡ true) × (word_at plan.image n ≡ Some w)
    by_test true e k = (e, k)
    by_test false e k = absurd (cc)

-- a word is known by its signed value
same_word : (v w : ℕ) → IsWord v → IsWord w → signed_value v ≡ signed_value w → v ≡ w
same_word v w h k e = grind (arith, ints)

pub kept_state : (plan : PlanLines) (s u : State) (t : Numbers) → PlanFacts plan → s.stop ≡ false → GoesOn s u t → IsKeptBy plan t.mem → IsKept plan u
kept_state plan s u t f running g h = record {
  words = g.state;
  running = g.stop ∙ running;
  code = λ n w e. let c = in_code_of plan n w e in let k = h.code n w c.0 c.1 in same_word (slice_index u.memory n) w (g.state.memory n) k.1 (g.numbers.mem n ∙ k.0);
  ranges = λ n r e. subst (IsIn r) (sym (g.numbers.mem n)) (range_in r (t.mem n) (f.data_normal n r e) (h.ranges n r e));
}

-- ---- numbers and states

pub record IsThere {A : Type 0} (o : Option A) (P : A → Type 0) : Type 0 where
  pub value : A
  pub is : o ≡ Some value
  pub holds : P value

pub is_there : {A : Type 0} (o : Option A) (P : A → Type 0) → IsSomeAnd o P → IsThere o P
is_there None P h = absurd h
is_there (Some x) P h = record { value = x; is = refl; holds = h }

-- the numbers of a state that goes on
pub env_same : (cells : List ℕ) (u : State) (t : Numbers) → Represents u t → env cells t ≡ env cells (numbers_of u)
env_same cells u t h =
    ap₂ (λ (r : Regs ℤ) (c : List ℤ). record { regs = r; cells = c })
    (ap (λ (z : ℤ). record { a = z; x = t.regs.x; y = t.regs.y }) (sym h.a)
    ∙ ap (λ (z : ℤ). record { a = signed_value u.a; x = z; y = t.regs.y }) (sym h.x)
    ∙ ap (λ (z : ℤ). record { a = signed_value u.a; x = signed_value u.x; y = z }) (sym h.y))
    (cells_same cells)
  where
    cells_same : (cells : List ℕ) → map t.mem cells ≡ map (numbers_of u).mem cells
    cells_same [] = refl
    cells_same (c ∷ cs) = ap₂ (λ (z : ℤ) (zs : List ℤ). z ∷ zs) (sym (h.mem c)) (cells_same cs)

ended_is : (o : Result State Cause) (s : State) (P : State → Type 0) → IsOkAnd o P → P (ended s o)
ended_is (Ok u) s P h = h
ended_is (Err c) s P h = absurd h

-- what the instruction comes to is the next state
pub next_is : (pr : Profile) (s : State) (answer : ℕ) (P : State → Type 0) → s.stop ≡ false → (s.p == 2 ^ 20 - 1) ≡ false → IsOkAnd (executed pr (current s) s answer) P → P (next pr s answer)
unfolding next step
next_is pr s answer P e f h =
    subst (λ (b : Bool). P (if b then s else ended s (if s.p == 2 ^ 20 - 1 then Err End else executed pr (current s) s answer))) (sym e)
    (subst (λ (b : Bool). P (ended s (if b then Err End else executed pr (current s) s answer))) (sym f) (ended_is (executed pr (current s) s answer) s P h))

module _ {T : Type 0} (d : Domain T) (plan : PlanLines) (cells : List ℕ) where
  -- the outcome of the numbers is the outcome of the states
  pub some_outcome : (s u : State) (t : Numbers) (os : List (OutcomeOf T)) → Represents u t → SomeCovers d cells (numbers_of s) t os → SomeOutcome d plan cells s u os
  some_outcome s u t [] h k = k
  some_outcome s u t (o ∷ os) h (inl k) = inl (record {
    target = k.target ∙ sym h.p;
    before = k.pre;
    after = subst (λ (e : Values ℤ). Meets d o.after e u.b) (env_same cells u t h) (subst (λ (b : Bool). Meets d o.after (env cells t) b) (sym h.b) k.after);
    posts = subst (λ (e : Values ℤ). PostsHold o.posts (env cells (numbers_of s)) e) (env_same cells u t h) k.posts;
  })
  some_outcome s u t (o ∷ os) h (inr k) = inr (some_outcome s u t os h k)

-- ---- an instruction keeps the plan's memory

pub spaced : (r : NumberRange) → IsNormal r → IsSpaced r
spaced r n = record { several = λ e. modulus_of n.form e; from_low = λ z h. from n.form z h }
  where
    modulus_of : IsSingle r ⊎ IsSeveral r → int_eq r.lo r.hi ≡ false → pos 1 ≤ℤ r.modulus
    modulus_of (inl one) e = absurd (false≢true (sym e ∙ true_eq r.lo r.hi one.ends))
    modulus_of (inr many) e = many.modulus

    from : IsSingle r ⊎ IsSeveral r → (z : ℤ) → OnStep r.modulus r.residue z → OnStep r.modulus r.lo z
    from (inl one) z h = subst (λ (t : ℤ). OnStep r.modulus t z) one.residue h
    from (inr many) z h = steps_between r.modulus r.residue r.lo z many.from h

module _ {T : Type 0} (d : Domain T) (laws : DomainLaws d) (plan : PlanLines) (cells : List ℕ) where
  -- what C6 asks of a store's value
  abbrev pub StoreAllowed : Instruction → Values T → ℕ → Type 0
  StoreAllowed (Compare joined k l o) v at = Unit {0}
  StoreAllowed (Assign r w) v at = Unit {0}
  StoreAllowed (Jump side w) v at = Unit {0}
  StoreAllowed (Output l p) v at = Unit {0}
  StoreAllowed (Store l p) v at = each_allows d plan.«data» p v (source_value d at v l) ≡ true

  pub perform_keeps : (facts : PlanFacts plan) (instruction : Instruction) (v : Values T) (s : Numbers) (answer : ℤ) (t : Numbers) → s.p < 2 ^ 20 → IsKeptBy plan s.mem → MeetsValues d v (env cells s) → StoreAllowed instruction v s.p → perform plan.profile instruction answer s ≡ Some t → IsKeptBy plan t.mem
  unfolding perform
  perform_keeps facts (Compare joined k l o) v s answer t at kept m c e =
      let q = bind_was (operand_number s answer o) _ t e in subst (λ (u : Numbers). IsKeptBy plan u.mem) (same_Some _ t q.gives) kept
  perform_keeps facts (Assign r w) v s answer t at kept m c e =
      let q = bind_was (result_number plan.profile s answer w) _ t e in subst (λ (u : Numbers). IsKeptBy plan u.mem) (same_Some _ t q.gives) kept
  perform_keeps facts (Jump side w) v s answer t at kept m c e = by_side (is_taken side s.b) e
    where
      by_side : (b : Bool) → cond b (bind (result_number plan.profile s answer w) (λ z. bind (lawful z) (λ n. Some (record { regs = cond (is_call w) (set_reg s.regs Y (pos (s.p + 1))) s.regs; mem = s.mem; b = s.b; p = n })))) (Some (at_next s)) ≡ Some t → IsKeptBy plan t.mem
      by_side true e =
          let q = bind_was (result_number plan.profile s answer w) _ t e in
          let u = bind_was (lawful q.first) _ t q.gives in
          subst (λ (u : Numbers). IsKeptBy plan u.mem) (same_Some _ t u.gives) kept
      by_side false e = subst (λ (u : Numbers). IsKeptBy plan u.mem) (same_Some _ t e) kept
  perform_keeps facts (Output l p) v s answer t at kept m c e =
      let q = bind_was (lawful (place_number p s.regs)) _ t e in subst (λ (u : Numbers). IsKeptBy plan u.mem) (same_Some _ t q.gives) kept
  perform_keeps facts (Store l p) v s answer t at kept m c e =
      let q = bind_was (lawful (place_number p s.regs)) _ t e in
      let ok : ℕ → Bool = λ n. passes_at plan.«data» (λ r. is_in_range d (source_value d s.p v l) r) n in
      let h = is_there (lawful (place_number p s.regs)) (λ n. PlaceIs d laws p v (place_number p s.regs) ok n) (place_has d laws p v s cells ok m c) in
      let same : h.value ≡ q.first = same_Some h.value q.first (sym h.is ∙ q.is) in
      subst (λ (u : Numbers). IsKeptBy plan u.mem) (same_Some _ t q.gives)
      (store_keeps d laws plan s.mem q.first (source_value d s.p v l) (source_number s l) kept (facts.apart) (λ n r e. spaced r (facts.data_normal n r e))
      (subst (λ (n : ℕ). ok n ≡ true) same h.holds.passes) (source_has d laws v s cells l at m))
