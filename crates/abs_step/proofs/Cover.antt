-- Cover: the machine doesn't stop, and some outcome is that of its step.
use Rattle.std.specs.Prelude.{◌≡◌, ℕ, ◌+◌, ◌-◌, ◌^◌, ◌<◌, ℤ, pos, ◌+ℤ◌, int_le, Bool, true, false, not, ◌&&◌, ◌||◌, cond, List, [], ◌++◌, Option, Some, None, IfSome, IsSomeAnd, ◌⊎◌}
use Rattle.std.proofs.Common.{refl, arith, sym, subst, ⊎_elim, inl, inr}
use Rattle.std.proofs.lemmas.Int.{ints}
use Rattle.std.proofs.lemmas.Bool.{false≢true, not-true, not-false}
use Rattle.viper_word.specs.Signed.{signed_compares}
use Rattle.viper_word.specs.declared.kind.Kind.{Kind}
use Rattle.num_domain.specs.Domain.{Domain, Has}
use Rattle.num_domain.specs.Laws.{DomainLaws}
use Rattle.viper_word.specs.Options.{bind}
use Rattle.num_domain.proofs.EndsLaws.{ends_has, point_has}
use Rattle.memory_plan.specs.Plans.{PlanLines}
use Rattle.viper_word.specs.declared.reg.Reg.{Reg}
use Rattle.flag_relation.specs.declared.flag.Flag.{Flag}
use Rattle.flag_relation.specs.Values.{Values, reg, at_reg}
use Rattle.flag_relation.specs.Facts.{FactOf, values, with_flag, MeetsValues, Meets}
use Rattle.flag_relation.specs.Refining.{assume}
use Rattle.flag_relation.proofs.ValueLemmas.{reg_related}
use Rattle.flag_relation.proofs.AllLaws.{fact_laws}
use Rattle.abs_step.specs.Results.{operand_value, result_value, addressed, source_value}
use Rattle.abs_step.proofs.AddressLaws.{any_from_at}
use Rattle.std.specs.Ordering.{int_eq}
use Rattle.num_domain.specs.Ends.{Ends, Between, ends, is_point}
use Rattle.abs_step.specs.Addresses.{any_from, passes_at, find_cell}
use Rattle.abs_step.specs.Results.{is_call}
use Rattle.abs_step.specs.Origins.{atom_of, compared_flag}
use Rattle.abs_step.specs.OutcomeLists.{OutcomeOf, all_same, each, is_live, live, outcome}
use Rattle.abs_step.specs.Stores.{Spot, lawful_at, index_spot, spot, store_one, store_one_posts, store_several, store_several_posts, stored}
use Rattle.abs_step.specs.Outcomes.{taken_side, skipped_side, performed, instruction_outcomes}
use Rattle.abs_step.specs.Conditions.{operand_lawful, work_lawful, work_exact, targets_lawful, each_allows, in_range, c3, c4, c5, c6, c7, side_keeps, if_there, instruction_keeps}
use Rattle.abs_step.proofs.Performing.{Numbers, env, lawful, place_number, source_number, operand_number, result_number, at_next, perform, IsPlanOf, IsKeptBy, IsFair, SomeCovers}
use Rattle.abs_step.specs.declared.outcome.Cond.{Cond}
use Rattle.abs_step.specs.declared.outcome.Cond.TheVariants.{C3, C4, C5, C6, C7}
use Rattle.abs_step.proofs.ResultCover.{IsOperand, IsWork, IsFairWork, operand_has, result_has, PlaceIs, place_has}
use Rattle.abs_step.proofs.StepCover.{same_posts, live_met, in_first, in_second, outcome_covers, assign_covers, target_covers, jumped}
use Rattle.abs_step.proofs.StoreCover.{Distinct, compared_says, right_of_is, atom_is, after_put, one_covers, several_covers}
use Rattle.viper_decode.specs.declared.instructions.Source.{Source}
use Rattle.viper_decode.specs.declared.instructions.Place.{Place}
use Rattle.viper_decode.specs.declared.instructions.Place.TheVariants.{At, Index}
use Rattle.viper_decode.specs.declared.instructions.Operand.{Operand}
use Rattle.viper_decode.specs.declared.instructions.Work.{Work}
use Rattle.viper_decode.specs.declared.instructions.Side.{Side}
use Rattle.viper_decode.specs.declared.instructions.Side.TheVariants.{Always, IfB, IfNotB}
use Rattle.viper_decode.specs.declared.instructions.Instruction.{Instruction}
use Rattle.viper_decode.specs.declared.instructions.Instruction.TheVariants.{Compare, Assign, Jump, Output, Store}
use Rattle.viper_word.proofs.Options.{some_bind_is, some_some}
use Rattle.viper_word.proofs.Integers.{eq_true}

-- the operand of a instruction is one, and its answer is fair
module _ {T : Type 0} (d : Domain T) (laws : DomainLaws d) where
  abbrev pub IsInstruction : Instruction → Type 0
  IsInstruction (Compare joined k l o) = IsOperand d laws o
  IsInstruction (Assign r w) = IsWork d laws w
  IsInstruction (Jump side w) = IsWork d laws w
  IsInstruction (Output l p) = Unit {0}
  IsInstruction (Store l p) = Unit {0}

  abbrev pub IsFairStep : PlanLines → ℤ → Numbers → Instruction → Type 0
  IsFairStep plan answer s (Compare joined k l o) = IsFair plan answer s o
  IsFairStep plan answer s (Assign r w) = IsFairWork d laws plan answer s w
  IsFairStep plan answer s (Jump side w) = IsFairWork d laws plan answer s w
  IsFairStep plan answer s (Output l p) = Unit {0}
  IsFairStep plan answer s (Store l p) = Unit {0}

  compare_covers : (plan : PlanLines) (cells : List ℕ) (f : FactOf T) (s : Numbers) (answer : ℤ) (joined : Bool) (k : Kind) (l : Source) (o : Operand) → IsOperand d laws o → IsPlanOf plan → IsKeptBy plan s.mem → IsFair plan answer s o → Meets d f (env cells s) s.b → operand_lawful d plan (values f) o ≡ true → IsSomeAnd (perform plan.profile (Compare joined k l o) answer s) (λ s'. SomeCovers d cells s s' (performed d plan cells s.p (Compare joined k l o) f))
  unfolding perform performed
  compare_covers plan cells f s answer joined k l o i fits kept fair m c3 =
      some_bind_is (λ z. IsSomeAnd (operand_value d plan cells (values f) o) (λ u. Has d u z)) _ (operand_number s answer o) _ (operand_has d laws plan cells (values f) s answer o i fits kept fair m.values c3)
      (λ z e n. with_operand (operand_value d plan cells (values f) o) z e n)
    where
      holds : ℤ → Bool
      holds z = signed_compares k (source_number s l) z

      after : ℤ → Numbers
      after z = record { regs = s.regs; mem = s.mem; b = cond joined (s.b || holds z) (holds z); p = s.p + 1 }

      flag : Flag
      flag = compared_flag joined (atom_of plan cells k l o) f.flag

      with_operand : (v : Option T) (z : ℤ) → operand_number s answer o ≡ Some z → IsSomeAnd v (λ u. Has d u z) → SomeCovers d cells s (after z) (each v (λ _. outcome d (s.p + 1) f (with_flag f flag) (all_same cells)))
      with_operand None z e n = absurd n
      with_operand (Some v) z e n =
          outcome_covers d laws cells s (after z) f (with_flag f flag) (all_same cells) m
          (record { values = m.values; links = m.links; flag = compared_says joined (atom_of plan cells k l o) f.flag (env cells s) s.b (holds z) (atom_is plan cells s k l o z (right_of_is plan cells s d laws answer o z i fits kept e)) m.flag })
          (same_posts cells s)

  when_covers : (cells : List ℕ) (s s' : Numbers) (b : Bool) (os : List (OutcomeOf T)) → b ≡ true → SomeCovers d cells s s' os → SomeCovers d cells s s' (cond b os [])
  when_covers cells s s' true os e h = h
  when_covers cells s s' false os e h = absurd (false≢true e)

  output_covers : (plan : PlanLines) (cells : List ℕ) (f : FactOf T) (s : Numbers) (answer : ℤ) (l : Source) (p : Place) → Meets d f (env cells s) s.b → each_allows d plan.outputs p (values f) (source_value d s.p (values f) l) ≡ true → IsSomeAnd (perform plan.profile (Output l p) answer s) (λ s'. SomeCovers d cells s s' (performed d plan cells s.p (Output l p) f))
  unfolding perform performed
  output_covers plan cells f s answer l p m c7 =
      let ok : ℕ → Bool = λ n. passes_at plan.outputs (λ r. in_range d (source_value d s.p (values f) l) r) n in
      some_bind_is (λ n. PlaceIs d laws p (values f) (place_number p s.regs) ok n) _ (lawful (place_number p s.regs)) _ (place_has d laws p (values f) s cells ok m.values c7)
      (λ n e q. let small = q.small in
      when_covers cells s (at_next s) (any_from (addressed d p (values f)) 0 (2 ^ 20)) (outcome d (s.p + 1) f f (all_same cells))
      (any_from_at (addressed d p (values f)) 0 (2 ^ 20) n (omega arith) (omega arith) q.addressed)
      (outcome_covers d laws cells s (at_next s) f f (all_same cells) m m (same_posts cells s)))

  -- ---- stores

  -- the address of the step is the one, or one of several
  abbrev pub SpotHas : (ℕ → Bool) → ℕ → Spot → Type 0
  SpotHas p n o = (o.one ≡ Some n) ⊎ ((o.several ≡ true) × (p n ≡ true))

  index_has : (a : ℕ) (r : Reg) (v : Values T) (s : Numbers) (cells : List ℕ) (n : ℕ) (e : Option Ends) → lawful (pos a +ℤ at_reg s.regs r) ≡ Some n → n < 2 ^ 20 → addressed d (Index a r) v n ≡ true → Has d (reg v r) (at_reg s.regs r) → IsSomeAnd e (λ i. Between i (at_reg s.regs r)) → SpotHas (addressed d (Index a r) v) n (index_spot d a e (is_point d (reg v r)) (any_from (addressed d (Index a r) v) 0 (2 ^ 20)))
  index_has a r v s cells n None l small t h b = absurd b
  index_has a r v s cells n (Some e) l small t h b = by_test (int_eq e.lo e.hi) refl
    where
      x : ℤ
      x = at_reg s.regs r

      by_test : (w : Bool) → int_eq e.lo e.hi ≡ w → SpotHas (addressed d (Index a r) v) n (cond w (record { one = cond (is_point d (reg v r) e.lo) (lawful_at d (pos a +ℤ e.lo)) None; several = false }) (record { one = None; several = any_from (addressed d (Index a r) v) 0 (2 ^ 20) }))
      by_test true w =
          let q = eq_true e.lo e.hi w in
          let b0 = b.lo in
          let b1 = b.hi in
          let i : at_reg s.regs r ≡ e.lo = omega (arith, ints) in
          let t' : is_point d (reg v r) e.lo ≡ true = subst (λ (z : ℤ). is_point d (reg v r) z ≡ true) i (point_has d laws (reg v r) (at_reg s.regs r) h) in
          inl (subst (λ (c : Bool). cond c (lawful_at d (pos a +ℤ e.lo)) None ≡ Some n) (sym t') (subst (λ (z : ℤ). lawful_at d (pos a +ℤ z) ≡ Some n) i l))
      by_test false w = inr (any_from_at (addressed d (Index a r) v) 0 (2 ^ 20) n (omega arith) (omega arith) t, t)

  at_spot : (a n : ℕ) → lawful (pos a) ≡ Some n → Some a ≡ Some n
  at_spot a n h = by_test (int_le (pos 0) (pos a) && int_le (pos a) (pos (2 ^ 20 - 1))) h
    where
      by_test : (b : Bool) → cond b (Some a) None ≡ Some n → Some a ≡ Some n
      by_test true e = e
      by_test false e = absurd (cc)

  spot_has : (p : Place) (v : Values T) (s : Numbers) (cells : List ℕ) (n : ℕ) → lawful (place_number p s.regs) ≡ Some n → n < 2 ^ 20 → addressed d p v n ≡ true → MeetsValues d v (env cells s) → SpotHas (addressed d p v) n (spot d p v)
  unfolding spot
  spot_has (At a) v s cells n l small t h = inl (at_spot a n l)
  spot_has (Index a r) v s cells n l small t h =
      let hx = reg_related (Has d) v (env cells s) h r in
      index_has a r v s cells n (ends d (reg v r)) l small t hx (ends_has d laws (reg v r) (at_reg s.regs r) hx)

  stored_covers : (cells : List ℕ) (f : FactOf T) (s : Numbers) (l : Source) (p : Place) (n : ℕ) (o : Spot) → s.p < 2 ^ 20 → Distinct cells → Meets d f (env cells s) s.b → SpotHas (addressed d p (values f)) n o → SomeCovers d cells s (after_put d laws s n (source_number s l)) (stored d cells s.p f l p o)
  unfolding stored
  stored_covers cells f s l p n o at apart m h =
      ⊎_elim (λ (e : o.one ≡ Some n).
      in_first d laws cells s (after_put d laws s n (source_number s l)) (each o.one one) several
      (subst (λ (w : Option ℕ). SomeCovers d cells s (after_put d laws s n (source_number s l)) (each w one)) (sym e) (one_covers d laws cells f s l n at apart m)))
      (λ (e : (o.several ≡ true) × (addressed d p (values f) n ≡ true)).
      in_second d laws cells s (after_put d laws s n (source_number s l)) (each o.one one) several
      (when_covers cells s (after_put d laws s n (source_number s l)) o.several _ e.0 (several_covers d laws (addressed d p (values f)) cells f s l n e.1 at m))) h
    where
      one : ℕ → List (OutcomeOf T)
      one k = outcome d (s.p + 1) f (store_one d s.p f l (find_cell cells k)) (store_one_posts d cells l (find_cell cells k))

      several : List (OutcomeOf T)
      several = cond o.several (outcome d (s.p + 1) f (store_several d (addressed d p (values f)) cells s.p f l) (store_several_posts d (addressed d p (values f)) cells)) []

  store_covers : (plan : PlanLines) (cells : List ℕ) (f : FactOf T) (s : Numbers) (answer : ℤ) (l : Source) (p : Place) → s.p < 2 ^ 20 → Distinct cells → Meets d f (env cells s) s.b → each_allows d plan.«data» p (values f) (source_value d s.p (values f) l) ≡ true → IsSomeAnd (perform plan.profile (Store l p) answer s) (λ s'. SomeCovers d cells s s' (performed d plan cells s.p (Store l p) f))
  unfolding perform performed
  store_covers plan cells f s answer l p at apart m c6 =
      let ok : ℕ → Bool = λ n. passes_at plan.«data» (λ r. in_range d (source_value d s.p (values f) l) r) n in
      some_bind_is (λ n. PlaceIs d laws p (values f) (place_number p s.regs) ok n) _ (lawful (place_number p s.regs)) _ (place_has d laws p (values f) s cells ok m.values c6)
      (λ n e q. stored_covers cells f s l p n (spot d p (values f)) at apart m (spot_has p (values f) s cells n e q.small q.addressed m.values))

  -- ---- jumps

  -- the taken side
  jump_covers : (plan : PlanLines) (cells : List ℕ) (side : Side) (w : Work) (g : FactOf T) (s : Numbers) (answer : ℤ) → IsWork d laws w → s.p < 2 ^ 20 → IsPlanOf plan → IsKeptBy plan s.mem → IsFairWork d laws plan answer s w → Meets d g (env cells s) s.b → work_lawful d plan (values g) w ≡ true → work_exact d plan cells s.p (values g) w ≡ true → targets_lawful d plan (result_value d plan cells s.p (values g) g.flag w) ≡ true → IsSomeAnd (bind (result_number plan.profile s answer w) (λ z. bind (lawful z) (λ n. Some (jumped d laws (is_call w) s n)))) (λ s'. SomeCovers d cells s s' (performed d plan cells s.p (Jump side w) g))
  unfolding performed
  jump_covers plan cells side w g s answer i at fits kept fair m c3 c4 c5 =
      some_bind_is (λ z. IsSomeAnd (result_value d plan cells s.p (values g) g.flag w) (λ u. Has d u z)) _ (result_number plan.profile s answer w) _ (result_has d laws plan cells (values g) g.flag s answer w i at fits kept fair m.values m.flag c3 c4)
      (λ z e n. target_covers d laws plan cells (is_call w) s g z (result_value d plan cells s.p (values g) g.flag w) at m n c5)

  -- ---- sides

  there_kept : (o : Option (FactOf T)) (p : FactOf T → Bool) → if_there d o p ≡ true → IfSome o (λ g. p g ≡ true)
  there_kept None p h = tt
  there_kept (Some g) p h = h

  -- a condition that holds of a fact that isn't empty holds of its taken side
  pub side_kept : (plan : PlanLines) (cells : List ℕ) (at : ℕ) (instruction : Instruction) (c : Cond) (f : FactOf T) → is_live d f ≡ true → instruction_keeps d plan cells at instruction c f ≡ true → IfSome (taken_side d instruction f) (λ g. side_keeps d plan cells at instruction c g ≡ true)
  unfolding instruction_keeps
  side_kept plan cells at instruction c f l h =
      there_kept (taken_side d instruction f) (λ g. side_keeps d plan cells at instruction c g)
      (subst (λ (b : Bool). if_there d (bind (cond b (Some f) None) (λ g. taken_side d instruction g)) (λ g. side_keeps d plan cells at instruction c g) ≡ true) l h)

  -- the side on which B is as it is
  pub live_side : (f : FactOf T) (cells : List ℕ) (s : Numbers) (b : Bool) → s.b ≡ b → Meets d f (env cells s) s.b → IsSomeAnd (bind (assume d f b) (live d)) (λ g. Meets d g (env cells s) s.b)
  live_side f cells s b e m =
      some_bind_is (λ g. Meets d g (env cells s) s.b) (λ g. Meets d g (env cells s) s.b) (assume d f b) (live d)
      (subst (λ (c : Bool). IsSomeAnd (assume d f c) (λ g. Meets d g (env cells s) s.b)) e ((fact_laws d laws).assume.sound f s.b (env cells s) m))
      (λ g _ k. alive g (is_live d g) (live_met d laws g (env cells s) s.b k) k)
    where
      alive : (g : FactOf T) (c : Bool) → c ≡ true → Meets d g (env cells s) s.b → IsSomeAnd (cond c (Some g) None) (λ g. Meets d g (env cells s) s.b)
      alive g true i k = k
      alive g false i k = absurd (false≢true i)

  by_flag : {S : Type 0} (P : S → Type 0) (b : Bool) (o q : Option S) → (b ≡ true → IsSomeAnd o P) → (b ≡ false → IsSomeAnd q P) → IsSomeAnd (cond b o q) P
  by_flag P true o q h k = h refl
  by_flag P false o q h k = k refl

  module _ (plan : PlanLines) (cells : List ℕ) (s : Numbers) (answer : ℤ) (at : s.p < 2 ^ 20) (fits : IsPlanOf plan) (kept : IsKeptBy plan s.mem) (apart : Distinct cells) where
    taken_covers : (side : Side) (w : Work) (o : Option (FactOf T)) → IsWork d laws w → IsFairWork d laws plan answer s w → IsSomeAnd o (λ g. Meets d g (env cells s) s.b) → IfSome o (λ g. work_lawful d plan (values g) w ≡ true) → IfSome o (λ g. work_exact d plan cells s.p (values g) w ≡ true) → IfSome o (λ g. targets_lawful d plan (result_value d plan cells s.p (values g) g.flag w) ≡ true) → IsSomeAnd (bind (result_number plan.profile s answer w) (λ z. bind (lawful z) (λ n. Some (jumped d laws (is_call w) s n)))) (λ s'. SomeCovers d cells s s' (each o (λ g. performed d plan cells s.p (Jump side w) g)))
    taken_covers side w None i fair m c3 c4 c5 = absurd m
    taken_covers side w (Some g) i fair m c3 c4 c5 = jump_covers plan cells side w g s answer i at fits kept fair m c3 c4 c5

    skip_covers : (o : Option (FactOf T)) → IsSomeAnd o (λ g. Meets d g (env cells s) s.b) → SomeCovers d cells s (at_next s) (each o (λ g. outcome d (s.p + 1) g g (all_same cells)))
    skip_covers None m = absurd m
    skip_covers (Some g) m = outcome_covers d laws cells s (at_next s) g g (all_same cells) m m (same_posts cells s)

    sides_cover : (o q : Option (FactOf T)) (side : Side) (w : Work) (b : Bool) → (b ≡ true → IsSomeAnd (bind (result_number plan.profile s answer w) (λ z. bind (lawful z) (λ n. Some (jumped d laws (is_call w) s n)))) (λ s'. SomeCovers d cells s s' (each q (λ g. performed d plan cells s.p (Jump side w) g)))) → (b ≡ false → SomeCovers d cells s (at_next s) (each o (λ g. outcome d (s.p + 1) g g (all_same cells)))) → IsSomeAnd (cond b (bind (result_number plan.profile s answer w) (λ z. bind (lawful z) (λ n. Some (jumped d laws (is_call w) s n)))) (Some (at_next s))) (λ s'. SomeCovers d cells s s' (each o (λ g. outcome d (s.p + 1) g g (all_same cells)) ++ each q (λ g. performed d plan cells s.p (Jump side w) g)))
    sides_cover o q side w b h k =
        by_flag (λ s'. SomeCovers d cells s s' (each o (λ g. outcome d (s.p + 1) g g (all_same cells)) ++ each q (λ g. performed d plan cells s.p (Jump side w) g))) b _ _
        (λ t. some_some _ _ (bind (result_number plan.profile s answer w) (λ z. bind (lawful z) (λ n. Some (jumped d laws (is_call w) s n)))) (h t) (λ s' i. in_second d laws cells s s' (each o (λ g. outcome d (s.p + 1) g g (all_same cells))) (each q (λ g. performed d plan cells s.p (Jump side w) g)) i))
        (λ t. in_first d laws cells s (at_next s) (each o (λ g. outcome d (s.p + 1) g g (all_same cells))) (each q (λ g. performed d plan cells s.p (Jump side w) g)) (k t))

    -- Where C3 to C7 hold, the machine doesn't stop, and some outcome is that of its step.
    pub instruction_covers : (instruction : Instruction) (f : FactOf T) → IsInstruction instruction → IsFairStep plan answer s instruction → Meets d f (env cells s) s.b → ((c : Cond) → instruction_keeps d plan cells s.p instruction c f ≡ true) → IsSomeAnd (perform plan.profile instruction answer s) (λ s'. SomeCovers d cells s s' (instruction_outcomes d plan cells s.p instruction f))
    unfolding instruction_outcomes taken_side skipped_side side_keeps c3 c4 c5 c6 c7 perform
    instruction_covers (Compare joined k l o) f i fair m h =
        let kept_of = λ (c : Cond). side_kept plan cells s.p (Compare joined k l o) c f (live_met d laws f (env cells s) s.b m) (h c) in
        compare_covers plan cells f s answer joined k l o i fits kept fair m (kept_of C3)
    instruction_covers (Assign r w) f i fair m h =
        let kept_of = λ (c : Cond). side_kept plan cells s.p (Assign r w) c f (live_met d laws f (env cells s) s.b m) (h c) in
        assign_covers d laws plan cells f s answer r w i at fits kept fair m (kept_of C3) (kept_of C4)
    instruction_covers (Jump Always w) f i fair m h =
        let kept_of = λ (c : Cond). side_kept plan cells s.p (Jump Always w) c f (live_met d laws f (env cells s) s.b m) (h c) in
        taken_covers Always w (Some f) i fair m (kept_of C3) (kept_of C4) (kept_of C5)
    instruction_covers (Jump IfB w) f i fair m h =
        let kept_of = λ (c : Cond). side_kept plan cells s.p (Jump IfB w) c f (live_met d laws f (env cells s) s.b m) (h c) in
        sides_cover (bind (assume d f false) (live d)) (bind (assume d f true) (live d)) IfB w s.b
        (λ t. taken_covers IfB w (bind (assume d f true) (live d)) i fair (live_side f cells s true t m) (kept_of C3) (kept_of C4) (kept_of C5))
        (λ t. skip_covers (bind (assume d f false) (live d)) (live_side f cells s false t m))
    instruction_covers (Jump IfNotB w) f i fair m h =
        let kept_of = λ (c : Cond). side_kept plan cells s.p (Jump IfNotB w) c f (live_met d laws f (env cells s) s.b m) (h c) in
        sides_cover (bind (assume d f true) (live d)) (bind (assume d f false) (live d)) IfNotB w (not s.b)
        (λ t. taken_covers IfNotB w (bind (assume d f false) (live d)) i fair (live_side f cells s false (not-true s.b t) m) (kept_of C3) (kept_of C4) (kept_of C5))
        (λ t. skip_covers (bind (assume d f true) (live d)) (live_side f cells s true (not-false s.b t) m))
    instruction_covers (Output l p) f i fair m h =
        let kept_of = λ (c : Cond). side_kept plan cells s.p (Output l p) c f (live_met d laws f (env cells s) s.b m) (h c) in
        output_covers plan cells f s answer l p m (kept_of C7)
    instruction_covers (Store l p) f i fair m h =
        let kept_of = λ (c : Cond). side_kept plan cells s.p (Store l p) c f (live_met d laws f (env cells s) s.b m) (h c) in
        store_covers plan cells f s answer l p at apart m (kept_of C6)
