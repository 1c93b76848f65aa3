-- The outcomes of a larger fact are larger, kind of instruction by kind.
use Rattle.std.specs.Prelude.{◌≡◌, ℕ, ◌<◌, ℤ, pos, nat_abs, ◌+◌, ◌-◌, ◌^◌, ◌+ℤ◌, ◌-ℤ◌, int_le, Bool, true, false, ◌&&◌, cond, List, Option, Some, None, IfSome, IsSomeAnd, ◌⊎◌}
use Rattle.std.specs.Ordering.{int_eq}
use Rattle.std.proofs.Common.{refl, arith, sym, subst, ◌∙◌, ap, inl, inr}
use Rattle.std.proofs.lemmas.Int.{ints}
use Rattle.std.proofs.lemmas.Bool.{and_parts, false≢true}
use Rattle.num_domain.specs.Domain.{Domain, Below}
use Rattle.num_domain.specs.Laws.{DomainLaws}
use Rattle.viper_word.specs.Options.{bind}
use Rattle.viper_word.proofs.Options.{bind_mono, all_when}
use Rattle.viper_word.proofs.Integers.{le_true, eq_true, true_eq}
use Rattle.num_domain.specs.Ends.{Ends, Within, ends, is_point}
use Rattle.num_domain.proofs.EndsLaws.{ends_grow, points_grow}
use Rattle.memory_plan.specs.Plans.{PlanLines, in_code}
use Rattle.viper_word.specs.declared.reg.Reg.{Reg}
use Rattle.viper_word.specs.declared.reg.Reg.TheVariants as register
use Rattle.flag_relation.specs.Values.{Values, reg}
use Rattle.flag_relation.specs.Facts.{FactOf, values}
use Rattle.flag_relation.specs.Order.{BelowValues, BelowFact}
use Rattle.flag_relation.specs.Refining.{assume}
use Rattle.flag_relation.proofs.ValueLemmas.{reg_related}
use Rattle.flag_relation.proofs.AllLaws.{fact_laws}
use Rattle.viper_word.specs.declared.profile.Profile.{Profile}
use Rattle.abs_step.specs.Addresses.{any_from}
use Rattle.abs_step.specs.Results.{is_call, addressed, operand_value, result_value}
use Rattle.abs_step.specs.Origins.{atom_of, sets_bit, origin, link_of}
use Rattle.abs_step.specs.OutcomeLists.{live}
use Rattle.abs_step.specs.Stores.{Spot, lawful_at, index_spot, spot}
use Rattle.abs_step.specs.Outcomes.{assigned, linked, linked_posts, is_target, jumps, taken_side, skipped_side, performed, instruction_outcomes}
use Rattle.abs_step.specs.Conditions.{instruction_at, outcomes_at, outcomes}
use Rattle.abs_step.specs.Laws.{AllBelow}
use Rattle.abs_step.proofs.AddressLaws.{and_grows, any_from_grows, any_from_at}
use Rattle.abs_step.proofs.WriteLaws.{put_reg_below}
use Rattle.abs_step.proofs.ResultLaws.{addressed_grows, operand_grows, result_grows}
use Rattle.abs_step.proofs.OutcomeLaws.{compared_below, link_of_below, both_below, each_grows, when_grows, flat_grows, with_flag_below, flag_set_below, live_some, outcome_grows, SpotBelow, stored_below}
use Rattle.viper_decode.specs.declared.instructions.Place.{Place}
use Rattle.viper_decode.specs.declared.instructions.Place.TheVariants.{At, Index}
use Rattle.viper_decode.specs.declared.instructions.Work.{Work}
use Rattle.viper_decode.specs.declared.instructions.Side.TheVariants.{Always, IfB, IfNotB}
use Rattle.viper_decode.specs.declared.instructions.Instruction.{Instruction}
use Rattle.viper_decode.specs.declared.instructions.Instruction.TheVariants.{Compare, Assign, Jump, Output, Store}

abbrev no_number : Option ℕ
no_number = None

module _ {T : Type 0} (d : Domain T) (laws : DomainLaws d) where
  -- ---- spots

  lawful_facts : (z : ℤ) → IfSome (lawful_at d z) (λ n. (pos n ≡ z) × (n < 2 ^ 20))
  lawful_facts z = by_test (int_le (pos 0) z && int_le z (pos (2 ^ 20 - 1))) refl
    where
      by_test : (b : Bool) → (int_le (pos 0) z && int_le z (pos (2 ^ 20 - 1))) ≡ b → IfSome (cond b (Some (nat_abs z)) None) (λ n. (pos n ≡ z) × (n < 2 ^ 20))
      by_test false e = tt
      by_test true e =
          let p = and_parts (int_le (pos 0) z) (int_le z (pos (2 ^ 20 - 1))) e in
          let a = le_true (pos 0) z p.0 in
          let b = le_true z (pos (2 ^ 20 - 1)) p.1 in
          (omega (arith, ints), omega (arith, ints))

  module _ (a : ℕ) (r : Reg) (v v' : Values T) (h : BelowValues d v v') where
    abbrev q : ℕ → Bool
    q = addressed d (Index a r) v'

    grows : (n : ℕ) → addressed d (Index a r) v n ≡ true → q n ≡ true
    grows = addressed_grows d laws (Index a r) v v' h

    some_grows : any_from (addressed d (Index a r) v) 0 (2 ^ 20) ≡ true → any_from q 0 (2 ^ 20) ≡ true
    some_grows = any_from_grows (addressed d (Index a r) v) q 0 (2 ^ 20) grows

    -- a point at equal ends is an address of the larger
    at_point : (lo : ℤ) (n : ℕ) → pos n ≡ pos a +ℤ lo → is_point d (reg v r) lo ≡ true → q n ≡ true
    unfolding addressed
    at_point lo n e k =
        let i : lo ≡ pos n -ℤ pos a = omega (arith, ints) in
        points_grow d laws (reg v r) (reg v' r) (pos n -ℤ pos a) (reg_related (Below d) v v' h r) (subst (λ (z : ℤ). is_point d (reg v r) z ≡ true) i k)

    index_below : (e e' : Option Ends) → IfSome e (λ i. IsSomeAnd e' (λ i'. Within i i')) → SpotBelow d laws q (index_spot d a e (is_point d (reg v r)) (any_from (addressed d (Index a r) v) 0 (2 ^ 20))) (index_spot d a e' (is_point d (reg v' r)) (any_from q 0 (2 ^ 20)))
    index_below None e' k = record { one = tt; several = λ t. absurd (false≢true t) }
    index_below (Some e) None k = absurd k
    index_below (Some e) (Some e') k = by_tests (int_eq e.lo e.hi) refl (int_eq e'.lo e'.hi) refl
      where
        larger : Bool → Spot
        larger b = cond b (record { one = cond (is_point d (reg v' r) e'.lo) (lawful_at d (pos a +ℤ e'.lo)) None; several = false }) (record { one = None; several = any_from q 0 (2 ^ 20) })

        same_one : int_eq e.lo e.hi ≡ true → int_eq e'.lo e'.hi ≡ true → IfSome (cond (is_point d (reg v r) e.lo) (lawful_at d (pos a +ℤ e.lo)) None) (λ n. (cond (is_point d (reg v' r) e'.lo) (lawful_at d (pos a +ℤ e'.lo)) None ≡ Some n) ⊎ ((false ≡ true) × (q n ≡ true)))
        same_one s s' =
            let x = eq_true e.lo e.hi s in
            let x' = eq_true e'.lo e'.hi s' in
            let l = k.lo in
            let u = k.hi in
            let i : e.lo ≡ e'.lo = omega (arith, ints) in
            let value = lawful_at d (pos a +ℤ e.lo) in
            all_when (is_point d (reg v r) e.lo) value _ (λ t.
            let t' : is_point d (reg v' r) e'.lo ≡ true = points_grow d laws (reg v r) (reg v' r) e'.lo (reg_related (Below d) v v' h r) (subst (λ (z : ℤ). is_point d (reg v r) z ≡ true) i t) in
            rest value (subst (λ (b : Bool). cond b (lawful_at d (pos a +ℤ e'.lo)) None ≡ value) (sym t') (ap (λ (z : ℤ). lawful_at d (pos a +ℤ z)) (sym i))))
          where
            rest : (o : Option ℕ) → cond (is_point d (reg v' r) e'.lo) (lawful_at d (pos a +ℤ e'.lo)) None ≡ o → IfSome o (λ n. (cond (is_point d (reg v' r) e'.lo) (lawful_at d (pos a +ℤ e'.lo)) None ≡ Some n) ⊎ ((false ≡ true) × (q n ≡ true)))
            rest None j = tt
            rest (Some n) j = inl j

        in_several : IfSome (cond (is_point d (reg v r) e.lo) (lawful_at d (pos a +ℤ e.lo)) None) (λ n. (no_number ≡ Some n) ⊎ ((any_from q 0 (2 ^ 20) ≡ true) × (q n ≡ true)))
        in_several = all_when (is_point d (reg v r) e.lo) (lawful_at d (pos a +ℤ e.lo)) _ (λ t. each_n (lawful_at d (pos a +ℤ e.lo)) (lawful_facts (pos a +ℤ e.lo)) t)
          where
            each_n : (o : Option ℕ) → IfSome o (λ n. (pos n ≡ pos a +ℤ e.lo) × (n < 2 ^ 20)) → is_point d (reg v r) e.lo ≡ true → IfSome o (λ n. (no_number ≡ Some n) ⊎ ((any_from q 0 (2 ^ 20) ≡ true) × (q n ≡ true)))
            each_n None f t = tt
            each_n (Some n) f t =
                let z = at_point e.lo n f.0 t in
                let small = f.1 in
                inr (any_from_at q 0 (2 ^ 20) n (omega arith) (omega arith) z, z)

        by_tests : (b : Bool) → int_eq e.lo e.hi ≡ b → (b' : Bool) → int_eq e'.lo e'.hi ≡ b' → SpotBelow d laws q (cond b (record { one = cond (is_point d (reg v r) e.lo) (lawful_at d (pos a +ℤ e.lo)) None; several = false }) (record { one = None; several = any_from (addressed d (Index a r) v) 0 (2 ^ 20) })) (larger b')
        by_tests true s true s' = record { one = same_one s s'; several = λ t. t }
        by_tests true s false s' = record { one = in_several; several = λ t. absurd (false≢true t) }
        by_tests false s true s' =
            let x' = eq_true e'.lo e'.hi s' in
            let l = k.lo in
            let u = k.hi in
            let o = e.order in
            absurd (false≢true (sym s ∙ true_eq e.lo e.hi (omega (arith, ints))))
        by_tests false s false s' = record { one = tt; several = some_grows }

  spot_below : (p : Place) (v v' : Values T) → BelowValues d v v' → SpotBelow d laws (addressed d p v') (spot d p v) (spot d p v')
  unfolding spot
  spot_below (At a) v v' h = record { one = inl refl; several = λ t. t }
  spot_below (Index a r) v v' h = index_below a r v v' h (ends d (reg v r)) (ends d (reg v' r)) (ends_grow d laws (reg v r) (reg v' r) (reg_related (Below d) v v' h r))

  -- ---- kinds of instructions

  assigned_below : (pr : Profile) (cells : List ℕ) (f g : FactOf T) (r : Reg) (w : Work) (v v' : T) → BelowFact d f g → Below d v v' → BelowFact d (assigned d pr cells f r w v) (assigned d pr cells g r w v')
  unfolding assigned
  assigned_below pr cells f g r w v v' h k =
      flag_set_below d (sets_bit pr w) _ _ (put_reg_below d f g r v v' (link_of f.links (origin cells w)) (link_of g.links (origin cells w)) h k (link_of_below f.links g.links (origin cells w) h.links))

  linked_below : (call : Bool) (at : ℕ) (f g : FactOf T) → BelowFact d f g → BelowFact d (linked d call at f) (linked d call at g)
  linked_below true at f g h = put_reg_below d f g register.Y (d.constant (pos (at + 1))) (d.constant (pos (at + 1))) None None h (laws.order.refl (d.constant (pos (at + 1)))) tt
  linked_below false at f g h = h

  target_grows : (plan : PlanLines) (v v' : T) → Below d v v' → (n : ℕ) → is_target d plan v n ≡ true → is_target d plan v' n ≡ true
  unfolding is_target
  target_grows plan v v' h n e = and_grows (is_point d v (pos n)) (in_code plan n) (is_point d v' (pos n)) (in_code plan n) (points_grow d laws v v' (pos n) h) (λ k. k) e

  jumps_grow : (plan : PlanLines) (cells : List ℕ) (at : ℕ) (call : Bool) (f g : FactOf T) (v v' : T) → BelowFact d f g → Below d v v' → AllBelow d (jumps d plan cells at call f v) (jumps d plan cells at call g v')
  unfolding jumps
  jumps_grow plan cells at call f g v v' h k =
      flat_grows d _ _ (is_target d plan v) (is_target d plan v') 0 (2 ^ 20)
      (λ n. outcome_grows d laws n f g (linked d call at f) (linked d call at g) (linked_posts d call cells) (linked_posts d call cells) h (linked_below call at f g h)) (target_grows plan v v' k)

  pub performed_grows : (plan : PlanLines) (cells : List ℕ) (at : ℕ) (instruction : Instruction) (f g : FactOf T) → BelowFact d f g → AllBelow d (performed d plan cells at instruction f) (performed d plan cells at instruction g)
  unfolding performed
  performed_grows plan cells at (Compare joined k s o) f g h =
      each_grows d (Below d) (operand_value d plan cells (values f) o) (operand_value d plan cells (values g) o) _ _ (operand_grows d laws plan cells (values f) (values g) o h.values)
      (λ v v' e. outcome_grows d laws (at + 1) f g _ _ _ _ h (with_flag_below d f g _ _ h (compared_below joined (atom_of plan cells k s o) f.flag g.flag h.flag)))
  performed_grows plan cells at (Assign r w) f g h =
      each_grows d (Below d) (result_value d plan cells at (values f) f.flag w) (result_value d plan cells at (values g) g.flag w) _ _ (result_grows d laws plan cells at (values f) (values g) f.flag g.flag w h.values h.flag)
      (λ v v' e. outcome_grows d laws (at + 1) f g _ _ _ _ h (assigned_below plan.profile cells f g r w v v' h e))
  performed_grows plan cells at (Jump side w) f g h =
      each_grows d (Below d) (result_value d plan cells at (values f) f.flag w) (result_value d plan cells at (values g) g.flag w) _ _ (result_grows d laws plan cells at (values f) (values g) f.flag g.flag w h.values h.flag)
      (λ v v' e. jumps_grow plan cells at (is_call w) f g v v' h e)
  performed_grows plan cells at (Output s p) f g h =
      when_grows d _ _ _ _ (any_from_grows (addressed d p (values f)) (addressed d p (values g)) 0 (2 ^ 20) (addressed_grows d laws p (values f) (values g) h.values))
      (outcome_grows d laws (at + 1) f g f g _ _ h h)
  performed_grows plan cells at (Store s p) f g h = stored_below d laws cells at f g s p (spot d p (values f)) (spot d p (values g)) h (spot_below p (values f) (values g) h.values)

  -- ---- sides

  assumed_below : (f g : FactOf T) (b : Bool) → BelowFact d f g → IfSome (bind (assume d f b) (live d)) (λ u. IsSomeAnd (bind (assume d g b) (live d)) (λ u'. BelowFact d u u'))
  assumed_below f g b h = bind_mono (BelowFact d) (BelowFact d) (assume d f b) (assume d g b) (live d) (live d) ((fact_laws d laws).assume.mono f g b h) (λ u u' k. live_some d laws u u' k)

  pub taken_below : (instruction : Instruction) (f g : FactOf T) → BelowFact d f g → IfSome (taken_side d instruction f) (λ u. IsSomeAnd (taken_side d instruction g) (λ u'. BelowFact d u u'))
  unfolding taken_side
  taken_below (Compare joined k s o) f g h = h
  taken_below (Assign r w) f g h = h
  taken_below (Jump Always w) f g h = h
  taken_below (Jump IfB w) f g h = assumed_below f g true h
  taken_below (Jump IfNotB w) f g h = assumed_below f g false h
  taken_below (Output s p) f g h = h
  taken_below (Store s p) f g h = h

  skipped_below : (instruction : Instruction) (f g : FactOf T) → BelowFact d f g → IfSome (skipped_side d instruction f) (λ u. IsSomeAnd (skipped_side d instruction g) (λ u'. BelowFact d u u'))
  unfolding skipped_side
  skipped_below (Compare joined k s o) f g h = tt
  skipped_below (Assign r w) f g h = tt
  skipped_below (Jump Always w) f g h = tt
  skipped_below (Jump IfB w) f g h = assumed_below f g false h
  skipped_below (Jump IfNotB w) f g h = assumed_below f g true h
  skipped_below (Output s p) f g h = tt
  skipped_below (Store s p) f g h = tt

  pub instruction_outcomes_grow : (plan : PlanLines) (cells : List ℕ) (at : ℕ) (instruction : Instruction) (f g : FactOf T) → BelowFact d f g → AllBelow d (instruction_outcomes d plan cells at instruction f) (instruction_outcomes d plan cells at instruction g)
  unfolding instruction_outcomes
  instruction_outcomes_grow plan cells at instruction f g h =
      both_below d _ _ _ _
      (each_grows d (BelowFact d) (skipped_side d instruction f) (skipped_side d instruction g) _ _ (skipped_below instruction f g h) (λ u u' k. outcome_grows d laws (at + 1) u u' u u' _ _ k k))
      (each_grows d (BelowFact d) (taken_side d instruction f) (taken_side d instruction g) _ _ (taken_below instruction f g h) (λ u u' k. performed_grows plan cells at instruction u u' k))

  outcomes_at_grow : (plan : PlanLines) (cells : List ℕ) (at : ℕ) (instruction : Option Instruction) (o o' : Option (FactOf T)) → IfSome o (λ u. IsSomeAnd o' (λ u'. BelowFact d u u')) → AllBelow d (outcomes_at d plan cells at instruction o) (outcomes_at d plan cells at instruction o')
  outcomes_at_grow plan cells at None o o' h = tt
  outcomes_at_grow plan cells at (Some instruction) None o' h = tt
  outcomes_at_grow plan cells at (Some instruction) (Some f) None h = absurd h
  outcomes_at_grow plan cells at (Some instruction) (Some f) (Some g) h = instruction_outcomes_grow plan cells at instruction f g h

  pub outcomes_grow : (plan : PlanLines) (cells : List ℕ) (at : ℕ) (f g : FactOf T) → BelowFact d f g → AllBelow d (outcomes d plan cells at f) (outcomes d plan cells at g)
  unfolding outcomes
  outcomes_grow plan cells at f g h = outcomes_at_grow plan cells at (instruction_at plan at) (live d f) (live d g) (live_some d laws f g h)
