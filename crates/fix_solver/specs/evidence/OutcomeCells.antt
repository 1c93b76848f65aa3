-- Each outcome of a fact has as many cells as the fact.
use Rattle.std.specs.Prelude.{◌≡◌, ℕ, ◌+◌, ◌^◌, Bool, true, false, cond, List, [], ◌∷◌, ◌++◌, length, Option, Some, None, IfSome}
use Rattle.std.specs.Prelude.{pos, nat_eq}
use Rattle.std.proofs.Common.{refl, ap, subst, ◌∙◌, suc, set}
use Rattle.std.proofs.lemmas.List.{length-set}
use Rattle.std.specs.List.{flat_map, list_any}
use Rattle.num_domain.specs.Domain.{Domain, Below}
use Rattle.num_domain.specs.Laws.{DomainLaws}
use Rattle.viper_word.specs.Options.{bind}
use Rattle.viper_word.specs.declared.profile.Profile.{Profile}
use Rattle.viper_word.specs.declared.reg.Reg.{Reg}
use Rattle.viper_word.specs.declared.reg.Reg.TheVariants.{Y}
use Rattle.memory_plan.specs.Plans.{PlanLines}
use Rattle.flag_relation.specs.declared.link.Link.{Link}
use Rattle.flag_relation.specs.Values.{Values}
use Rattle.flag_relation.specs.Facts.{FactOf, values}
use Rattle.flag_relation.specs.Order.{BelowValues}
use Rattle.flag_relation.specs.Refining.{assume}
use Rattle.flag_relation.proofs.AllLaws.{fact_laws}
use Rattle.viper_decode.specs.declared.instructions.Source.{Source}
use Rattle.viper_decode.specs.declared.instructions.Source.TheVariants.{Of, AfterP}
use Rattle.viper_decode.specs.declared.instructions.Place.{Place}
use Rattle.viper_decode.specs.declared.instructions.Work.{Work}
use Rattle.viper_decode.specs.declared.instructions.Side.TheVariants.{Always, IfB, IfNotB}
use Rattle.viper_decode.specs.declared.instructions.Instruction.{Instruction}
use Rattle.viper_decode.specs.declared.instructions.Instruction.TheVariants.{Compare, Assign, Jump, Output, Store}
use Rattle.abs_step.specs.declared.outcome.Post.{Post}
use Rattle.abs_step.specs.Addresses.{passing, find_cell}
use Rattle.abs_step.specs.Writes.{put_reg, put_cells, hits}
use Rattle.abs_step.specs.Results.{is_call, addressed, source_value, operand_value, result_value}
use Rattle.abs_step.specs.Origins.{sets_bit, origin, link_of}
use Rattle.abs_step.specs.OutcomeLists.{OutcomeOf, each, live, is_live, outcome}
use Rattle.abs_step.specs.Stores.{Spot, spot, stored, store_one, store_several, joined_cells, source_link, unlinked}
use Rattle.abs_step.specs.Outcomes.{flag_set, assigned, linked, linked_posts, jumps, is_target, taken_side, skipped_side, performed, instruction_outcomes}
use Rattle.abs_step.specs.Conditions.{instruction_at, outcomes_at, outcomes}
use Rattle.fix_solver.specs.Rooms.{AllHave}
use Rattle.viper_word.proofs.Options.{all_unit}
use Rattle.flag_relation.proofs.ValueLemmas.{pairwise_length}

both_have : {T : Type 0} (n : ℕ) (os ps : List (OutcomeOf T)) → AllHave n os → AllHave n ps → AllHave n (os ++ ps)
both_have n [] ps h k = k
both_have n (o ∷ os) ps h k = (h.0, both_have n os ps h.1 k)

each_has : {T U : Type 0} (n : ℕ) (o : Option U) (f : U → List (OutcomeOf T)) (P : U → Type 0) → IfSome o P → ((u : U) → P u → AllHave n (f u)) → AllHave n (each o f)
each_has n None f P h k = tt
each_has n (Some u) f P h k = k u h

when_has : {T : Type 0} (n : ℕ) (b : Bool) (os : List (OutcomeOf T)) → AllHave n os → AllHave n (cond b os [])
when_has n true os h = h
when_has n false os h = tt

flat_has : {T : Type 0} (n : ℕ) (f : ℕ → List (OutcomeOf T)) (ks : List ℕ) → ((k : ℕ) → AllHave n (f k)) → AllHave n (flat_map f ks)
flat_has n f [] h = tt
flat_has n f (k ∷ ks) h = both_have n (f k) (flat_map f ks) (h k) (flat_has n f ks h)

module _ {T : Type 0} (d : Domain T) where
  outcome_has : (target : ℕ) (pre after : FactOf T) (posts : Values Post) (n : ℕ) → length after.cells ≡ n → AllHave n (outcome d target pre after posts)
  unfolding outcome
  outcome_has target pre after posts n h = when_has n (is_live d after) (record { target = target; pre = pre; after = after; posts = posts } ∷ []) (h, tt)

  flag_set_has : (b : Bool) (g : FactOf T) → length (flag_set d b g).cells ≡ length g.cells
  flag_set_has true g = refl
  flag_set_has false g = refl

  put_reg_has : (f : FactOf T) (r : Reg) (v : T) (l : Option Link) → length (put_reg f r v l).cells ≡ length f.cells
  unfolding put_reg
  put_reg_has f r v l = refl

  assigned_has : (pr : Profile) (cells : List ℕ) (f : FactOf T) (r : Reg) (w : Work) (v : T) → length (assigned d pr cells f r w v).cells ≡ length f.cells
  unfolding assigned
  assigned_has pr cells f r w v =
      flag_set_has (sets_bit pr w) (put_reg f r v (link_of f.links (origin cells w)))
      ∙ put_reg_has f r v (link_of f.links (origin cells w))

  linked_has : (call : Bool) (at : ℕ) (f : FactOf T) → length (linked d call at f).cells ≡ length f.cells
  linked_has true at f = put_reg_has f Y (d.constant (pos (at + 1))) None
  linked_has false at f = refl

  jumps_have : (plan : PlanLines) (cells : List ℕ) (at : ℕ) (call : Bool) (f : FactOf T) (v : T) → AllHave (length f.cells) (jumps d plan cells at call f v)
  unfolding jumps
  jumps_have plan cells at call f v =
      flat_has (length f.cells) (λ n. outcome d n f (linked d call at f) (linked_posts d call cells)) (passing (is_target d plan v) 0 (2 ^ 20))
      (λ n. outcome_has n f (linked d call at f) (linked_posts d call cells) (length f.cells) (linked_has call at f))

  -- ---- stores

  source_has : (f : FactOf T) (s : Source) (l : Option Link) → length (source_link d f s l).cells ≡ length f.cells
  source_has f AfterP l = refl
  source_has f (Of r) l = refl

  put_cells_has : (f : FactOf T) (vs : List T) (hit : ℕ → Bool) → length (put_cells f vs hit).cells ≡ length vs
  unfolding put_cells
  put_cells_has f vs hit = refl

  store_one_has : (at : ℕ) (f : FactOf T) (s : Source) (o : Option ℕ) → length (store_one d at f s o).cells ≡ length f.cells
  unfolding store_one
  store_one_has at f s None = refl
  store_one_has at f s (Some i) =
      source_has (put_cells f (set f.cells i (source_value d at (values f) s)) (nat_eq i)) s (Some (record { cell = i; offset = pos 0 }))
      ∙ put_cells_has f (set f.cells i (source_value d at (values f) s)) (nat_eq i)
      ∙ length-set f.cells i (source_value d at (values f) s)

  joined_has : (p : ℕ → Bool) (cells : List ℕ) (vs : List T) (w : T) → length (joined_cells d p cells vs w) ≡ length vs
  unfolding joined_cells
  joined_has p [] vs w = refl
  joined_has p (c ∷ cs) [] w = refl
  joined_has p (c ∷ cs) (v ∷ vs) w = ap suc (joined_has p cs vs w)

  unlinked_has : (b : Bool) (f : FactOf T) (s : Source) → length (unlinked d b f s).cells ≡ length f.cells
  unlinked_has true f s = source_has f s None
  unlinked_has false f s = refl

  store_several_has : (p : ℕ → Bool) (cells : List ℕ) (at : ℕ) (f : FactOf T) (s : Source) → length (store_several d p cells at f s).cells ≡ length f.cells
  unfolding store_several
  store_several_has p cells at f s =
      unlinked_has (list_any p cells) (put_cells f (joined_cells d p cells f.cells (source_value d at (values f) s)) (hits p cells)) s
      ∙ put_cells_has f (joined_cells d p cells f.cells (source_value d at (values f) s)) (hits p cells)
      ∙ joined_has p cells f.cells (source_value d at (values f) s)

  stored_have : (cells : List ℕ) (at : ℕ) (f : FactOf T) (s : Source) (p : Place) (q : Spot) → AllHave (length f.cells) (stored d cells at f s p q)
  unfolding stored
  stored_have cells at f s p q =
      both_have (length f.cells) _ _
      (each_has (length f.cells) q.one _ (λ _. Unit {0}) (all_unit q.one) (λ n _. outcome_has (at + 1) f _ _ (length f.cells) (store_one_has at f s (find_cell cells n))))
      (when_has (length f.cells) q.several _ (outcome_has (at + 1) f _ _ (length f.cells) (store_several_has (addressed d p (values f)) cells at f s)))

  -- ---- the instruction

  performed_have : (plan : PlanLines) (cells : List ℕ) (at : ℕ) (i : Instruction) (f : FactOf T) → AllHave (length f.cells) (performed d plan cells at i f)
  unfolding performed
  performed_have plan cells at (Compare joined k s o) f =
      each_has (length f.cells) (operand_value d plan cells (values f) o) _ (λ _. Unit {0}) (all_unit (operand_value d plan cells (values f) o))
      (λ v _. outcome_has (at + 1) f _ _ (length f.cells) refl)
  performed_have plan cells at (Assign r w) f =
      each_has (length f.cells) (result_value d plan cells at (values f) f.flag w) _ (λ _. Unit {0}) (all_unit (result_value d plan cells at (values f) f.flag w))
      (λ v _. outcome_has (at + 1) f _ _ (length f.cells) (assigned_has plan.profile cells f r w v))
  performed_have plan cells at (Jump side w) f =
      each_has (length f.cells) (result_value d plan cells at (values f) f.flag w) _ (λ _. Unit {0}) (all_unit (result_value d plan cells at (values f) f.flag w))
      (λ v _. jumps_have plan cells at (is_call w) f v)
  performed_have plan cells at (Output s p) f =
      when_has (length f.cells) _ _ (outcome_has (at + 1) f f _ (length f.cells) refl)
  performed_have plan cells at (Store s p) f = stored_have cells at f s p (spot d p (values f))

  live_has : (n : ℕ) (f : FactOf T) → length f.cells ≡ n → IfSome (live d f) (λ g. length g.cells ≡ n)
  live_has n f h = by (is_live d f)
    where
      by : (b : Bool) → IfSome (cond b (Some f) None) (λ g. length g.cells ≡ n)
      by true = h
      by false = tt

  module _ (laws : DomainLaws d) where
    assumed_has : (f : FactOf T) (b : Bool) → IfSome (bind (assume d f b) (live d)) (λ g. length g.cells ≡ length f.cells)
    assumed_has f b = by (assume d f b) ((fact_laws d laws).assume.below f b)
      where
        by : (o : Option (FactOf T)) → IfSome o (λ g. BelowValues d (values g) (values f) × (g.links ≡ f.links)) → IfSome (bind o (live d)) (λ g. length g.cells ≡ length f.cells)
        by None h = tt
        by (Some g) h = live_has (length f.cells) g (pairwise_length (Below d) g.cells f.cells h.0.cells)

    taken_has : (i : Instruction) (f : FactOf T) → IfSome (taken_side d i f) (λ g. length g.cells ≡ length f.cells)
    unfolding taken_side
    taken_has (Jump IfB w) f = assumed_has f true
    taken_has (Jump IfNotB w) f = assumed_has f false
    taken_has (Jump Always w) f = refl
    taken_has (Compare joined k s o) f = refl
    taken_has (Assign r w) f = refl
    taken_has (Output s p) f = refl
    taken_has (Store s p) f = refl

    skipped_has : (i : Instruction) (f : FactOf T) → IfSome (skipped_side d i f) (λ g. length g.cells ≡ length f.cells)
    unfolding skipped_side
    skipped_has (Jump IfB w) f = assumed_has f false
    skipped_has (Jump IfNotB w) f = assumed_has f true
    skipped_has (Jump Always w) f = tt
    skipped_has (Compare joined k s o) f = tt
    skipped_has (Assign r w) f = tt
    skipped_has (Output s p) f = tt
    skipped_has (Store s p) f = tt

    instruction_has : (plan : PlanLines) (cells : List ℕ) (at : ℕ) (i : Instruction) (f : FactOf T) → AllHave (length f.cells) (instruction_outcomes d plan cells at i f)
    unfolding instruction_outcomes
    instruction_has plan cells at i f =
        both_have (length f.cells) _ _
        (each_has (length f.cells) (skipped_side d i f) _ (λ g. length g.cells ≡ length f.cells) (skipped_has i f) (λ g h. outcome_has (at + 1) g g _ (length f.cells) h))
        (each_has (length f.cells) (taken_side d i f) _ (λ g. length g.cells ≡ length f.cells) (taken_has i f) (λ g h. subst (λ (n : ℕ). AllHave n (performed d plan cells at i g)) h (performed_have plan cells at i g)))

    pub outcomes_have : (plan : PlanLines) (cells : List ℕ) (at : ℕ) (f : FactOf T) → AllHave (length f.cells) (outcomes d plan cells at f)
    unfolding outcomes
    outcomes_have plan cells at f = by (instruction_at plan at) (is_live d f)
      where
        by : (i : Option Instruction) (b : Bool) → AllHave (length f.cells) (outcomes_at d plan cells at i (cond b (Some f) None))
        by None b = tt
        by (Some i) true = instruction_has plan cells at i f
        by (Some i) false = tt
