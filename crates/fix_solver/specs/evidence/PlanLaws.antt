-- The laws of the rules of a plan.
use Rattle.std.specs.Prelude.{◌≡◌, ℕ, ℤ, Bool, true, false, cond, nat_le, List, [], ◌∷◌, length, map, replicate, Option, Some, None, IfSome, Result, Ok, Err, MatchResult}
use Rattle.std.proofs.Common.{refl, sym, ap, subst, ◌∙◌, inl, inr}
use Rattle.std.proofs.lemmas.Bool.{eq-eqb, eqb-true}
use Rattle.std.proofs.lemmas.List.{length-map, length-replicate}
use Rattle.std.specs.List.{AllByRecursion}
use Rattle.num_domain.specs.Domain.{Domain, Below as BelowValue}
use Rattle.num_domain.specs.Laws.{DomainLaws}
use Rattle.memory_plan.specs.Plans.{PlanLines}
use Rattle.memory_plan.specs.declared.start.Start.{Start}
use Rattle.flag_relation.specs.Values.{Pairwise}
use Rattle.flag_relation.specs.Facts.{FactOf, unknown}
use Rattle.flag_relation.specs.Order.{BelowFact, includes}
use Rattle.flag_relation.specs.Joins.{join, join_values}
use Rattle.flag_relation.specs.Rounding.{round}
use Rattle.flag_relation.proofs.AllLaws.{fact_laws}
use Rattle.flag_relation.proofs.CellLoops.{join_length}
use Rattle.abs_step.specs.declared.outcome.Cond.{Cond}
use Rattle.abs_step.specs.declared.outcome.Cond.TheVariants.{H1, H2, C1, C2, C3, C4, C5, C6, C7, C8, C9, C10, C11}
use Rattle.abs_step.specs.Starts.{start_fact, cell_at}
use Rattle.abs_step.specs.OutcomeLists.{OutcomeOf}
use Rattle.abs_step.specs.Laws.{AllBelow as AllOutcomesBelow, SomeAbove}
use Rattle.abs_step.specs.Conditions.{keeps, fault, outcomes, if_there, instruction_at, instruction_keeps, side_keeps}
use Rattle.abs_step.proofs.AllStepLaws.{step_laws}
use Rattle.flow_recover.specs.declared.key.Key.{Key}
use Rattle.flow_recover.specs.Cells.{cells_of}
use Rattle.flow_recover.specs.Contexts.{next_context}
use Rattle.flow_recover.specs.Thresholds.{thresholds_of}
use Rattle.fix_solver.specs.declared.at.At.{At}
use Rattle.fix_solver.specs.Rules.{Rules, RulesLaws, AllBelow, HasLarger, Below, Fits, Included}
use Rattle.fix_solver.specs.Solutions.{IsCandidate, fields_at, arriving, arrival, start_at, rules_over, plan_rules, all_unknown}
use Rattle.fix_solver.specs.Rooms.{AllHave}
use Rattle.fix_solver.specs.evidence.OutcomeCells.{outcomes_have}
use Rattle.abs_step.proofs.FaultLaws.{unless_none}
use Rattle.flag_relation.proofs.ValueLemmas.{pairwise_length}

module _ {T : Type 0} (d : Domain T) where
  there_true : {A : Type 0} (o : Option A) (p : A → Bool) → ((a : A) → p a ≡ true) → if_there d o p ≡ true
  there_true None p h = refl
  there_true (Some a) p h = h a

  -- a condition that isn't of one instruction
  idle : (plan : PlanLines) (cells : List ℕ) (at : ℕ) (c : Cond) (f : FactOf T) → ((i : _) (g : FactOf T) → side_keeps d plan cells at i c g ≡ true)
      → if_there d (instruction_at plan at) (λ i. instruction_keeps d plan cells at i c f) ≡ true
  unfolding instruction_keeps
  idle plan cells at c f h = there_true (instruction_at plan at) _ (λ i. there_true _ _ (λ g. h i g))

  no_fault_keeps : (plan : PlanLines) (cells : List ℕ) (at : ℕ) (f : FactOf T) → fault d plan cells at f ≡ None → (c : Cond) → keeps d plan cells at c f ≡ true
  unfolding fault keeps side_keeps
  no_fault_keeps plan cells at f h c =
      let k1 = unless_none _ C1 _ h in
      let k2 = unless_none _ C2 _ k1.1 in
      let k3 = unless_none _ C3 _ k2.1 in
      let k4 = unless_none _ C4 _ k3.1 in
      let k5 = unless_none _ C5 _ k4.1 in
      let k6 = unless_none _ C6 _ k5.1 in
      let k7 = unless_none _ C7 _ k6.1 in
      by c k1.0 k2.0 k3.0 k4.0 k5.0 k6.0 k7.0
    where
      by : (c : Cond) → keeps d plan cells at C1 f ≡ true → keeps d plan cells at C2 f ≡ true → keeps d plan cells at C3 f ≡ true → keeps d plan cells at C4 f ≡ true
          → keeps d plan cells at C5 f ≡ true → keeps d plan cells at C6 f ≡ true → keeps d plan cells at C7 f ≡ true → keeps d plan cells at c f ≡ true
      by H1 a b e g i j k = idle plan cells at H1 f (λ i g. refl)
      by H2 a b e g i j k = idle plan cells at H2 f (λ i g. refl)
      by C1 a b e g i j k = a
      by C2 a b e g i j k = b
      by C3 a b e g i j k = e
      by C4 a b e g i j k = g
      by C5 a b e g i j k = i
      by C6 a b e g i j k = j
      by C7 a b e g i j k = k
      by C8 a b e g i j k = idle plan cells at C8 f (λ i g. refl)
      by C9 a b e g i j k = idle plan cells at C9 f (λ i g. refl)
      by C10 a b e g i j k = idle plan cells at C10 f (λ i g. refl)
      by C11 a b e g i j k = idle plan cells at C11 f (λ i g. refl)

  joined_cells : (f g : FactOf T) → length (join d f g).cells ≡ length f.cells
  unfolding join join_values
  joined_cells f g = join_length d f.cells g.cells

module _ {T : Type 0} (d : Domain T) (laws : DomainLaws d) (plan : PlanLines) (cells : List ℕ) (t : List ℤ) where
  abbrev over : Rules (FactOf T)
  over = rules_over d plan cells t

  to_fact : (f g : FactOf T) → Below over f g → BelowFact d f g
  to_fact f g h = ((fact_laws d laws).order.test f g).0 h.holds

  from_fact : (f g : FactOf T) → BelowFact d f g → Below over f g
  from_fact f g h = record { holds = ((fact_laws d laws).order.test f g).1 h }

  pub count : (f : FactOf T) → Fits over f → length f.cells ≡ length cells
  count f h = eqb-true (length f.cells) (length cells) h.holds

  fits_from : (f : FactOf T) → length f.cells ≡ length cells → Fits over f
  fits_from f h = record { holds = eq-eqb (length f.cells) (length cells) h }

  as_many : (f g : FactOf T) → Fits over f → Fits over g → length f.cells ≡ length g.cells
  as_many f g h k = count f h ∙ sym (count g k)

  started : (s : Start) → length (start_fact d plan cells s).cells ≡ length cells
  unfolding start_fact
  started s = length-map cells (cell_at d plan)

  starts_fit : (ss : List Start) → AllByRecursion (λ e. Fits over e.fact) (map (start_at d plan cells) ss)
  starts_fit [] = tt
  starts_fit (s ∷ ss) = (fits_from (start_fact d plan cells s) (started s), starts_fit ss)

  rounded : (b : Bool) (f : FactOf T) → length (cond b (round d t f) f).cells ≡ length f.cells
  rounded true f = sym (pairwise_length (BelowValue d) f.cells (round d t f).cells ((fact_laws d laws).rounding.above f t).values.cells)
  rounded false f = refl

  arrivals_fit : (n : ℕ) (k : Key) (os : List (OutcomeOf T)) → n ≡ length cells → AllHave n os → AllByRecursion (λ e. Fits over e.fact) (map (arrival d plan t k) os)
  arrivals_fit n k [] e h = tt
  arrivals_fit n k (o ∷ os) e h = (fits_from (arriving d t k.addr o) (rounded (nat_le o.target k.addr) o.after ∙ h.0 ∙ e), arrivals_fit n k os e h.1)

  rounded_below : (b : Bool) (f g : FactOf T) → BelowFact d f g → BelowFact d (cond b (round d t f) f) (cond b (round d t g) g)
  rounded_below true f g h = (fact_laws d laws).rounding.mono f g t h
  rounded_below false f g h = h

  some_larger : (k : Key) (o : OutcomeOf T) (os : List (OutcomeOf T)) → SomeAbove d o os → HasLarger over (arrival d plan t k o) (map (arrival d plan t k) os)
  some_larger k o [] h = h
  some_larger k o (p ∷ os) (inl h) = inl (
    ap (λ (n : ℕ). next_context k (fields_at plan k.addr) n) (sym h.target),
    from_fact (arriving d t k.addr o) (arriving d t k.addr p)
        (subst (λ (n : ℕ). BelowFact d (arriving d t k.addr o) (cond (nat_le n k.addr) (round d t p.after) p.after)) h.target (rounded_below (nat_le o.target k.addr) o.after p.after h.after)),
  )
  some_larger k o (p ∷ os) (inr h) = inr (some_larger k o os h)

  all_larger : (k : Key) (os ps : List (OutcomeOf T)) → AllOutcomesBelow d os ps → AllBelow over (map (arrival d plan t k) os) (map (arrival d plan t k) ps)
  all_larger k [] ps h = tt
  all_larger k (o ∷ os) ps h = (some_larger k o ps h.0, all_larger k os ps h.1)

  breaks : (at : ℕ) (f : FactOf T) → IfSome (fault d plan cells at f) (λ c. keeps d plan cells at c f ≡ false)
  breaks at f = by (fault d plan cells at f) refl
    where
      by : (o : Option Cond) → fault d plan cells at f ≡ o → IfSome o (λ c. keeps d plan cells at c f ≡ false)
      by None e = tt
      by (Some c) e = (step_laws d laws plan cells).fault_fails at f c e

  pub rules_laws : RulesLaws over
  rules_laws = record {
    refl = λ f. from_fact f f ((fact_laws d laws).order.refl f);
    trans = λ f g h p q. from_fact f h ((fact_laws d laws).order.trans f g h (to_fact f g p) (to_fact g h q));
    join_fits = λ f g p q. fits_from (join d f g) (joined_cells d f g ∙ count f p);
    join_left = λ f g p q. from_fact f (join d f g) ((fact_laws d laws).joins.left f g (as_many f g p q));
    join_right = λ f g p q. from_fact g (join d f g) ((fact_laws d laws).joins.right f g (as_many f g p q));
    join_least = λ f g h p q. from_fact (join d f g) h ((fact_laws d laws).joins.least f g h (to_fact f h p) (to_fact g h q));
    height_falls = λ f g p h e. (fact_laws d laws).order.height_falls f g (to_fact f g h) e;
    starts_fit = starts_fit plan.starts;
    outcomes_fit = λ k f p. arrivals_fit (length f.cells) k (outcomes d plan cells k.addr f) (count f p) (outcomes_have d laws plan cells k.addr f);
    outcomes_grow = λ k f g p h. all_larger k (outcomes d plan cells k.addr f) (outcomes d plan cells k.addr g) ((step_laws d laws plan cells).outcomes_grow k.addr f g (to_fact f g h));
    keeps_falls = λ k f g c p h e. (step_laws d laws plan cells).keeps_falls k.addr c f g (to_fact f g h) e;
    fault_breaks = λ k f. breaks k.addr f;
    no_fault_keeps = λ k f e c. no_fault_keeps d plan cells k.addr f e c;
  }

module _ {T : Type 0} (d : Domain T) (laws : DomainLaws d) where
  tops_above : (vs : List T) → Pairwise (BelowValue d) vs (replicate (length vs) d.top)
  tops_above [] = tt
  tops_above (v ∷ vs) = (laws.order.top_greatest v, tops_above vs)

  unknown_above : (f : FactOf T) (n : ℕ) → length f.cells ≡ n → BelowFact d f (unknown d n)
  unknown_above f n e = record {
    values = record {
      regs = record { a = laws.order.top_greatest f.a; x = laws.order.top_greatest f.x; y = laws.order.top_greatest f.y };
      cells = subst (λ (m : ℕ). Pairwise (BelowValue d) f.cells (replicate m d.top)) e (tops_above f.cells);
    };
    links = record { a = tt; x = tt; y = tt };
    flag = tt;
  }

  all_included : (plan : PlanLines) (es : List (At (FactOf T))) → AllByRecursion (λ e. Fits (plan_rules d plan) e.fact) es → AllByRecursion (Included (plan_rules d plan) (all_unknown d plan)) es
  all_included plan [] h = tt
  all_included plan (e ∷ es) h = (
    from_fact d laws plan (cells_of plan) (thresholds_of plan) e.fact (unknown d (length (cells_of plan)))
        (unknown_above e.fact (length (cells_of plan)) (count d laws plan (cells_of plan) (thresholds_of plan) e.fact h.0)),
    all_included plan es h.1,
  )

  pub unknown_is_candidate : (plan : PlanLines) → IsCandidate (plan_rules d plan) (all_unknown d plan)
  unknown_is_candidate plan =
      let rules = rules_laws d laws plan (cells_of plan) (thresholds_of plan) in
      let top = unknown d (length (cells_of plan)) in
      let fits = fits_from d laws plan (cells_of plan) (thresholds_of plan) top (length-replicate (length (cells_of plan)) d.top) in
      record {
        starts = all_included plan _ rules.starts_fit;
        outcomes = λ k. all_included plan _ (rules.outcomes_fit k top fits);
      }

  -- the join, where it isn't the fact itself
  pub joined_is : (f g : FactOf T) → join d f g ≡ cond (includes d f g) f (join d f g)
  joined_is f g = by (includes d f g) refl
    where
      by : (b : Bool) → includes d f g ≡ b → join d f g ≡ cond b f (join d f g)
      by true e = (fact_laws d laws).joins.same f g e
      by false e = refl

  -- what was taken of a fact with so many cells has as many
  pub taken_have : (plan : PlanLines) (cells : List ℕ) (at : ℕ) (f : FactOf T) (os : List (OutcomeOf T)) (r : Result (Unit {0}) Cond) → length f.cells ≡ length cells
      → MatchResult r (λ _. os ≡ outcomes d plan cells at f) (λ _. os ≡ []) → AllHave (length cells) os
  taken_have plan cells at f os (Ok u) e h = subst (λ (l : List (OutcomeOf T)). AllHave (length cells) l) (sym h) (subst (λ (n : ℕ). AllHave n (outcomes d plan cells at f)) e (outcomes_have d laws plan cells at f))
  taken_have plan cells at f os (Err c) e h = subst (λ (l : List (OutcomeOf T)). AllHave (length cells) l) (sym h) tt
