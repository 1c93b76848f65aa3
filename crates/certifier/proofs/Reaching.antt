-- Where the outcomes at a key of the least solution lead: to a node that it lists, which includes what arrives.
use Rattle.std.proofs.Common.{◌≡◌, ℕ, suc, ◌<◌, Bool, true, false, cond, ◌||◌, nat_eq, nat_le, List, [], ◌∷◌, map, length, get_or, Option, Some, None, refl, sym, ap, subst, ◌∙◌, ⊎_elim, arith}
use Rattle.std.specs.Prelude.{ℤ, IfSome, IsSomeAnd}
use Rattle.std.specs.List.{AllByRecursion, list_any}
use Rattle.std.proofs.lemmas.Bool.{false≢true, eqb-true, eq-eqb, cases_Bool}
use Rattle.num_domain.specs.Domain.{Domain}
use Rattle.memory_plan.specs.Plans.{PlanLines}
use Rattle.memory_plan.specs.declared.start.Start.{Start}
use Rattle.flag_relation.specs.Facts.{FactOf}
use Rattle.flag_relation.specs.Laws.{FactLaws}
use Rattle.flag_relation.specs.Order.{BelowFact, includes}
use Rattle.flag_relation.specs.Rounding.{round}
use Rattle.abs_step.specs.OutcomeLists.{OutcomeOf}
use Rattle.flow_recover.specs.declared.key.Key.{Key}
use Rattle.flow_recover.specs.Cells.{cells_of}
use Rattle.flow_recover.specs.Contexts.{next_context}
use Rattle.flow_recover.specs.Thresholds.{thresholds_of}
use Rattle.fix_solver.specs.declared.at.At.{At}
use Rattle.fix_solver.specs.Order.{IsSetOf}
use Rattle.fix_solver.specs.Rules.{Below, Included}
use Rattle.fix_solver.specs.Solutions.{plan_rules, fields_at, arriving, arrival, start_at}
use Rattle.fix_solver.specs.Solved.{NodeOf, IsSolved, facts_of}
use Rattle.fix_solver.specs.Tables.{fact_at, place}
use Rattle.fix_solver.proofs.Given.{place-below_here}
use Rattle.rank_nest.specs.Graph.{no_node, node_at, outcomes_of, target_of}
use Rattle.rank_nest.specs.Ready.{IsLeast}
use Rattle.rank_nest.specs.Targets.{IsListed}
use Rattle.rank_nest.specs.evidence.Steps.{all_get}
use Rattle.rank_nest.proofs.Solution.{contains_any, default_same, node_key, numbered, fact_here, lead_on}

-- ---- lists

pub all_both : {A : Type 0} (P Q R : A → Type 0) → ((x : A) → P x → Q x → R x) → (xs : List A) → AllByRecursion P xs → AllByRecursion Q xs → AllByRecursion R xs
all_both P Q R f [] p q = tt
all_both P Q R f (x ∷ xs) p q = (f x p.0 q.0, all_both P Q R f xs p.1 q.1)

pub all_map : {A B : Type 0} (P : B → Type 0) (f : A → B) (xs : List A) → AllByRecursion P (map f xs) → AllByRecursion (λ x. P (f x)) xs
all_map P f [] h = tt
all_map P f (x ∷ xs) h = (h.0, all_map P f xs h.1)

-- what holds of each number that is made of an element holds of each that is among those
any_made : {A : Type 0} (P : ℕ → Type 0) (f : A → ℕ) (xs : List A) (j : ℕ) → AllByRecursion (λ x. P (f x)) xs → list_any (nat_eq j) (map f xs) ≡ true → P j
any_made P f [] j h e = absurd (false≢true e)
any_made P f (x ∷ xs) j h e =
    ⊎_elim (λ (t : nat_eq j (f x) ≡ true). subst P (sym (eqb-true j (f x) t)) h.0)
    (λ (n : nat_eq j (f x) ≡ false). any_made P f xs j h.1 (sym (ap (λ b. b || list_any (nat_eq j) (map f xs)) n) ∙ e))
    (cases_Bool (nat_eq j (f x)))

or_first : (b c : Bool) → b ≡ true → (b || c) ≡ true
or_first true c h = refl
or_first false c h = absurd (false≢true h)

or_second : (b c : Bool) → c ≡ true → (b || c) ≡ true
or_second true c h = refl
or_second false c h = h

-- what holds of each number that is among them holds of all
all_among : (P : ℕ → Type 0) (xs : List ℕ) → ((x : ℕ) → list_any (nat_eq x) xs ≡ true → P x) → AllByRecursion P xs
all_among P [] f = tt
all_among P (x ∷ xs) f = (
  f x (or_first (nat_eq x x) (list_any (nat_eq x) xs) (eq-eqb x x refl)),
  all_among P xs (λ y h. f y (or_second (nat_eq y x) (list_any (nat_eq y) xs) h)),
)

twice : {A B C : Type 0} (f : A → B) (g : B → C) (xs : List A) → map g (map f xs) ≡ map (λ x. g (f x)) xs
twice f g [] = refl
twice f g (x ∷ xs) = ap (λ l. g (f x) ∷ l) (twice f g xs)

some_there : {A : Type 0} (P : A → Type 0) (x : Option A) → IsSomeAnd x P → IsSomeAnd x (λ y. Unit {0})
some_there P None q = q
some_there P (Some y) q = tt

module _ {T : Type 0} (d : Domain T) (laws : FactLaws d) (plan : PlanLines) (nodes : List (NodeOf (FactOf T))) (solved : IsSolved (plan_rules d plan) nodes) where
  abbrev cells : List ℕ
  cells = cells_of plan

  abbrev es : List (At (FactOf T))
  es = facts_of nodes

  least : IsLeast d plan cells nodes
  least = record { solved = solved; over = refl }

  -- ---- what is included

  -- a fact that is included stands at its key, in a node that includes it
  pub record IsIn (e : At (FactOf T)) : Type 0 where
    pub below : place es e.key < length nodes
    pub key : (node_at d nodes (place es e.key)).key ≡ e.key
    pub above : includes d (node_at d nodes (place es e.key)).fact e.fact ≡ true

  facts_length : (ns : List (NodeOf (FactOf T))) → length (facts_of ns) ≡ length ns
  facts_length [] = refl
  facts_length (n ∷ ns) = ap suc (facts_length ns)

  is_in : (e : At (FactOf T)) → Included (plan_rules d plan) (fact_at es) e → IsIn e
  is_in e h =
      let long = facts_length nodes in
      let there = place-below_here es e.key (some_there (λ f. Below (plan_rules d plan) e.fact f) (fact_at es e.key) h) in
      let below : place es e.key < length nodes = omega (arith, long, there) in
      let key = node_key d nodes e.key below in
      let fact : fact_at es e.key ≡ Some (node_at d nodes (place es e.key)).fact =
      subst (λ (k : Key). fact_at es k ≡ Some (node_at d nodes (place es e.key)).fact) key (fact_here d plan cells nodes least (place es e.key) below) in
      let included : Below (plan_rules d plan) e.fact (node_at d nodes (place es e.key)).fact = subst (λ o. IsSomeAnd o (λ f. Below (plan_rules d plan) e.fact f)) fact h in
      record { below = below; key = key; above = included.holds }

  -- ---- starts

  pub start_in : AllByRecursion (λ s. IsIn (start_at d plan cells s)) plan.starts
  start_in =
      let start = λ (s : Start). start_at d plan cells s in
      let r = plan_rules d plan in
      all_both (λ s. Included r (fact_at es) (start s)) (λ s. Included r (fact_at es) (start s)) (λ s. IsIn (start s)) (λ s h _. is_in (start s) h) plan.starts
      (all_map (Included r (fact_at es)) start plan.starts solved.least.solution.candidate.starts)
      (all_map (Included r (fact_at es)) start plan.starts solved.least.solution.candidate.starts)

  -- ---- outcomes

  -- the number is one that the node lists: its key is the one that an outcome to its address leads to
  pub record IsNext (n : NodeOf (FactOf T)) (j : ℕ) : Type 0 where
    pub below : j < length nodes
    pub key : (node_at d nodes j).key ≡ next_context n.key (fields_at plan n.key.addr) (node_at d nodes j).key.addr

  -- listed numbers with one address are one
  pub one_next : (n : NodeOf (FactOf T)) (i j : ℕ) → IsNext n i → IsNext n j → (node_at d nodes i).key.addr ≡ (node_at d nodes j).key.addr → i ≡ j
  one_next n i j p q e =
      sym (numbered d plan cells nodes least i p.below)
      ∙ ap (place es) (p.key ∙ ap (next_context n.key (fields_at plan n.key.addr)) e ∙ sym q.key)
      ∙ numbered d plan cells nodes least j q.below

  -- an outcome's node: listed, at the target, and it includes the fact after the outcome
  pub record IsMet (n : NodeOf (FactOf T)) (o : OutcomeOf T) : Type 0 where
    pub next : IsNext n (place es (target_of d plan cells n o))
    pub listed : list_any (nat_eq (place es (target_of d plan cells n o))) n.succ ≡ true
    pub at : (node_at d nodes (place es (target_of d plan cells n o))).key.addr ≡ o.target
    pub above : includes d (node_at d nodes (place es (target_of d plan cells n o))).fact o.after ≡ true

  arriving_above : (t : List ℤ) (f : FactOf T) (b : Bool) → BelowFact d f (cond b (round d t f) f)
  arriving_above t f true = laws.rounding.above f t
  arriving_above t f false = laws.order.refl f

  next_of : (n : NodeOf (FactOf T)) (o : OutcomeOf T) → IsIn (arrival d plan (thresholds_of plan) n.key o) → IsNext n (place es (target_of d plan cells n o))
  next_of n o h = record {
    below = h.below;
    key = h.key ∙ ap (next_context n.key (fields_at plan n.key.addr)) (sym (ap (λ (k : Key). k.addr) h.key));
  }

  member : (n : NodeOf (FactOf T)) (k : Key) → IsListed d nodes n k → list_any (nat_eq (place es k)) n.succ ≡ true
  member n k h =
      let there = h.listed in
      let small : there.0 < length n.succ = there.1 in
      let is : get_or n.succ there.0 0 ≡ place es k = default_same n.succ there.0 small (place es k) ∙ there.2 in
      subst (λ (m : ℕ). list_any (nat_eq m) n.succ ≡ true) is (contains_any n.succ there.0 small)

  met_of : (n : NodeOf (FactOf T)) (o : OutcomeOf T) → IsIn (arrival d plan (thresholds_of plan) n.key o) → IsListed d nodes n (target_of d plan cells n o) → IsMet n o
  met_of n o h l =
      let t = thresholds_of plan in
      let f = (node_at d nodes (place es (target_of d plan cells n o))).fact in
      let arrived = arriving d t n.key.addr o in
      let up = laws.order.trans o.after arrived f (arriving_above t o.after (nat_le o.target n.key.addr)) ((laws.order.test arrived f).0 h.above) in
      record {
        next = next_of n o h;
        listed = member n (target_of d plan cells n o) l;
        at = ap (λ (k : Key). k.addr) h.key;
        above = (laws.order.test o.after f).1 up;
      }

  module _ (i : ℕ) (low : i < length nodes) where
    abbrev n : NodeOf (FactOf T)
    n = node_at d nodes i

    arrivals_in : AllByRecursion (λ o. IsIn (arrival d plan (thresholds_of plan) n.key o)) (outcomes_of d plan cells n)
    arrivals_in =
        let r = plan_rules d plan in
        let make = arrival d plan (thresholds_of plan) n.key in
        let included : AllByRecursion (Included r (fact_at es)) (map make (outcomes_of d plan cells n)) =
        subst (λ o. IfSome o (λ x. AllByRecursion (Included r (fact_at es)) (r.outcomes n.key x))) (fact_here d plan cells nodes least i low) (solved.least.solution.candidate.outcomes n.key) in
        let each = all_map (Included r (fact_at es)) make (outcomes_of d plan cells n) included in
        all_both (λ o. Included r (fact_at es) (make o)) (λ o. Included r (fact_at es) (make o)) (λ o. IsIn (make o)) (λ o h _. is_in (make o) h) (outcomes_of d plan cells n) each each

    -- each outcome has its node
    pub outcomes_met : AllByRecursion (IsMet n) (outcomes_of d plan cells n)
    outcomes_met =
        all_both (λ o. IsIn (arrival d plan (thresholds_of plan) n.key o)) (λ o. IsListed d nodes n (target_of d plan cells n o)) (IsMet n) (met_of n)
        (outcomes_of d plan cells n) arrivals_in (lead_on d plan cells nodes least i low)

    pub set : IsSetOf n.succ (map (λ o. place es (target_of d plan cells n o)) (outcomes_of d plan cells n))
    set =
        let r = plan_rules d plan in
        subst (IsSetOf n.succ) (twice (arrival d plan (thresholds_of plan) n.key) (λ (e : At (FactOf T)). place es e.key) (outcomes_of d plan cells n))
        (all_get (λ m. IsSetOf m.succ (map (λ e. place es e.key) (r.outcomes m.key m.fact))) nodes i (no_node d) solved.succ low)

    -- each listed number is that of an outcome
    pub all_next : AllByRecursion (IsNext n) n.succ
    all_next =
        all_among (IsNext n) n.succ
        (λ j h. any_made (IsNext n) (λ o. place es (target_of d plan cells n o)) (outcomes_of d plan cells n) j
        (all_both (λ o. IsIn (arrival d plan (thresholds_of plan) n.key o)) (λ o. IsIn (arrival d plan (thresholds_of plan) n.key o))
        (λ o. IsNext n (place es (target_of d plan cells n o))) (λ o h _. next_of n o h) (outcomes_of d plan cells n) arrivals_in arrivals_in)
        (sym (set.same j) ∙ h))
