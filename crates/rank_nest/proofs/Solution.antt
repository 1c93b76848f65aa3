-- The least solution by its keys' numbers: what is there, and where outcomes lead.
use Rattle.std.specs.Prelude.{◌≡◌, ℕ, zero, suc, ◌<◌, ◌≤◌, Result, Ok, Err, MatchResult, take, Bool, true, false, cond, ◌||◌, nat_eq, Option, Some, None, IfSome, IsSomeAnd, List, [], ◌∷◌, map, length, get_or}
use Rattle.std.specs.List.{AllByRecursion, Contains, list_any, IsDistinct}
use Rattle.std.specs.List.Sorted.{IsStrictlySortedBy}
use Rattle.std.specs.Ordering.{is_eq}
use Rattle.std.specs.Result.{is_err}
use Rattle.std.specs.declared.cmp.Ordering.TheVariants.{Less}
use Rattle.std.proofs.Common.{refl, arith, sym, ap, subst, ◌∙◌, ⊎_elim}
use Rattle.std.proofs.lemmas.Bool.{false≢true, eqb-true, eq-eqb, cases_Bool, or_left, or_right}
use Rattle.num_domain.specs.Domain.{Domain}
use Rattle.memory_plan.specs.Plans.{PlanLines}
use Rattle.flag_relation.specs.Facts.{FactOf}
use Rattle.abs_step.specs.declared.outcome.Cond.{Cond}
use Rattle.abs_step.specs.declared.outcome.Cond.TheVariants.{C1, C2, C3, C4, C5, C6, C7}
use Rattle.abs_step.specs.Conditions.{unless, keeps, fault, outcomes}
use Rattle.abs_step.specs.OutcomeLists.{OutcomeOf}
use Rattle.flow_recover.specs.declared.key.Key.{Key}
use Rattle.flow_recover.specs.Cells.{cells_of}
use Rattle.flow_recover.specs.Keys.{same_key, key_cmp}
use Rattle.flow_recover.specs.Thresholds.{thresholds_of}
use Rattle.flow_recover.proofs.KeyLemmas.{is_eq-key_cmp}
use Rattle.fix_solver.specs.declared.at.At.{At}
use Rattle.fix_solver.specs.Rules.{Fits, Below, Included}
use Rattle.fix_solver.specs.Order.{IsSetOf}
use Rattle.fix_solver.specs.Solutions.{plan_rules, arrival}
use Rattle.fix_solver.specs.Solved.{NodeOf, facts_of}
use Rattle.fix_solver.specs.Tables.{place_of, keys_of, fact_at, place}
use Rattle.fix_solver.proofs.Given.{place-below_here}
use Rattle.fix_solver.proofs.NumberLemmas.{key_at, number_at}
use Rattle.fix_solver.proofs.TableLemmas.{here_below, at_place}
use Rattle.rank_nest.specs.Graph.{no_node, node_at, outcomes_of, target_of}
use Rattle.rank_nest.specs.Ready.{IsLeast}
use Rattle.rank_nest.specs.Targets.{AreNumbered, IsListed, LeadOn}
use Rattle.rank_nest.specs.evidence.Steps.{all_get}

-- ---- lists

any_contains : (x : ℕ) (xs : List ℕ) → list_any (nat_eq x) xs ≡ true → Contains xs x
any_contains x [] h = absurd (false≢true h)
any_contains x (y ∷ ys) h =
    ⊎_elim (λ (t : nat_eq x y ≡ true). (0, omega arith, sym (eqb-true x y t)))
    (λ (f : nat_eq x y ≡ false).
    let r = any_contains x ys (sym (ap (λ b. b || list_any (nat_eq x) ys) f) ∙ h) in
    let b : r.0 < length ys = r.1 in
    (suc r.0, omega arith, r.2))
    (cases_Bool (nat_eq x y))

pub contains_any : (xs : List ℕ) (i : ℕ) → i < length xs → list_any (nat_eq (get_or xs i 0)) xs ≡ true
contains_any [] i h = absurd (omega arith)
contains_any (y ∷ ys) zero h = or_left (nat_eq y y) (list_any (nat_eq y) ys) (eq-eqb y y refl)
contains_any (y ∷ ys) (suc i) h = or_right (nat_eq (get_or ys i 0) y) (list_any (nat_eq (get_or ys i 0)) ys) (contains_any ys i (omega arith))

any_all : (P : ℕ → Type 0) (xs : List ℕ) (x : ℕ) → AllByRecursion P xs → list_any (nat_eq x) xs ≡ true → P x
any_all P [] x h e = absurd (false≢true e)
any_all P (y ∷ ys) x h e =
    ⊎_elim (λ (t : nat_eq x y ≡ true). subst P (sym (eqb-true x y t)) h.0)
    (λ (f : nat_eq x y ≡ false). any_all P ys x h.1 (sym (ap (λ b. b || list_any (nat_eq x) ys) f) ∙ e))
    (cases_Bool (nat_eq x y))

map_all : {A B : Type 0} (P : B → Type 0) (f : A → B) (xs : List A) → AllByRecursion (λ x. P (f x)) xs → AllByRecursion P (map f xs)
map_all P f [] h = tt
map_all P f (x ∷ xs) h = (h.0, map_all P f xs h.1)

all_map : {A B : Type 0} (P : B → Type 0) (f : A → B) (xs : List A) → AllByRecursion P (map f xs) → AllByRecursion (λ x. P (f x)) xs
all_map P f [] h = tt
all_map P f (x ∷ xs) h = (h.0, all_map P f xs h.1)

all_weaker : {A : Type 0} (P Q : A → Type 0) (xs : List A) → ((x : A) → P x → Q x) → AllByRecursion P xs → AllByRecursion Q xs
all_weaker P Q [] f h = tt
all_weaker P Q (x ∷ xs) f h = (f x h.0, all_weaker P Q xs f h.1)

pub default_same : (xs : List ℕ) (j : ℕ) → j < length xs → (x : ℕ) → get_or xs j 0 ≡ get_or xs j x
default_same [] j h x = absurd (omega arith)
default_same (y ∷ ys) zero h x = refl
default_same (y ∷ ys) (suc j) h x = default_same ys j (omega arith) x

-- each item's number is among the numbers of all
among : {A : Type 0} (f : A → ℕ) (xs : List A) → AllByRecursion (λ x. list_any (nat_eq (f x)) (map f xs) ≡ true) xs
among f [] = tt
among f (x ∷ xs) = (
  or_left (nat_eq (f x) (f x)) (list_any (nat_eq (f x)) (map f xs)) (eq-eqb (f x) (f x) refl),
  all_weaker (λ y. list_any (nat_eq (f y)) (map f xs) ≡ true) (λ y. list_any (nat_eq (f y)) (map f (x ∷ xs)) ≡ true) xs
      (λ y h. or_right (nat_eq (f y) (f x)) (list_any (nat_eq (f y)) (map f xs)) h) (among f xs),
)

pub no_err : {A E : Type 0} (o : Option E) (r : Result A E) → o ≡ None → is_err r ≡ true → MatchResult r (λ _. o ≡ None) (λ e. o ≡ Some e) → ⊥
no_err o (Ok v) n h m = false≢true h
no_err o (Err e) n h m = let bad : None ≡ Some e = sym n ∙ m in absurd cc

take_few : {A : Type 0} (n : ℕ) (xs : List A) → length (take n xs) ≤ n
take_few zero xs = omega arith
take_few (suc n) [] = omega arith
take_few (suc n) (x ∷ xs) = omega (arith, take_few n xs)

some_there : {A : Type 0} (P : A → Type 0) (x : Option A) → IsSomeAnd x P → IsSomeAnd x (λ y. Unit {0})
some_there P None q = q
some_there P (Some y) q = tt

distinct_from : (ks : List Key) → IsStrictlySortedBy key_cmp ks → IsDistinct same_key ks
unfolding IsStrictlySortedBy IsDistinct
distinct_from [] h = tt
distinct_from (k ∷ ks) h =
    (all_weaker (λ y. key_cmp k y ≡ Less) (λ y. same_key k y ≡ false) ks (λ y e. sym (is_eq-key_cmp k y) ∙ ap is_eq e) h.0, distinct_from ks h.1)

module _ {T : Type 0} (d : Domain T) where
  keys_at : (ns : List (NodeOf (FactOf T))) (i : ℕ) (k : Key) → i < length ns → get_or (keys_of (facts_of ns)) i k ≡ (node_at d ns i).key
  keys_at [] i k h = absurd (omega arith)
  keys_at (n ∷ ns) zero k h = refl
  keys_at (n ∷ ns) (suc i) k h = keys_at ns i k (omega arith)

  facts_here : (ns : List (NodeOf (FactOf T))) (i : ℕ) → i < length ns → (get_or (facts_of ns) i (record { key = (no_node d).key; fact = (no_node d).fact })).fact ≡ (node_at d ns i).fact
  facts_here [] i h = absurd (omega arith)
  facts_here (n ∷ ns) zero h = refl
  facts_here (n ∷ ns) (suc i) h = facts_here ns i (omega arith)

  keys_length : (ns : List (NodeOf (FactOf T))) → length (keys_of (facts_of ns)) ≡ length ns
  keys_length [] = refl
  keys_length (n ∷ ns) = ap suc (keys_length ns)

  facts_length : (ns : List (NodeOf (FactOf T))) → length (facts_of ns) ≡ length ns
  facts_length [] = refl
  facts_length (n ∷ ns) = ap suc (facts_length ns)

  -- the key of a key's number is that key
  pub node_key : (ns : List (NodeOf (FactOf T))) (t : Key) → place (facts_of ns) t < length ns → (node_at d ns (place (facts_of ns) t)).key ≡ t
  node_key ns t h =
      let long = keys_length ns in
      let below : place_of (keys_of (facts_of ns)) t < length (keys_of (facts_of ns)) = omega arith in
      sym (keys_at ns (place (facts_of ns) t) t h) ∙ key_at (keys_of (facts_of ns)) t t below

unless_true : (b : Bool) (c : Cond) (o : Option Cond) → b ≡ true → unless b c o ≡ o
unless_true b c o h = ap (λ x. cond x o (Some c)) h

pub few_cells : (plan : PlanLines) (cells : List ℕ) → cells ≡ cells_of plan → length cells ≤ 32
few_cells plan cells e = subst (λ cs. length cs ≤ 32) (sym e) (take_few 32 _)

module _ {T : Type 0} (d : Domain T) (plan : PlanLines) (cells : List ℕ) where
  no_fault : (at : ℕ) (f : FactOf T) → ((c : Cond) → keeps d plan cells at c f ≡ true) → fault d plan cells at f ≡ None
  unfolding fault
  no_fault at f h =
      unless_true _ C1 _ (h C1) ∙ unless_true _ C2 _ (h C2) ∙ unless_true _ C3 _ (h C3) ∙ unless_true _ C4 _ (h C4) ∙ unless_true _ C5 _ (h C5)
      ∙ unless_true _ C6 _ (h C6) ∙ unless_true _ C7 None (h C7)

  module _ (nodes : List (NodeOf (FactOf T))) (least : IsLeast d plan cells nodes) where
    pub numbered : AreNumbered d nodes
    numbered i h =
        let k = (node_at d nodes i).key in
        let ks = keys_of (facts_of nodes) in
        let long = keys_length d nodes in
        let below : i < length ks = omega arith in
        ap (place_of ks) (sym (keys_at d nodes i k h)) ∙ number_at ks i k (distinct_from ks least.solved.ascending) below

    pub fact_here : (i : ℕ) → i < length nodes → fact_at (facts_of nodes) (node_at d nodes i).key ≡ Some (node_at d nodes i).fact
    fact_here i h =
        let k = (node_at d nodes i).key in
        let e : At (FactOf T) = record { key = (no_node d).key; fact = (no_node d).fact } in
        let long = facts_length d nodes in
        let number = numbered i h in
        let below : place (facts_of nodes) k < length (facts_of nodes) = omega arith in
        (at_place (facts_of nodes) k e (here_below (facts_of nodes) k below)).1
        ∙ ap (λ j. Some (get_or (facts_of nodes) j e).fact) number ∙ ap Some (facts_here d nodes i h)

    -- no condition fails at a key
    pub faultless : (i : ℕ) → i < length nodes → fault d plan cells (node_at d nodes i).key.addr (node_at d nodes i).fact ≡ None
    faultless i h =
        let n = node_at d nodes i in
        let r = plan_rules d plan in
        let kept : (c : Cond) → keeps d plan (cells_of plan) n.key.addr c n.fact ≡ true =
        subst (λ o. IfSome o (λ f. (c : Cond) → r.keeps n.key f c ≡ true)) (fact_here i h) (least.solved.least.solution.keeps n.key) in
        no_fault n.key.addr n.fact (subst (λ cs. (c : Cond) → keeps d plan cs n.key.addr c n.fact ≡ true) (sym least.over) kept)

    -- its fact is over the cells
    pub over_cells : (i : ℕ) → i < length nodes → length (node_at d nodes i).fact.cells ≡ length cells
    over_cells i h =
        let fit = all_get (λ n. Fits (plan_rules d plan) n.fact) nodes i (no_node d) least.solved.fit h in
        eqb-true _ _ fit.holds ∙ ap length (sym least.over)

    -- each outcome there leads to a key that is listed
    pub lead_on : (i : ℕ) → i < length nodes → LeadOn d plan cells nodes (node_at d nodes i) (outcomes_of d plan cells (node_at d nodes i))
    lead_on i h =
        let n = node_at d nodes i in
        let r = plan_rules d plan in
        let t = thresholds_of plan in
        let es = facts_of nodes in
        let os = outcomes d plan (cells_of plan) n.key.addr n.fact in
        let f = λ (o : OutcomeOf T). place es (target_of d plan cells n o) in
        let included : AllByRecursion (Included r (fact_at es)) (r.outcomes n.key n.fact) =
        subst (λ o. IfSome o (λ x. AllByRecursion (Included r (fact_at es)) (r.outcomes n.key x))) (fact_here i h) (least.solved.least.solution.candidate.outcomes n.key) in
        let below : AllByRecursion (λ o. f o < length nodes) os =
        all_weaker (λ o. Included r (fact_at es) (arrival d plan t n.key o)) (λ o. f o < length nodes) os
        (λ o s. below_from o s) (all_map (Included r (fact_at es)) (arrival d plan t n.key) os included) in
        let set : IsSetOf n.succ (map (λ e. place es e.key) (r.outcomes n.key n.fact)) =
        all_get (λ m. IsSetOf m.succ (map (λ e. place es e.key) (r.outcomes m.key m.fact))) nodes i (no_node d) least.solved.succ h in
        subst (λ cs. AllByRecursion (λ o. IsListed d nodes n (target_of d plan cells n o)) (outcomes d plan cs n.key.addr n.fact)) (sym least.over)
        (all_weaker (λ o. list_any (nat_eq (f o)) (map f os) ≡ true) (λ o. IsListed d nodes n (target_of d plan cells n o)) os
        (λ o member. record {
          below = λ j x lt. all_below set below j x lt;
          listed = any_contains (f o) n.succ (set.same (f o) ∙ ap (list_any (nat_eq (f o))) (twice os) ∙ member);
        })
        (among f os))
      where
        n' : NodeOf (FactOf T)
        n' = node_at d nodes i

        below_from : (o : OutcomeOf T) → Included (plan_rules d plan) (fact_at (facts_of nodes)) (arrival d plan (thresholds_of plan) n'.key o) → place (facts_of nodes) (target_of d plan cells n' o) < length nodes
        below_from o s =
            let long = facts_length d nodes in
            let there = some_there (λ f. Below (plan_rules d plan) (arrival d plan (thresholds_of plan) n'.key o).fact f) (fact_at (facts_of nodes) (target_of d plan cells n' o)) s in
            let b = place-below_here (facts_of nodes) (target_of d plan cells n' o) there in
            omega arith

        twice : (os : List (OutcomeOf T)) → map (λ e. place (facts_of nodes) e.key) (map (arrival d plan (thresholds_of plan) n'.key) os) ≡ map (λ o. place (facts_of nodes) (target_of d plan cells n' o)) os
        twice [] = refl
        twice (o ∷ os) = ap (λ l. place (facts_of nodes) (target_of d plan cells n' o) ∷ l) (twice os)

        all_below : IsSetOf n'.succ (map (λ e. place (facts_of nodes) e.key) ((plan_rules d plan).outcomes n'.key n'.fact))
            → AllByRecursion (λ o. place (facts_of nodes) (target_of d plan cells n' o) < length nodes) (outcomes d plan (cells_of plan) n'.key.addr n'.fact)
            → (j x : ℕ) → j < length n'.succ → get_or n'.succ j x < length nodes
        all_below set below j x lt =
            let os = outcomes d plan (cells_of plan) n'.key.addr n'.fact in
            let f = λ (o : OutcomeOf T). place (facts_of nodes) (target_of d plan cells n' o) in
            let v = get_or n'.succ j 0 in
            let member : list_any (nat_eq v) (map f os) ≡ true = sym (ap (list_any (nat_eq v)) (twice os)) ∙ sym (set.same v) ∙ contains_any n'.succ j lt in
            let small : get_or n'.succ j 0 < length nodes = any_all (λ k. k < length nodes) (map f os) v (map_all (λ k. k < length nodes) f os below) member in
            subst (λ k. k < length nodes) (default_same n'.succ j lt x) small
