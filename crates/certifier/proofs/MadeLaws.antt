-- The local conditions hold of the certificate of the least solution, and it is within its limits.
use Rattle.std.proofs.Common.{◌≡◌, ℕ, zero, suc, ◌-◌, ◌^◌, ◌<◌, ◌≤◌, Bool, true, false, not, ◌&&◌, ◌||◌, if◌then◌else◌, List, [], ◌∷◌, map, length, Option, Some, None, refl, sym, ap, ap₂, subst, ◌∙◌, arith}
use Rattle.std.specs.Prelude.{ℤ, pos, negsuc, ◌≤ℤ◌, int_le, IfSome, slice_get}
use Rattle.std.specs.List.{All, AllByRecursion, list_any, list_all}
use Rattle.std.proofs.lemmas.Bool.{eq-eqb, false≢true}
use Rattle.std.proofs.lemmas.Int.{ints}
use Rattle.std.proofs.lemmas.List.{length-map, length-take}
use Rattle.std.proofs.lemmas.Option.{get_or_from_slice_get}
use Rattle.num_domain.specs.Domain.{Domain}
use Rattle.memory_plan.specs.Plans.{PlanLines, is_marker}
use Rattle.memory_plan.specs.WellFormed.{IsWellFormed}
use Rattle.memory_plan.specs.declared.start.Start.{Start}
use Rattle.flag_relation.specs.Emptiness.{is_empty}
use Rattle.flag_relation.specs.Facts.{FactOf}
use Rattle.flag_relation.specs.Forms.{FormOf}
use Rattle.flag_relation.specs.Laws.{FactLaws}
use Rattle.rank_form.specs.Bounds.{upper, lower, rise}
use Rattle.abs_step.specs.declared.outcome.Cond.{Cond}
use Rattle.abs_step.specs.declared.outcome.Cond.TheVariants.{C5, C8, C9, C10, C11}
use Rattle.abs_step.specs.OutcomeLists.{OutcomeOf}
use Rattle.abs_step.specs.Conditions.{unless, keeps, outcomes}
use Rattle.flow_recover.specs.Cells.{is_cell, passing, cells_of}
use Rattle.fix_solver.specs.Solutions.{plan_rules, start_at}
use Rattle.fix_solver.specs.Solved.{NodeOf, IsSolved, facts_of}
use Rattle.fix_solver.specs.Tables.{place}
use Rattle.rank_nest.specs.Graph.{node_at, outcomes_of, target_of}
use Rattle.rank_nest.specs.Ranks.{AreRanks}
use Rattle.rank_nest.specs.Ready.{IsLeast}
use Rattle.rank_nest.specs.evidence.Steps.{all_get}
use Rattle.rank_nest.proofs.Solution.{faultless, fact_here}
use Rattle.cert_format.specs.Certificates.{CertificateOf}
use Rattle.cert_format.specs.Certificates.{NodeOf as CertNodeOf}
use Rattle.cert_format.specs.Limits.{IsBelow, IsNode, IsKeptNode, IsKeptCert, IsWithinLimits}
use Rattle.cert_checker.specs.Nodes.{successor}
use Rattle.cert_checker.specs.Judged.{IsFull, IsJudged}
use Rattle.cert_checker.specs.Conditions.{is_data, earlier, includes_after, c8, c9, c10, c11, covers_start, is_start_covered, falls_to, flow_fault, node_fault, LocalOfFull}
use Rattle.certifier.specs.Made.{rank_of, start_key, cert_node, cert_nodes, start_numbers, made}
use Rattle.certifier.proofs.Standing.{distinct, found}
use Rattle.certifier.proofs.Cells.{cells_ascend, cells_data}
use Rattle.certifier.proofs.NextNodes.{nodes_length, node_there}
use Rattle.certifier.proofs.Fewness.{set_few, outcomes_few}
use Rattle.certifier.proofs.RankLimits.{ranks_in}
use Rattle.certifier.proofs.Reaching.{all_both, IsIn, IsNext, IsMet, start_in, one_next, outcomes_met, set, all_next}

-- ---- lists

all_of : {A : Type 0} (P : A → Type 0) (xs : List A) → AllByRecursion P xs → All P xs
all_of P [] h k d l = absurd (omega arith)
all_of P (x ∷ xs) h zero d l = h.0
all_of P (x ∷ xs) h (suc k) d l = all_of P xs h.1 k d (omega arith)

by_recursion : {A : Type 0} (P : A → Type 0) (xs : List A) → All P xs → AllByRecursion P xs
by_recursion P [] h = tt
by_recursion P (x ∷ xs) h = (h 0 x (omega arith), by_recursion P xs (λ k d l. h (suc k) d (omega arith)))

weaker : {A : Type 0} (P Q : A → Type 0) → ((x : A) → P x → Q x) → (xs : List A) → AllByRecursion P xs → AllByRecursion Q xs
weaker P Q f [] h = tt
weaker P Q f (x ∷ xs) h = (f x h.0, weaker P Q f xs h.1)

pass_all : {A : Type 0} (p : A → Bool) (xs : List A) → AllByRecursion (λ x. p x ≡ true) xs → list_all p xs ≡ true
pass_all p [] h = refl
pass_all p (x ∷ xs) h = ap₂ ◌&&◌ h.0 (pass_all p xs h.1)

or_right : (b c : Bool) → c ≡ true → (b || c) ≡ true
or_right true c h = refl
or_right false c h = h

-- where each element passes at its own number, it passes at one of all numbers
any_own : {A : Type 0} (q : A → ℕ → Bool) (f : A → ℕ) (xs : List A) → AllByRecursion (λ x. q x (f x) ≡ true) xs → AllByRecursion (λ x. list_any (q x) (map f xs) ≡ true) xs
any_own q f [] h = tt
any_own q f (x ∷ xs) h = (
  ap (λ b. b || list_any (q x) (map f xs)) h.0,
  weaker (λ y. list_any (q y) (map f xs) ≡ true) (λ y. list_any (q y) (map f (x ∷ xs)) ≡ true)
      (λ y k. or_right (q y (f x)) (list_any (q y) (map f xs)) k) xs (any_own q f xs h.1),
)

map_all : {A B : Type 0} (P : B → Type 0) (f : A → B) (xs : List A) → AllByRecursion (λ x. P (f x)) xs → AllByRecursion P (map f xs)
map_all P f [] h = tt
map_all P f (x ∷ xs) h = (h.0, map_all P f xs h.1)

at_most : (a b : ℤ) → a ≤ℤ b → int_le a b ≡ true
at_most a b h = grind (arith, ints)

either : (b c : Bool) → (b ≡ false → c ≡ true) → (b || c) ≡ true
either true c f = refl
either false c f = f refl

none_either : {A : Type 0} (b : Bool) (o : Option A) → o ≡ None → (if b then None else o) ≡ None
none_either true o h = refl
none_either false o h = h

unless_none : (b : Bool) (c : Cond) (o : Option Cond) → b ≡ true → o ≡ None → unless b c o ≡ None
unless_none true c o h k = k
unless_none false c o h k = absurd (false≢true h)

module _ {T : Type 0} (d : Domain T) (laws : FactLaws d) (plan : PlanLines) (nodes : List (NodeOf (FactOf T))) (solved : IsSolved (plan_rules d plan) nodes) (ranks : List FormOf) (are : AreRanks d plan (cells_of plan) nodes ranks) where
  abbrev cells : List ℕ
  cells = cells_of plan

  abbrev cn : List (CertNodeOf T)
  cn = cert_nodes ranks 0 nodes

  abbrev g : ℕ → CertNodeOf T
  g j = cert_node (node_at d nodes j) (rank_of ranks j)

  abbrev number : NodeOf (FactOf T) → OutcomeOf T → ℕ
  number n o = place (facts_of nodes) (target_of d plan cells n o)

  there : (j : ℕ) → j < length nodes → slice_get cn j ≡ Some (g j)
  there j l = node_there ranks d 0 j nodes l ∙ ap (λ (k : ℕ). Some (cert_node (node_at d nodes j) (rank_of ranks k))) (omega arith)

  -- ---- starts

  start_covered : (s : Start) → IsIn d laws plan nodes solved (start_at d plan cells s) → covers_start d plan cells s (slice_get cn (place (facts_of nodes) (start_key s))) ≡ true
  start_covered s h =
      let j = place (facts_of nodes) (start_key s) in
      ap (covers_start d plan cells s) (there j h.below)
      ∙ ap₂ ◌&&◌ (eq-eqb (node_at d nodes j).key.addr s.at (ap (λ k. k.addr) h.key)) h.above

  starts_covered : AllByRecursion (λ s. is_start_covered d plan cells cn (start_numbers nodes plan.starts) s ≡ true) plan.starts
  starts_covered =
      any_own (λ s j. covers_start d plan cells s (slice_get cn j)) (λ s. place (facts_of nodes) (start_key s)) plan.starts
      (weaker (λ s. IsIn d laws plan nodes solved (start_at d plan cells s)) (λ s. covers_start d plan cells s (slice_get cn (place (facts_of nodes) (start_key s))) ≡ true) start_covered plan.starts (start_in d laws plan nodes solved))

  -- ---- one node

  module _ (i : ℕ) (low : i < length nodes) where
    abbrev n : NodeOf (FactOf T)
    n = node_at d nodes i

    abbrev P : ℕ → Type 0
    P = IsNext d laws plan nodes solved n

    next_there : (j : ℕ) → P j → slice_get cn j ≡ Some (g j)
    next_there j p = there j p.below

    one : (a b : ℕ) → P a → P b → (g a).addr ≡ (g b).addr → a ≡ b
    one a b p q e = one_next d laws plan nodes solved n a b p q e

    reached : (o : OutcomeOf T) → IsMet d laws plan nodes solved n o → successor cn n.succ o.target ≡ Some (g (number n o))
    reached o m = found cn g P next_there one n.succ (number n o) o.target (all_next d laws plan nodes solved i low) m.next m.listed m.at

    eighth : c8 d cells cn (g i) (outcomes_of d plan cells n) ≡ true
    unfolding c8
    eighth =
        ap₂ ◌&&◌ (distinct cn g P next_there one n.succ (all_next d laws plan nodes solved i low) (set d laws plan nodes solved i low).ascending)
        (pass_all (λ o. includes_after d cells o (successor cn n.succ o.target)) (outcomes_of d plan cells n)
        (weaker (IsMet d laws plan nodes solved n) (λ o. includes_after d cells o (successor cn n.succ o.target) ≡ true)
        (λ o m. ap (includes_after d cells o) (reached o m) ∙ m.above) (outcomes_of d plan cells n) (outcomes_met d laws plan nodes solved i low)))

    ninth : c9 d plan cells (λ _. 1) (g i) ≡ true
    unfolding c9
    ninth = at_most (pos 1) (lower d (rank_of ranks i) n.fact) (are.positive i low)

    falls : (o : OutcomeOf T) → IsMet d laws plan nodes solved n o → (is_marker plan o.target ≡ false → rise d (rank_of ranks i) (rank_of ranks (number n o)) o ≤ℤ negsuc 0)
        → (is_marker plan o.target || falls_to d plan cells (λ _. 1) (g i) o (successor cn n.succ o.target)) ≡ true
    falls o m h =
        either (is_marker plan o.target) (falls_to d plan cells (λ _. 1) (g i) o (successor cn n.succ o.target))
        (λ e. ap (falls_to d plan cells (λ _. 1) (g i) o) (reached o m) ∙ at_most (rise d (rank_of ranks i) (rank_of ranks (number n o)) o) (negsuc 0) (h e))

    tenth : c10 d plan cells (λ _. 1) cn (g i) (outcomes_of d plan cells n) ≡ true
    unfolding c10
    tenth =
        let fall = λ (o : OutcomeOf T). is_marker plan o.target ≡ false → rise d (rank_of ranks i) (rank_of ranks (number n o)) o ≤ℤ negsuc 0 in
        pass_all (λ o. is_marker plan o.target || falls_to d plan cells (λ _. 1) (g i) o (successor cn n.succ o.target)) (outcomes_of d plan cells n)
        (all_both (IsMet d laws plan nodes solved n) fall (λ o. (is_marker plan o.target || falls_to d plan cells (λ _. 1) (g i) o (successor cn n.succ o.target)) ≡ true)
        falls (outcomes_of d plan cells n) (outcomes_met d laws plan nodes solved i low) (by_recursion fall (outcomes_of d plan cells n) (are.falls i low)))

    eleventh : c11 d plan cells (g i) ≡ true
    unfolding c11
    eleventh =
        let under = are.bounded i low in
        or_right (not (is_marker plan n.key.addr)) (int_le (upper d (rank_of ranks i) n.fact) (pos (2 ^ 63 - 1)))
        (at_most (upper d (rank_of ranks i) n.fact) (pos (2 ^ 63 - 1)) (omega (arith, ints, under)))

    no_fault : node_fault d plan cells (λ _. 1) cn (g i) ≡ None
    unfolding node_fault flow_fault
    no_fault =
        let least : IsLeast d plan cells nodes = record { solved = solved; over = refl } in
        let os = outcomes d plan cells n.key.addr n.fact in
        ap (λ o. earlier o (flow_fault d plan cells (λ _. 1) cn (g i) os)) (faultless d plan cells nodes least i low)
        ∙ none_either (is_empty d n.fact)
        (unless (c8 d cells cn (g i) os) C8 (unless (c9 d plan cells (λ _. 1) (g i)) C9 (unless (c10 d plan cells (λ _. 1) cn (g i) os) C10 (unless (c11 d plan cells (g i)) C11 None))))
        (unless_none (c8 d cells cn (g i) os) C8 _ eighth
        (unless_none (c9 d plan cells (λ _. 1) (g i)) C9 _ ninth
        (unless_none (c10 d plan cells (λ _. 1) cn (g i) os) C10 _ tenth
        (unless_none (c11 d plan cells (g i)) C11 None eleventh refl))))

    -- ---- limits of one node

    few_succ : length n.succ ≤ 65
    few_succ =
        let r = plan_rules d plan in
        let least : IsLeast d plan cells nodes = record { solved = solved; over = refl } in
        let kept : (c : Cond) → keeps d plan cells n.key.addr c n.fact ≡ true =
        subst (λ o. IfSome o (λ f. (c : Cond) → r.keeps n.key f c ≡ true)) (fact_here d plan cells nodes least i low) (solved.least.solution.keeps n.key) in
        let s = set d laws plan nodes solved i low in
        let few = outcomes_few d plan cells n.key.addr n.fact (kept C5) in
        let fewer = set_few n.succ (map (number n) (outcomes_of d plan cells n)) s.ascending s.same in
        let long = length-map (outcomes_of d plan cells n) (number n) in
        omega (arith, few, fewer, long)

    node_in : IsKeptNode (length cells) (g i) → IsNode (length cells) (length cn) (g i)
    node_in kept =
        let long = nodes_length ranks 0 nodes in
        record {
          addr = kept.addr;
          fact = kept.fact;
          few = few_succ;
          succ = weaker P (IsBelow (length cn)) (λ j p. let under = p.below in omega (arith, long, under)) n.succ (all_next d laws plan nodes solved i low);
          rank = ranks_in d plan cells nodes ranks (are.of_nest (omega (arith, low))) i low;
        }

  -- ---- the whole certificate

  abbrev c : CertificateOf T
  c = made plan cells nodes ranks

  each_node : (P : CertNodeOf T → Type 0) → ((i : ℕ) → i < length nodes → P (g i)) → All P cn
  each_node P h k e l =
      let long = nodes_length ranks 0 nodes in
      let low : k < length nodes = omega (arith, long, l) in
      subst P (sym (get_or_from_slice_get cn k (g k) e (there k low))) (h k low)

  pub made_local : LocalOfFull d plan (λ _. 1) c
  made_local = record {
    cells = all_of (λ at. is_data plan at ≡ true) cells (cells_data plan);
    starts = all_of (λ s. is_start_covered d plan cells cn c.starts s ≡ true) plan.starts starts_covered;
    nodes = each_node (λ m. node_fault d plan cells (λ _. 1) cn m ≡ None) no_fault;
  }

  all_full : (i : ℕ) (ns : List (NodeOf (FactOf T))) → AllByRecursion IsFull (cert_nodes ranks i ns)
  all_full i [] = tt
  all_full i (m ∷ ns) = (refl, all_full (suc i) ns)

  made_within : IsWellFormed plan → IsKeptCert c → IsWithinLimits c
  made_within well kept =
      let long = nodes_length ranks 0 nodes in
      let few = solved.few in
      let taken = length-take 32 (passing (is_cell plan) 0 (2 ^ 20)) in
      let counted = length-map plan.starts (λ s. place (facts_of nodes) (start_key s)) in
      let starts_few = well.starts.few in
      record {
        few_cells = omega (arith, taken);
        cells = cells_ascend plan;
        few_starts = omega (arith, counted, starts_few);
        starts = map_all (IsBelow (length cn)) (λ s. place (facts_of nodes) (start_key s)) plan.starts
            (weaker (λ s. IsIn d laws plan nodes solved (start_at d plan cells s)) (λ s. place (facts_of nodes) (start_key s) < length cn)
            (λ s h. let under = h.below in omega (arith, long, under)) plan.starts (start_in d laws plan nodes solved));
        few_nodes = omega (arith, long, few);
        nodes = by_recursion (IsNode (length cells) (length cn)) cn
            (each_node (IsNode (length cells) (length cn)) (λ i low. node_in i low (one_kept i low)));
      }
    where
      one_kept : (i : ℕ) → i < length nodes → IsKeptNode (length cells) (g i)
      one_kept i low =
          let long = nodes_length ranks 0 nodes in
          subst (IsKeptNode (length cells)) (get_or_from_slice_get cn i (g i) (g i) (there i low)) (all_get (IsKeptNode (length cells)) cn i (g i) kept.nodes (omega (arith, long, low)))

  pub made_judged : IsWellFormed plan → IsKeptCert c → IsJudged c
  made_judged well kept = record { limits = made_within well kept; full = all_full 0 nodes }

  -- the number of each start's key is that of a key
  pub starts_there : AllByRecursion (λ s. place (facts_of nodes) (start_key s) < length nodes) plan.starts
  starts_there = weaker (λ s. IsIn d laws plan nodes solved (start_at d plan cells s)) (λ s. place (facts_of nodes) (start_key s) < length nodes) (λ s h. h.below) plan.starts (start_in d laws plan nodes solved)
