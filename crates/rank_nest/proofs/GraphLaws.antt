-- The graph of the least solution: its edges in order, between its keys, one for each outcome that leads to
-- no marker.
use Rattle.std.specs.Prelude.{◌≡◌, ℕ, zero, suc, ◌+◌, ◌<◌, ◌≤◌, Bool, true, false, cond, List, [], ◌∷◌, ◌++◌, length, get_or}
use Rattle.std.specs.List.{All, AllPairs, AllByRecursion, Contains}
use Rattle.std.proofs.Common.{refl, arith, sym, subst, ◌∙◌}
use Rattle.std.proofs.lemmas.List.FromFn.{length-range_with_len, get_or-range_with_len}
use Rattle.std.proofs.lemmas.List.Elements.{Contains-get_or}
use Rattle.num_domain.specs.Domain.{Domain}
use Rattle.memory_plan.specs.Plans.{PlanLines, is_marker}
use Rattle.flag_relation.specs.Facts.{FactOf}
use Rattle.abs_step.specs.OutcomeLists.{OutcomeOf}
use Rattle.fix_solver.specs.Solved.{NodeOf, facts_of}
use Rattle.fix_solver.specs.Tables.{place}
use Rattle.strong_components.specs.declared.edge.Edge.{Edge}
use Rattle.strong_components.specs.Steps.{BySource}
use Rattle.rank_shape.specs.Places.{EndsIn}
use Rattle.rank_shape.specs.declared.moves.Moves.{Moves}
use Rattle.rank_shape.specs.Nests.{IsFirstStuck}
use Rattle.rank_shape.proofs.Theory.{first_is_stuck}
use Rattle.rank_nest.specs.Graph.{StepOf, edges_from, node_at, outcomes_of, target_of, steps_at, steps_from, steps, graph}
use Rattle.rank_nest.specs.Forms.{step_at}
use Rattle.rank_nest.specs.Ready.{IsLeast}
use Rattle.rank_nest.specs.Targets.{IsListed}
use Rattle.rank_nest.specs.Ranks.{keys_below}
use Rattle.rank_nest.specs.evidence.Steps.{all_get, all_both, edges_length, is_edge}
use Rattle.rank_nest.proofs.Solution.{lead_on}

-- ---- keys

pub has_key : (n i : ℕ) → i < n → Contains (keys_below n) i
has_key n i h =
    let long = length-range_with_len 0 n in
    (i, omega arith, get_or-range_with_len 0 n i i h ∙ omega arith)

pub key_below : (n i : ℕ) → Contains (keys_below n) i → i < n
key_below n i c =
    let k : ℕ = c.0 in
    let below : k < length (keys_below n) = c.1 in
    let long = length-range_with_len 0 n in
    let lt : k < n = omega arith in
    let is : 0 + k ≡ i = sym (get_or-range_with_len 0 n k i lt) ∙ c.2 in
    omega arith

pub keys_all : (n : ℕ) → All (λ k. k < n) (keys_below n)
keys_all n k x h =
    let long = length-range_with_len 0 n in
    let lt : k < n = omega arith in
    let is : get_or (keys_below n) k x ≡ 0 + k = get_or-range_with_len 0 n k x lt in
    omega arith

pub keys_ascend : (n : ℕ) → AllPairs (λ a b. a < b) (keys_below n)
keys_ascend n i j x lt h =
    let long = length-range_with_len 0 n in
    let jn : j < n = omega arith in
    let in' : i < n = omega arith in
    let a : get_or (keys_below n) i x ≡ 0 + i = get_or-range_with_len 0 n i x in' in
    let b : get_or (keys_below n) j x ≡ 0 + j = get_or-range_with_len 0 n j x jn in
    omega arith

-- ---- the order of edges

module _ {T : Type 0} where
  abbrev Rising : List (StepOf T) → Type 0
  Rising [] = Unit {0}
  Rising (s ∷ ss) = AllByRecursion (λ t. s.from ≤ t.from) ss × Rising ss

  same_rises : (i : ℕ) (ss : List (StepOf T)) → AllByRecursion (λ t. t.from ≡ i) ss → Rising ss
  same_rises i [] h = tt
  same_rises i (s ∷ ss) h = (below ss h.1, same_rises i ss h.1)
    where
      below : (ts : List (StepOf T)) → AllByRecursion (λ t. t.from ≡ i) ts → AllByRecursion (λ t. s.from ≤ t.from) ts
      below [] k = tt
      below (t ∷ ts) k = (le h.0 k.0, below ts k.1)
        where
          le : {a b : ℕ} → a ≡ i → b ≡ i → a ≤ b
          le x y = omega arith

  both_rise : (i : ℕ) (ss ts : List (StepOf T)) → Rising ss → Rising ts → AllByRecursion (λ t. t.from ≡ i) ss → AllByRecursion (λ t. i ≤ t.from) ts → Rising (ss ++ ts)
  both_rise i [] ts a b h k = b
  both_rise i (s ∷ ss) ts a b h k = (all_both (λ t. s.from ≤ t.from) ss ts a.0 (below ts k), both_rise i ss ts a.1 b h.1 k)
    where
      below : (us : List (StepOf T)) → AllByRecursion (λ t. i ≤ t.from) us → AllByRecursion (λ t. s.from ≤ t.from) us
      below [] q = tt
      below (u ∷ us) q = (subst (λ x. x ≤ u.from) (sym h.0) q.0, below us q.1)

  rising_pairs : (name : ℕ) (ss : List (StepOf T)) (i j : ℕ) (e : Edge) → Rising ss → i < j → j < length ss → (get_or (edges_from name ss) i e).from ≤ (get_or (edges_from name ss) j e).from
  unfolding edges_from
  rising_pairs name [] i j e r lt h = absurd (omega arith)
  rising_pairs name (s ∷ ss) zero zero e r lt h = absurd (omega arith)
  rising_pairs name (s ∷ ss) zero (suc j) e r lt h = later (suc name) ss j r.0 (omega arith)
    where
      later : (n : ℕ) (ts : List (StepOf T)) (k : ℕ) → AllByRecursion (λ t. s.from ≤ t.from) ts → k < length ts → s.from ≤ (get_or (edges_from n ts) k e).from
      later n [] k q b = absurd (omega arith)
      later n (t ∷ ts) zero q b = q.0
      later n (t ∷ ts) (suc k) q b = later (suc n) ts k q.1 (omega arith)
  rising_pairs name (s ∷ ss) (suc i) zero e r lt h = absurd (omega arith)
  rising_pairs name (s ∷ ss) (suc i) (suc j) e r lt h = rising_pairs (suc name) ss i j e r.1 (omega arith) (omega arith)

module _ {T : Type 0} (d : Domain T) (plan : PlanLines) (cells : List ℕ) (nodes : List (NodeOf (FactOf T))) where
  at_from : (i k : ℕ) (n : NodeOf (FactOf T)) (os : List (OutcomeOf T)) → AllByRecursion (λ t. t.from ≡ i) (steps_at d plan cells nodes i n k os)
  unfolding steps_at
  at_from i k n [] = tt
  at_from i k n (o ∷ os) = by (is_marker plan o.target) (at_from i (suc k) n os)
    where
      by : (b : Bool) → AllByRecursion (λ t. t.from ≡ i) (steps_at d plan cells nodes i n (suc k) os)
          → AllByRecursion (λ t. t.from ≡ i) (cond b (steps_at d plan cells nodes i n (suc k) os) (record { from = i; to = place (facts_of nodes) (target_of d plan cells n o); ordinal = k; outcome = o } ∷ steps_at d plan cells nodes i n (suc k) os))
      by true h = h
      by false h = (refl, h)

  weaken : (i j : ℕ) (ss : List (StepOf T)) → i ≤ j → AllByRecursion (λ t. j ≤ t.from) ss → AllByRecursion (λ t. i ≤ t.from) ss
  weaken i j [] h k = tt
  weaken i j (s ∷ ss) h k = (le i j s.from h k.0, weaken i j ss h k.1)
    where
      le : (a b c : ℕ) → a ≤ b → b ≤ c → a ≤ c
      le a b c x y = omega arith

  equal_from : (i : ℕ) (ss : List (StepOf T)) → AllByRecursion (λ t. t.from ≡ i) ss → AllByRecursion (λ t. i ≤ t.from) ss
  equal_from i [] h = tt
  equal_from i (s ∷ ss) h = (le i s.from h.0, equal_from i ss h.1)
    where
      le : (a b : ℕ) → b ≡ a → a ≤ b
      le a b e = omega arith

  from_least : (i : ℕ) (ns : List (NodeOf (FactOf T))) → AllByRecursion (λ t. i ≤ t.from) (steps_from d plan cells nodes i ns)
  unfolding steps_from
  from_least i [] = tt
  from_least i (n ∷ ns) =
      all_both (λ t. i ≤ t.from) (steps_at d plan cells nodes i n 0 (outcomes_of d plan cells n)) (steps_from d plan cells nodes (suc i) ns)
      (equal_from i _ (at_from i 0 n (outcomes_of d plan cells n))) (weaken i (suc i) _ (omega arith) (from_least (suc i) ns))

  from_rises : (i : ℕ) (ns : List (NodeOf (FactOf T))) → Rising (steps_from d plan cells nodes i ns)
  unfolding steps_from
  from_rises i [] = tt
  from_rises i (n ∷ ns) =
      let first = steps_at d plan cells nodes i n 0 (outcomes_of d plan cells n) in
      let rest = steps_from d plan cells nodes (suc i) ns in
      both_rise i first rest (same_rises i first (at_from i 0 n (outcomes_of d plan cells n))) (from_rises (suc i) ns) (at_from i 0 n (outcomes_of d plan cells n))
      (weaken i (suc i) rest (omega arith) (from_least (suc i) ns))

  pub by_source : BySource (graph d plan cells nodes)
  by_source i j e lt h =
      let long = edges_length 0 (steps d plan cells nodes) in
      rising_pairs 0 (steps d plan cells nodes) i j e (from_rises 0 nodes) lt (omega arith)

  -- ---- the ends of edges

  module _ (least : IsLeast d plan cells nodes) where
    pub ends_in : EndsIn (keys_below (length nodes)) (graph d plan cells nodes)
    ends_in e c =
        let is = is_edge d plan cells nodes e c in
        let s = step_at d (steps d plan cells nodes) e.name in
        let n = node_at d nodes s.from in
        let listed : IsListed d nodes n (target_of d plan cells n s.outcome) =
        subst (λ (o : OutcomeOf T). IsListed d nodes n (target_of d plan cells n o)) (is.step.is s.outcome)
        (all_get (λ o. IsListed d nodes n (target_of d plan cells n o)) (outcomes_of d plan cells n) s.ordinal s.outcome (lead_on d plan cells nodes least s.from is.step.from_key) is.step.below) in
        let p = place (facts_of nodes) (target_of d plan cells n s.outcome) in
        let here = listed.listed in
        let below : p < length nodes = subst (λ x. x < length nodes) here.2 (listed.below here.0 p here.1) in
        let from : e.from < length nodes = subst (λ k. k < length nodes) is.from is.step.from_key in
        let to : e.to < length nodes = subst (λ k. k < length nodes) (sym is.step.leads ∙ is.to) below in
        (has_key (length nodes) e.from from, has_key (length nodes) e.to to)

    -- each edge ends at a key
    pub tos_below : All (λ e. e.to < length nodes) (graph d plan cells nodes)
    tos_below k e h =
        let x = get_or (graph d plan cells nodes) k e in
        key_below (length nodes) x.to (ends_in x (Contains-get_or (graph d plan cells nodes) k e h)).1

    -- and so do the first stuck ones
    pub stuck_below : (m : Moves) (stuck : List Edge) → IsFirstStuck m (keys_below (length nodes)) (graph d plan cells nodes) stuck
        → All (λ e. (e.from < length nodes) × (e.to < length nodes)) stuck
    stuck_below m stuck first k e h =
        let x = get_or stuck k e in
        let part = (first_is_stuck m (keys_below (length nodes)) (graph d plan cells nodes) stuck first ends_in).1 in
        let ends = ends_in x (part x (Contains-get_or stuck k e h)) in
        (key_below (length nodes) x.from ends.0, key_below (length nodes) x.to ends.1)
