-- What holds of each step of a solution, and of each edge.
use Rattle.std.specs.Prelude.{◌≡◌, ℕ, zero, suc, ◌+◌, ◌<◌, Bool, true, false, cond, List, [], ◌∷◌, ◌++◌, length, get_or, drop}
use Rattle.std.specs.List.{AllByRecursion, Contains}
use Rattle.std.proofs.Common.{refl, arith, sym, ap, subst, ◌∙◌}
use Rattle.num_domain.specs.Domain.{Domain}
use Rattle.memory_plan.specs.Plans.{PlanLines, is_marker}
use Rattle.flag_relation.specs.Facts.{FactOf}
use Rattle.abs_step.specs.OutcomeLists.{OutcomeOf}
use Rattle.fix_solver.specs.Solved.{NodeOf, facts_of}
use Rattle.fix_solver.specs.Tables.{place}
use Rattle.strong_components.specs.declared.edge.Edge.{Edge}
use Rattle.rank_nest.specs.Graph.{StepOf, edges_from, no_node, node_at, outcomes_of, target_of, steps_at, steps_from, steps, graph}
use Rattle.rank_nest.specs.Forms.{no_step, step_at}

-- ---- lists

pub all_get : {A : Type 0} (P : A → Type 0) (xs : List A) (i : ℕ) (x : A) → AllByRecursion P xs → i < length xs → P (get_or xs i x)
all_get P [] i x h b = absurd (omega arith)
all_get P (y ∷ ys) zero x h b = h.0
all_get P (y ∷ ys) (suc i) x h b = all_get P ys i x h.1 (omega arith)

pub all_both : {A : Type 0} (P : A → Type 0) (xs ys : List A) → AllByRecursion P xs → AllByRecursion P ys → AllByRecursion P (xs ++ ys)
all_both P [] ys h k = k
all_both P (x ∷ xs) ys h k = (h.0, all_both P xs ys h.1 k)

-- the item at a place, from what is left from there on
pub record IsAt {A : Type 0} (all : List A) (k : ℕ) (x : A) (xs : List A) : Type 0 where
  pub below : k < length all
  pub here : (y : A) → get_or all k y ≡ x
  pub rest : xs ≡ drop (suc k) all

pub is_at : {A : Type 0} (all : List A) (k : ℕ) (x : A) (xs : List A) → x ∷ xs ≡ drop k all → IsAt all k x xs
is_at [] zero x xs e = absurd (cc)
is_at (y ∷ ys) zero x xs e = record { below = omega arith; here = λ z. cc; rest = cc }
is_at [] (suc k) x xs e = absurd (cc)
is_at (y ∷ ys) (suc k) x xs e =
    let r = is_at ys k x xs e in
    let b = r.below in
    record { below = omega arith; here = λ z. r.here z; rest = r.rest }

-- ---- edges of steps

module _ {T : Type 0} where
  pub edges_length : (name : ℕ) (ss : List (StepOf T)) → length (edges_from name ss) ≡ length ss
  unfolding edges_from
  edges_length name [] = refl
  edges_length name (s ∷ ss) = ap suc (edges_length (suc name) ss)

  pub edge_get : (name : ℕ) (ss : List (StepOf T)) (k at : ℕ) (s : StepOf T) (e : Edge) → k < length ss → at ≡ name + k
      → get_or (edges_from name ss) k e ≡ record { from = (get_or ss k s).from; to = (get_or ss k s).to; name = at }
  unfolding edges_from
  edge_get name [] k at s e h is = absurd (omega arith)
  edge_get name (t ∷ ts) zero at s e h is =
      let same : name ≡ at = omega arith in
      λ i. record { from = t.from; to = t.to; name = same i }
  edge_get name (t ∷ ts) (suc k) at s e h is = edge_get (suc name) ts k at s e (omega arith) (omega arith)

module _ {T : Type 0} (d : Domain T) (plan : PlanLines) (cells : List ℕ) (nodes : List (NodeOf (FactOf T))) where
  -- the step is of that outcome of its key, which leads to no marker
  pub record IsStep (s : StepOf T) : Type 0 where
    pub from_key : s.from < length nodes
    pub below : s.ordinal < length (outcomes_of d plan cells (node_at d nodes s.from))
    pub is : (o : OutcomeOf T) → get_or (outcomes_of d plan cells (node_at d nodes s.from)) s.ordinal o ≡ s.outcome
    pub leads : s.to ≡ place (facts_of nodes) (target_of d plan cells (node_at d nodes s.from) s.outcome)
    pub no_marker : is_marker plan s.outcome.target ≡ false

  at_are : (i : ℕ) → i < length nodes → (k : ℕ) (os : List (OutcomeOf T)) → os ≡ drop k (outcomes_of d plan cells (node_at d nodes i))
      → AllByRecursion IsStep (steps_at d plan cells nodes i (node_at d nodes i) k os)
  unfolding steps_at
  at_are i lt k [] e = tt
  at_are i lt k (o ∷ os) e =
      let r = is_at (outcomes_of d plan cells (node_at d nodes i)) k o os e in
      by r (is_marker plan o.target) refl (at_are i lt (suc k) os r.rest)
    where
      s : StepOf T
      s = record { from = i; to = place (facts_of nodes) (target_of d plan cells (node_at d nodes i) o); ordinal = k; outcome = o }

      by : IsAt (outcomes_of d plan cells (node_at d nodes i)) k o os → (b : Bool) → is_marker plan o.target ≡ b
          → AllByRecursion IsStep (steps_at d plan cells nodes i (node_at d nodes i) (suc k) os)
          → AllByRecursion IsStep (cond b (steps_at d plan cells nodes i (node_at d nodes i) (suc k) os) (s ∷ steps_at d plan cells nodes i (node_at d nodes i) (suc k) os))
      by r true m h = h
      by r false m h = (record { from_key = lt; below = r.below; is = r.here; leads = refl; no_marker = m }, h)

  from_are : (k : ℕ) (ns : List (NodeOf (FactOf T))) → ns ≡ drop k nodes → AllByRecursion IsStep (steps_from d plan cells nodes k ns)
  unfolding steps_from
  from_are k [] e = tt
  from_are k (n ∷ ns) e =
      let r = is_at nodes k n ns e in
      let first = at_are k r.below 0 (outcomes_of d plan cells (node_at d nodes k)) refl in
      all_both IsStep (steps_at d plan cells nodes k n 0 (outcomes_of d plan cells n)) (steps_from d plan cells nodes (suc k) ns)
      (subst (λ m. AllByRecursion IsStep (steps_at d plan cells nodes k m 0 (outcomes_of d plan cells m))) (r.here (no_node d)) first)
      (from_are (suc k) ns r.rest)

  pub all_steps : AllByRecursion IsStep (steps d plan cells nodes)
  all_steps = from_are 0 nodes refl

  -- an edge of the graph is that of the step of its name
  pub record IsEdge (e : Edge) : Type 0 where
    pub named : e.name < length (steps d plan cells nodes)
    pub from : (step_at d (steps d plan cells nodes) e.name).from ≡ e.from
    pub to : (step_at d (steps d plan cells nodes) e.name).to ≡ e.to
    pub step : IsStep (step_at d (steps d plan cells nodes) e.name)

  pub is_edge : (e : Edge) → Contains (graph d plan cells nodes) e → IsEdge e
  is_edge e c =
      let ss = steps d plan cells nodes in
      let k : ℕ = c.0 in
      let at : k ≡ 0 + k = omega arith in
      let below : c.0 < length ss = subst (λ n. c.0 < n) (edges_length 0 ss) c.1 in
      let is : record { from = (get_or ss k (no_step d)).from; to = (get_or ss k (no_step d)).to; name = k } ≡ e = sym (edge_get 0 ss k k (no_step d) e below at) ∙ c.2 in
      let name : k ≡ e.name = ap (λ (x : Edge). x.name) is in
      record {
        named = omega arith;
        from = sym (ap (λ j. (step_at d ss j).from) name) ∙ ap (λ (x : Edge). x.from) is;
        to = sym (ap (λ j. (step_at d ss j).to) name) ∙ ap (λ (x : Edge). x.to) is;
        step = subst (λ j. IsStep (step_at d ss j)) name (all_get IsStep ss k (no_step d) all_steps below);
      }
