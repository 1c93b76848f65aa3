-- Graphs built step by step.
use Rattle.std.specs.Prelude.{◌≡◌, ℕ, zero, suc, ◌+◌, ◌-◌, ◌<◌, ◌≤◌, Bool, true, false, cond, List, [], ◌∷◌, ◌++◌, map, length, take, drop, slice_index_or, Result, Ok, Err, OnOk}
use Rattle.std.proofs.Common.{refl, arith, sym, ap, subst, ◌∙◌, append-nil, length-append, take_all}
use Rattle.std.proofs.Math.Path.{ap₂}
use Rattle.std.proofs.lemmas.List.{map-append, append_assoc, take_more}
use Rattle.num_domain.specs.Domain.{Domain}
use Rattle.memory_plan.specs.Plans.{PlanLines, is_marker}
use Rattle.flag_relation.specs.Facts.{FactOf}
use Rattle.abs_step.specs.OutcomeLists.{OutcomeOf}
use Rattle.fix_solver.specs.Solved.{NodeOf, facts_of}
use Rattle.fix_solver.specs.Tables.{place}
use Rattle.strong_components.specs.declared.edge.Edge.{Edge}
use Rattle.rank_nest.specs.Graph.{StepOf, no_node, node_at, edges_from, target_of, outcomes_of, steps_at, steps_from}
use Rattle.rank_nest.specs.Building.{GraphOf, IsExtended, grow_mask, fall_mask}
use Rattle.rank_nest.specs.evidence.Steps.{edges_length}

pub on_ok : {A E : Type 0} (r : Result A E) (P Q : Type 0) → (P → Q) → OnOk r P → OnOk r Q
on_ok (Ok v) P Q f h = f h
on_ok (Err e) P Q f h = tt

edges_append : {T : Type 0} (name : ℕ) (ss ts : List (StepOf T)) → edges_from name (ss ++ ts) ≡ edges_from name ss ++ edges_from (name + length ss) ts
unfolding edges_from
edges_append name [] ts = ap (λ n. edges_from n ts) (omega arith)
edges_append name (s ∷ ss) ts =
    let next : suc name + length ss ≡ name + suc (length ss) = omega arith in
    ap (λ es. record { from = s.from; to = s.to; name = name } ∷ es) (edges_append (suc name) ss ts ∙ ap (λ n. edges_from (suc name) ss ++ edges_from n ts) next)

module _ {T : Type 0} (d : Domain T) where
  pub extended_none : (g : GraphOf) → IsExtended d g [] g
  unfolding edges_from
  extended_none g = record {
    edges = sym (append-nil g.edges);
    ordinals = sym (append-nil g.ordinals);
    count = refl;
    grow = sym (append-nil g.grow);
    fall = sym (append-nil g.fall);
  }

  joined : {A : Type 0} (f : StepOf T → A) (xs ys zs : List A) (ss ts : List (StepOf T)) → ys ≡ xs ++ map f ss → zs ≡ ys ++ map f ts → zs ≡ xs ++ map f (ss ++ ts)
  joined f xs ys zs ss ts a b = b ∙ ap (λ l. l ++ map f ts) a ∙ append_assoc xs (map f ss) (map f ts) ∙ ap (λ l. xs ++ l) (sym (map-append f ss ts))

  joined_edges : (xs ys zs : List Edge) (ss ts : List (StepOf T)) → ys ≡ xs ++ edges_from (length xs) ss → zs ≡ ys ++ edges_from (length ys) ts → zs ≡ xs ++ edges_from (length xs) (ss ++ ts)
  joined_edges xs ys zs ss ts a b =
      let long : length ys ≡ length xs + length ss = ap length a ∙ length-append xs (edges_from (length xs) ss) ∙ ap (λ n. length xs + n) (edges_length (length xs) ss) in
      b ∙ ap₂ (λ (l : List Edge) (n : ℕ). l ++ edges_from n ts) a long ∙ append_assoc xs (edges_from (length xs) ss) (edges_from (length xs + length ss) ts)
      ∙ ap (λ l. xs ++ l) (sym (edges_append (length xs) ss ts))

  pub extended_both : (g h k : GraphOf) (ss ts : List (StepOf T)) → IsExtended d g ss h → IsExtended d h ts k → IsExtended d g (ss ++ ts) k
  extended_both g h k ss ts a b = record {
    edges = joined_edges g.edges h.edges k.edges ss ts a.edges b.edges;
    ordinals = joined (λ s. s.ordinal) g.ordinals h.ordinals k.ordinals ss ts a.ordinals b.ordinals;
    count = b.count ∙ a.count;
    grow = joined (grow_mask d g.count) g.grow h.grow k.grow ss ts a.grow (b.grow ∙ ap (λ n. h.grow ++ map (grow_mask d n) ts) a.count);
    fall = joined (fall_mask d g.count) g.fall h.fall k.fall ss ts a.fall (b.fall ∙ ap (λ n. h.fall ++ map (fall_mask d n) ts) a.count);
  }

  -- one step
  pub extended_one : (g h : GraphOf) (s : StepOf T) (ss : List (StepOf T)) → ss ≡ s ∷ [] → h ≡ record {
    edges = g.edges ++ record { from = s.from; to = s.to; name = length g.edges } ∷ [];
    ordinals = g.ordinals ++ s.ordinal ∷ [];
    count = g.count;
    grow = g.grow ++ grow_mask d g.count s ∷ [];
    fall = g.fall ++ fall_mask d g.count s ∷ [];
  } → IsExtended d g ss h
  unfolding edges_from
  extended_one g h s ss e is =
      subst (λ l. IsExtended d g l h) (sym e)
      (record {
        edges = ap (λ (x : GraphOf). x.edges) is;
        ordinals = ap (λ (x : GraphOf). x.ordinals) is;
        count = ap (λ (x : GraphOf). x.count) is;
        grow = ap (λ (x : GraphOf). x.grow) is;
        fall = ap (λ (x : GraphOf). x.fall) is;
      })

module _ {T : Type 0} (d : Domain T) (plan : PlanLines) (cells : List ℕ) (nodes : List (NodeOf (FactOf T))) where
  pub no_steps : (i k : ℕ) (n : NodeOf (FactOf T)) → steps_at d plan cells nodes i n k [] ≡ []
  unfolding steps_at
  no_steps i k n = refl

  pub first_steps : (i k : ℕ) (n : NodeOf (FactOf T)) (o : OutcomeOf T) (os : List (OutcomeOf T))
      → steps_at d plan cells nodes i n k (o ∷ os) ≡ steps_at d plan cells nodes i n k (o ∷ []) ++ steps_at d plan cells nodes i n (suc k) os
  unfolding steps_at
  first_steps i k n o os = by (is_marker plan o.target)
    where
      s : StepOf T
      s = record { from = i; to = place (facts_of nodes) (target_of d plan cells n o); ordinal = k; outcome = o }

      rest : List (StepOf T)
      rest = steps_at d plan cells nodes i n (suc k) os

      by : (b : Bool) → cond b rest (s ∷ rest) ≡ cond b [] (s ∷ []) ++ rest
      by true = refl
      by false = refl

  pub empty_steps : (i k : ℕ) (n : NodeOf (FactOf T)) (os : List (OutcomeOf T)) → length os < 1 → steps_at d plan cells nodes i n k os ≡ []
  empty_steps i k n [] h = no_steps i k n
  empty_steps i k n (o ∷ os) h = absurd (omega arith)

  pub more_steps : (i k next : ℕ) (n : NodeOf (FactOf T)) (os : List (OutcomeOf T)) (o : OutcomeOf T) → next ≡ suc k → 1 ≤ length os → o ≡ slice_index_or os 0 o
      → steps_at d plan cells nodes i n k os ≡ steps_at d plan cells nodes i n k (o ∷ []) ++ steps_at d plan cells nodes i n next (take (length os - 1) (drop 1 os))
  more_steps i k next n [] o e h is = absurd (omega arith)
  more_steps i k next n (p ∷ os) o e h is =
      let tail : take (suc (length os) - 1) os ≡ os = take_all (suc (length os) - 1) os (omega arith) in
      first_steps i k n p os ∙ (λ j. steps_at d plan cells nodes i n k (sym is j ∷ []) ++ steps_at d plan cells nodes i n (sym e j) (sym tail j))

  pub marker_step : (i k : ℕ) (n : NodeOf (FactOf T)) (o : OutcomeOf T) → is_marker plan o.target ≡ true → steps_at d plan cells nodes i n k (o ∷ []) ≡ []
  unfolding steps_at
  marker_step i k n o e =
      ap (λ (b : Bool). cond b [] (record { from = i; to = place (facts_of nodes) (target_of d plan cells n o); ordinal = k; outcome = o } ∷ [])) e

  pub edge_step : (i k : ℕ) (n : NodeOf (FactOf T)) (o : OutcomeOf T) → is_marker plan o.target ≡ false
      → steps_at d plan cells nodes i n k (o ∷ []) ≡ record { from = i; to = place (facts_of nodes) (target_of d plan cells n o); ordinal = k; outcome = o } ∷ []
  unfolding steps_at
  edge_step i k n o e =
      ap (λ (b : Bool). cond b [] (record { from = i; to = place (facts_of nodes) (target_of d plan cells n o); ordinal = k; outcome = o } ∷ [])) e

  pub steps_append : (i : ℕ) (ms ns : List (NodeOf (FactOf T))) → steps_from d plan cells nodes i (ms ++ ns) ≡ steps_from d plan cells nodes i ms ++ steps_from d plan cells nodes (i + length ms) ns
  unfolding steps_from
  steps_append i [] ns = ap (λ j. steps_from d plan cells nodes j ns) (omega arith)
  steps_append i (m ∷ ms) ns =
      let first = steps_at d plan cells nodes i m 0 (outcomes_of d plan cells m) in
      let next : suc i + length ms ≡ i + suc (length ms) = omega arith in
      ap (λ l. first ++ l) (steps_append (suc i) ms ns ∙ ap (λ j. steps_from d plan cells nodes (suc i) ms ++ steps_from d plan cells nodes j ns) next)
      ∙ sym (append_assoc first (steps_from d plan cells nodes (suc i) ms) (steps_from d plan cells nodes (i + suc (length ms)) ns))

  pub steps_one : (i : ℕ) (n : NodeOf (FactOf T)) → steps_from d plan cells nodes i (n ∷ []) ≡ steps_at d plan cells nodes i n 0 (outcomes_of d plan cells n)
  unfolding steps_from
  steps_one i n = append-nil (steps_at d plan cells nodes i n 0 (outcomes_of d plan cells n))

  long_take : {A : Type 0} (i : ℕ) (xs : List A) → i < length xs → length (take i xs) ≡ i
  long_take zero xs h = refl
  long_take (suc i) [] h = absurd (omega arith)
  long_take (suc i) (x ∷ xs) h = ap suc (long_take i xs (omega arith))

  -- with the steps of one more key
  pub next_steps : (i : ℕ) → i < length nodes
      → steps_from d plan cells nodes 0 (take (i + 1) nodes) ≡ steps_from d plan cells nodes 0 (take i nodes) ++ steps_at d plan cells nodes i (node_at d nodes i) 0 (outcomes_of d plan cells (node_at d nodes i))
  next_steps i h =
      let n = node_at d nodes i in
      let long = long_take i nodes h in
      let place : 0 + length (take i nodes) ≡ i = omega arith in
      ap (steps_from d plan cells nodes 0) (take_more nodes i (no_node d) h) ∙ steps_append 0 (take i nodes) (n ∷ [])
      ∙ ap (λ l. steps_from d plan cells nodes 0 (take i nodes) ++ l) (ap (λ j. steps_from d plan cells nodes j (n ∷ [])) place ∙ steps_one i n)

  pub first_none : steps_from d plan cells nodes 0 (take 0 nodes) ≡ []
  unfolding steps_from
  first_none = refl

  pub all_taken : (i : ℕ) → length nodes ≤ i → steps_from d plan cells nodes 0 (take i nodes) ≡ steps_from d plan cells nodes 0 nodes
  all_taken i h = ap (steps_from d plan cells nodes 0) (take_all i nodes h)
