-- Each outcome at a key that leads to no marker has its edge, and so the forms of a nest rank the solution.
use Rattle.std.specs.Prelude.{◌≡◌, ℕ, zero, suc, ◌+◌, ◌<◌, ℤ, negsuc, ◌≤ℤ◌, Bool, true, false, cond, List, [], ◌∷◌, ◌++◌, length, get_or}
use Rattle.std.specs.List.{All, AllByRecursion, Contains}
use Rattle.std.proofs.Common.{refl, arith, sym, ap, subst, ◌∙◌}
use Rattle.std.proofs.lemmas.Bool.{false≢true}
use Rattle.std.proofs.lemmas.Int.{ints}
use Rattle.std.proofs.lemmas.List.Elements.{All-from_recursion}
use Rattle.num_domain.specs.Domain.{Domain}
use Rattle.memory_plan.specs.Plans.{PlanLines, is_marker}
use Rattle.flag_relation.specs.Facts.{FactOf}
use Rattle.flag_relation.specs.Forms.{FormOf}
use Rattle.abs_step.specs.OutcomeLists.{OutcomeOf}
use Rattle.rank_form.specs.Bounds.{rise, upper}
use Rattle.fix_solver.specs.Solved.{NodeOf, facts_of}
use Rattle.fix_solver.specs.Tables.{place}
use Rattle.strong_components.specs.declared.edge.Edge.{Edge}
use Rattle.rank_shape.specs.declared.moves.Moves.{Moves}
use Rattle.rank_numbers.specs.Numbers.{limit}
use Rattle.rank_numbers.specs.Results.{AllSmall}
use Rattle.rank_nest.specs.Graph.{StepOf, no_node, node_at, outcomes_of, target_of, steps_at, steps_from, steps, graph}
use Rattle.rank_nest.specs.Forms.{no_step, step_at, outcome_of, forms_of, AreMoves}
use Rattle.rank_nest.specs.Ranks.{keys_below, rank_at, AreRanks}
use Rattle.rank_nest.specs.evidence.Steps.{edges_length, edge_get}
use Rattle.rank_nest.proofs.GraphLaws.{has_key}

in_limit : (a b : ℤ) → a ≤ℤ b → b ≤ℤ limit → a ≤ℤ limit
in_limit a b x y = omega (arith, ints, x, y)

module _ {T : Type 0} where
  -- a step stands among these
  record Stands (ss : List (StepOf T)) (s : StepOf T) : Type 0 where
    name : ℕ
    below : name < length ss
    is : (x : StepOf T) → get_or ss name x ≡ s

  after : (r : StepOf T) (ss : List (StepOf T)) (s : StepOf T) → Stands ss s → Stands (r ∷ ss) s
  after r ss s h =
      let b = h.below in
      record { name = suc h.name; below = omega arith; is = λ x. h.is x }

  in_first : (ss ts : List (StepOf T)) (s : StepOf T) → Stands ss s → Stands (ss ++ ts) s
  in_first ss ts s h = by ss h.name h.below h.is
    where
      by : (rs : List (StepOf T)) (k : ℕ) → k < length rs → ((x : StepOf T) → get_or rs k x ≡ s) → Stands (rs ++ ts) s
      by [] k b is = absurd (omega arith)
      by (r ∷ rs) zero b is = record { name = 0; below = omega arith; is = is }
      by (r ∷ rs) (suc k) b is = after r (rs ++ ts) s (by rs k (omega arith) is)

  in_second : (ss ts : List (StepOf T)) (s : StepOf T) → Stands ts s → Stands (ss ++ ts) s
  in_second [] ts s h = h
  in_second (r ∷ ss) ts s h = after r (ss ++ ts) s (in_second ss ts s h)

module _ {T : Type 0} (d : Domain T) (plan : PlanLines) (cells : List ℕ) (nodes : List (NodeOf (FactOf T))) where
  -- the step of an outcome at a key, by its ordinal
  abbrev step_of : ℕ → NodeOf (FactOf T) → ℕ → OutcomeOf T → StepOf T
  step_of i n ordinal o = record { from = i; to = place (facts_of nodes) (target_of d plan cells n o); ordinal = ordinal; outcome = o }

  -- an outcome has its step among these
  record Has (ss : List (StepOf T)) (i : ℕ) (n : NodeOf (FactOf T)) (o : OutcomeOf T) : Type 0 where
    ordinal : ℕ
    stands : Stands ss (step_of i n ordinal o)

  abbrev Have : List (StepOf T) → ℕ → NodeOf (FactOf T) → List (OutcomeOf T) → Type 0
  Have ss i n os = AllByRecursion (λ o. is_marker plan o.target ≡ false → Has ss i n o) os

  have_more : (ss rs : List (StepOf T)) (i : ℕ) (n : NodeOf (FactOf T)) (os : List (OutcomeOf T)) → ((s : StepOf T) → Stands ss s → Stands rs s) → Have ss i n os → Have rs i n os
  have_more ss rs i n [] f h = tt
  have_more ss rs i n (o ∷ os) f h = (λ m. let q = h.0 m in record { ordinal = q.ordinal; stands = f (step_of i n q.ordinal o) q.stands }, have_more ss rs i n os f h.1)

  at_have : (i : ℕ) (n : NodeOf (FactOf T)) (k : ℕ) (os : List (OutcomeOf T)) → Have (steps_at d plan cells nodes i n k os) i n os
  unfolding steps_at
  at_have i n k [] = tt
  at_have i n k (o ∷ os) = by (is_marker plan o.target) refl (at_have i n (suc k) os)
    where
      rest : List (StepOf T)
      rest = steps_at d plan cells nodes i n (suc k) os

      by : (b : Bool) → is_marker plan o.target ≡ b → Have rest i n os → Have (cond b rest (step_of i n k o ∷ rest)) i n (o ∷ os)
      by true m h = (λ f. absurd (false≢true (sym f ∙ m)), h)
      by false m h = (
        λ f. record { ordinal = k; stands = record { name = 0; below = omega arith; is = λ x. refl } },
        have_more rest (step_of i n k o ∷ rest) i n os (after (step_of i n k o) rest) h,
      )

  from_have : (k : ℕ) (ns : List (NodeOf (FactOf T))) (j : ℕ) → j < length ns → (i : ℕ) → i ≡ k + j
      → Have (steps_from d plan cells nodes k ns) i (get_or ns j (no_node d)) (outcomes_of d plan cells (get_or ns j (no_node d)))
  unfolding steps_from
  from_have k [] j h i is = absurd (omega arith)
  from_have k (n ∷ ns) zero h i is =
      let first = steps_at d plan cells nodes k n 0 (outcomes_of d plan cells n) in
      let e : k ≡ i = omega arith in
      subst (λ x. Have (first ++ steps_from d plan cells nodes (suc k) ns) x n (outcomes_of d plan cells n)) e
      (have_more first (first ++ steps_from d plan cells nodes (suc k) ns) k n (outcomes_of d plan cells n) (in_first first (steps_from d plan cells nodes (suc k) ns)) (at_have k n 0 (outcomes_of d plan cells n)))
  from_have k (n ∷ ns) (suc j) h i is =
      let first = steps_at d plan cells nodes k n 0 (outcomes_of d plan cells n) in
      let rest = steps_from d plan cells nodes (suc k) ns in
      have_more rest (first ++ rest) i (get_or ns j (no_node d)) (outcomes_of d plan cells (get_or ns j (no_node d))) (in_second first rest) (from_have (suc k) ns j (omega arith) i (omega arith))

  -- the form falls over an outcome at a key
  abbrev Falls : (ℕ → FormOf) → ℕ → OutcomeOf T → Type 0
  Falls form i o = rise d (form i) (form (place (facts_of nodes) (target_of d plan cells (node_at d nodes i) o))) o ≤ℤ negsuc 0

  -- What falls along each edge falls over each outcome at a key that leads to no marker.
  pub fall_over : (form : ℕ → FormOf) → ((e : Edge) → Contains (graph d plan cells nodes) e → rise d (form e.from) (form e.to) (outcome_of d plan cells nodes e) ≤ℤ negsuc 0)
      → (i : ℕ) → i < length nodes
      → All (λ o. is_marker plan o.target ≡ false → Falls form i o) (outcomes_of d plan cells (node_at d nodes i))
  fall_over form falls i h =
      All-from_recursion (λ o. is_marker plan o.target ≡ false → Falls form i o) (outcomes_of d plan cells (node_at d nodes i))
      (each (outcomes_of d plan cells (node_at d nodes i)) (from_have 0 nodes i h i (omega arith)))
    where
      n : NodeOf (FactOf T)
      n = node_at d nodes i

      ss : List (StepOf T)
      ss = steps d plan cells nodes

      one : (o : OutcomeOf T) → Has ss i n o → Falls form i o
      one o q =
          let s = step_of i n q.ordinal o in
          let k : ℕ = q.stands.name in
          let at : k ≡ 0 + k = omega arith in
          let long = edges_length 0 ss in
          let below : k < length ss = q.stands.below in
          let e : Edge = record { from = s.from; to = s.to; name = k } in
          let is : step_at d ss k ≡ s = q.stands.is (no_step d) in
          let here : get_or (graph d plan cells nodes) k e ≡ e = edge_get 0 ss k k (no_step d) e below at ∙ ap (λ (x : StepOf T). record { from = x.from; to = x.to; name = k }) is in
          let lt : k < length (graph d plan cells nodes) = omega arith in
          let down : rise d (form s.from) (form s.to) (step_at d ss k).outcome ≤ℤ negsuc 0 = falls e (k, lt, here) in
          subst (λ (x : StepOf T). rise d (form s.from) (form s.to) x.outcome ≤ℤ negsuc 0) is down

      each : (os : List (OutcomeOf T)) → Have ss i n os → AllByRecursion (λ o. is_marker plan o.target ≡ false → Falls form i o) os
      each [] q = tt
      each (o ∷ os) q = (λ m. one o (q.0 m), each os q.1)

  -- The forms of a nest in which no number is large are the ranks.
  pub are_ranks : (m : Moves) → AreMoves d plan cells nodes m → (ranks : List FormOf) → length ranks ≡ length nodes → (total : ℤ)
      → AllSmall (forms_of d plan cells nodes) m (keys_below (length nodes)) (graph d plan cells nodes) (rank_at d plan cells nodes ranks) total
      → AreRanks d plan cells nodes ranks
  are_ranks m are ranks count total small =
      record {
        count = count;
        of_nest = λ some. record { moves = m; are = are; total = total; numbers = small };
        positive = λ k h. small.ranked.positive k (has_key (length nodes) k h);
        falls = λ k h. fall_over (rank_at d plan cells nodes ranks) small.ranked.falls k h;
        bounded = λ k h. in_limit (upper d (rank_at d plan cells nodes ranks k) (node_at d nodes k).fact) total (small.ranked.bounded k (has_key (length nodes) k h)) small.within;
      }
