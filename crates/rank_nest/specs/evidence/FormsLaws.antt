-- The forms of a solution keep the laws of ranks.
use Rattle.std.specs.Prelude.{ℕ, pos, List}
use Rattle.std.specs.List.{AllByRecursion, Contains}
use Rattle.std.proofs.Common.{arith, subst}
use Rattle.std.proofs.lemmas.Int.{ints}
use Rattle.num_domain.specs.Domain.{Domain}
use Rattle.num_domain.specs.Laws.{DomainLaws}
use Rattle.memory_plan.specs.Plans.{PlanLines}
use Rattle.flag_relation.specs.Facts.{FactOf}
use Rattle.abs_step.specs.OutcomeLists.{OutcomeOf}
use Rattle.rank_form.specs.Laws.{IsSideOf}
use Rattle.rank_form.proofs.RankLaws.{form_laws}
use Rattle.rank_form.proofs.OutcomeSides.{side_laws}
use Rattle.fix_solver.specs.Solved.{NodeOf}
use Rattle.strong_components.specs.declared.edge.Edge.{Edge}
use Rattle.rank_numbers.specs.Forms.{FormLaws}
use Rattle.rank_nest.specs.Candidates.{candidate_form}
use Rattle.rank_nest.specs.Graph.{node_at, outcomes_of, steps, graph}
use Rattle.rank_nest.specs.Forms.{step_at, outcome_of, forms_of}
use Rattle.rank_nest.specs.evidence.Steps.{all_get, is_edge}

module _ {T : Type 0} (d : Domain T) (laws : DomainLaws d) (plan : PlanLines) (cells : List ℕ) (nodes : List (NodeOf (FactOf T))) where
  -- what is known as an edge is taken is a side of its key's fact
  side : (e : Edge) → Contains (graph d plan cells nodes) e → IsSideOf d (node_at d nodes e.from).fact (outcome_of d plan cells nodes e).pre
  side e c =
      let is = is_edge d plan cells nodes e c in
      let s = step_at d (steps d plan cells nodes) e.name in
      let n = node_at d nodes s.from in
      let sides : AllByRecursion (λ o. IsSideOf d n.fact o.pre) (outcomes_of d plan cells n) = side_laws d laws plan cells n.key.addr n.fact in
      let one = all_get (λ o. IsSideOf d n.fact o.pre) (outcomes_of d plan cells n) s.ordinal s.outcome sides is.step.below in
      subst (λ k. IsSideOf d (node_at d nodes k).fact s.outcome.pre) is.from (subst (λ (o : OutcomeOf T). IsSideOf d n.fact o.pre) (is.step.is s.outcome) one)

  pub forms_laws : FormLaws (forms_of d plan cells nodes)
  forms_laws =
      let l = form_laws d laws in
      let fact = λ (k : ℕ). (node_at d nodes k).fact in
      let out = λ (e : Edge). outcome_of d plan cells nodes e in
      record {
        ordered = λ f k _. l.ordered f (fact k);
        before_lower = λ f e c. l.side_lower f (fact e.from) (out e).pre (side e c);
        rise_bound = λ f g e _. l.rise_bound f g (out e);
        one_lower = λ k _. omega (arith, ints, l.constant_lower (pos 1) (fact k));
        one_upper = λ k _. omega (arith, ints, l.constant_upper (pos 1) (fact k));
        one_after = λ e _. omega (arith, ints, l.constant_after (pos 1) (out e));
        shift_lower = λ f n k _. omega (arith, ints, l.shift_lower f n (fact k));
        shift_upper = λ f n k _. omega (arith, ints, l.shift_upper f n (fact k));
        shift_after = λ f n e _. omega (arith, ints, l.shift_after f n (out e));
        shift_rise = λ f g m n e _. omega (arith, ints, l.shift_rise f g m n (out e));
        level_lower = λ t c low f k _ h low_le. l.level_lower t (candidate_form c) low f (fact k) h low_le;
        level_keeps = λ t c low f g e _ h r. l.level_keeps t (candidate_form c) low f g (out e) h r;
        level_falls = λ t c low f g e _ h r. l.level_falls t (candidate_form c) low f g (out e) h r;
      }
