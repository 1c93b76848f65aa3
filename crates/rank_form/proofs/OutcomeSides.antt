-- What an outcome knows before its step is a side of its fact.
use Rattle.std.specs.Prelude.{◌≡◌, ℕ, ◌+◌, Bool, true, false, not, cond, List, [], ◌∷◌, ◌++◌, Option, Some, None, IfSome}
use Rattle.std.specs.List.{AllByRecursion, flat_map}
use Rattle.std.proofs.Common.{refl, sym, subst}
use Rattle.num_domain.specs.Domain.{Domain}
use Rattle.num_domain.specs.Laws.{DomainLaws}
use Rattle.viper_word.specs.Options.{bind}
use Rattle.memory_plan.specs.Plans.{PlanLines}
use Rattle.viper_decode.specs.declared.instructions.Instruction.{Instruction}
use Rattle.viper_decode.specs.declared.instructions.Instruction.TheVariants.{Compare, Assign, Jump, Output, Store}
use Rattle.viper_decode.specs.declared.instructions.Side.TheVariants.{Always, IfB, IfNotB}
use Rattle.flag_relation.specs.Values.{Values}
use Rattle.flag_relation.specs.Facts.{FactOf, values}
use Rattle.flag_relation.specs.Order.{BelowValues}
use Rattle.flag_relation.specs.Emptiness.{is_empty}
use Rattle.flag_relation.specs.Refining.{assume}
use Rattle.flag_relation.proofs.AllLaws.{fact_laws}
use Rattle.abs_step.specs.declared.outcome.Post.{Post}
use Rattle.abs_step.specs.OutcomeLists.{OutcomeOf, all_same, each, is_live, live, outcome}
use Rattle.abs_step.specs.Stores.{stored}
use Rattle.abs_step.specs.Outcomes.{jumps, taken_side, skipped_side, performed, instruction_outcomes}
use Rattle.abs_step.specs.Conditions.{instruction_at, outcomes_at, outcomes}
use Rattle.rank_form.specs.Laws.{IsSideOf}
use Rattle.rank_form.specs.Sides.{SideLaws}

module _ {T : Type 0} (d : Domain T) where
  -- each of the outcomes knows just the fact before its step
  abbrev From : FactOf T → List (OutcomeOf T) → Type 0
  From x os = AllByRecursion (λ o. o.pre ≡ x) os

  from_both : (x : FactOf T) (os ps : List (OutcomeOf T)) → From x os → From x ps → From x (os ++ ps)
  from_both x [] ps h k = k
  from_both x (o ∷ os) ps h k = (h.0, from_both x os ps h.1 k)

  from_each : {U : Type 0} (x : FactOf T) (o : Option U) (f : U → List (OutcomeOf T)) → ((u : U) → From x (f u)) → From x (each o f)
  from_each x None f h = tt
  from_each x (Some u) f h = h u

  from_when : (x : FactOf T) (b : Bool) (os : List (OutcomeOf T)) → From x os → From x (cond b os [])
  from_when x true os h = h
  from_when x false os h = tt

  from_flat : (x : FactOf T) (f : ℕ → List (OutcomeOf T)) (ns : List ℕ) → ((n : ℕ) → From x (f n)) → From x (flat_map f ns)
  from_flat x f [] h = tt
  from_flat x f (n ∷ ns) h = from_both x (f n) (flat_map f ns) (h n) (from_flat x f ns h)

  from_outcome : (target : ℕ) (x after : FactOf T) (posts : Values Post) → From x (outcome d target x after posts)
  unfolding outcome
  from_outcome target x after posts =
      from_when x (is_live d after) (record { target = target; pre = x; after = after; posts = posts } ∷ []) (refl, tt)

  performed_from : (plan : PlanLines) (cells : List ℕ) (at : ℕ) (i : Instruction) (x : FactOf T) → From x (performed d plan cells at i x)
  unfolding performed jumps stored
  performed_from plan cells at (Compare joined k s o) x = search (from_each, from_outcome)
  performed_from plan cells at (Assign r w) x = search (from_each, from_outcome)
  performed_from plan cells at (Jump side w) x = search (from_each, from_flat, from_outcome)
  performed_from plan cells at (Output s p) x = search (from_when, from_outcome)
  performed_from plan cells at (Store s p) x = search (from_both, from_each, from_when, from_outcome)

  -- ---- sides

  abbrev Of : FactOf T → List (OutcomeOf T) → Type 0
  Of x os = AllByRecursion (λ o. IsSideOf d x o.pre) os

  of_from : (x side : FactOf T) (os : List (OutcomeOf T)) → IsSideOf d x side → From side os → Of x os
  of_from x side [] h k = tt
  of_from x side (o ∷ os) h k = (subst (λ f. IsSideOf d x f) (sym k.0) h, of_from x side os h k.1)

  of_each : (x : FactOf T) (o : Option (FactOf T)) (f : FactOf T → List (OutcomeOf T)) → IfSome o (λ g. IsSideOf d x g)
      → ((g : FactOf T) → From g (f g)) → Of x (each o f)
  of_each x None f h k = tt
  of_each x (Some g) f h k = of_from x g (f g) h (k g)

  of_both : (x : FactOf T) (os ps : List (OutcomeOf T)) → Of x os → Of x ps → Of x (os ++ ps)
  of_both x [] ps h k = k
  of_both x (o ∷ os) ps h k = (h.0, of_both x os ps h.1 k)

  module _ (laws : DomainLaws d) where
    itself : (x : FactOf T) → is_empty d x ≡ false → IsSideOf d x x
    itself x e = record { links = refl; smaller = ((fact_laws d laws).order.refl x).values; live = e }

    assumed_side : (x : FactOf T) (b : Bool) → IfSome (bind (assume d x b) (live d)) (λ g. IsSideOf d x g)
    assumed_side x b = of_known (assume d x b) ((fact_laws d laws).assume.below x b)
      where
        of_live : (g : FactOf T) (e : Bool) → is_empty d g ≡ e → BelowValues d (values g) (values x) × (g.links ≡ x.links)
            → IfSome (cond (not e) (Some g) None) (λ g. IsSideOf d x g)
        of_live g true e h = tt
        of_live g false e h = record { links = h.1; smaller = h.0; live = e }

        of_known : (o : Option (FactOf T)) → IfSome o (λ g. BelowValues d (values g) (values x) × (g.links ≡ x.links))
            → IfSome (bind o (live d)) (λ g. IsSideOf d x g)
        of_known None h = tt
        of_known (Some g) h = of_live g (is_empty d g) refl h

    taken : (i : Instruction) (x : FactOf T) → is_empty d x ≡ false → IfSome (taken_side d i x) (λ g. IsSideOf d x g)
    unfolding taken_side
    taken (Compare joined k s o) x e = itself x e
    taken (Assign r w) x e = itself x e
    taken (Jump Always w) x e = itself x e
    taken (Jump IfB w) x e = assumed_side x true
    taken (Jump IfNotB w) x e = assumed_side x false
    taken (Output s p) x e = itself x e
    taken (Store s p) x e = itself x e

    skipped : (i : Instruction) (x : FactOf T) → IfSome (skipped_side d i x) (λ g. IsSideOf d x g)
    unfolding skipped_side
    skipped (Compare joined k s o) x = tt
    skipped (Assign r w) x = tt
    skipped (Jump Always w) x = tt
    skipped (Jump IfB w) x = assumed_side x false
    skipped (Jump IfNotB w) x = assumed_side x true
    skipped (Output s p) x = tt
    skipped (Store s p) x = tt

    sides_of : (plan : PlanLines) (cells : List ℕ) (at : ℕ) (i : Instruction) (x : FactOf T) → is_empty d x ≡ false
        → Of x (instruction_outcomes d plan cells at i x)
    unfolding instruction_outcomes
    sides_of plan cells at i x e =
        of_both x (each (skipped_side d i x) (λ g. outcome d (at + 1) g g (all_same cells))) (each (taken_side d i x) (λ g. performed d plan cells at i g))
        (of_each x (skipped_side d i x) (λ g. outcome d (at + 1) g g (all_same cells)) (skipped i x) (λ g. from_outcome (at + 1) g g (all_same cells)))
        (of_each x (taken_side d i x) (λ g. performed d plan cells at i g) (taken i x e) (λ g. performed_from plan cells at i g))

    pub side_laws : SideLaws d
    unfolding outcomes
    side_laws plan cells at x = at_word (instruction_at plan at)
      where
        of_fact : (i : Instruction) (e : Bool) → is_empty d x ≡ e → Of x (outcomes_at d plan cells at (Some i) (cond (not e) (Some x) None))
        of_fact i true e = tt
        of_fact i false e = sides_of plan cells at i x e

        at_word : (o : Option Instruction) → Of x (outcomes_at d plan cells at o (live d x))
        at_word None = tt
        at_word (Some i) = of_fact i (is_empty d x) refl
