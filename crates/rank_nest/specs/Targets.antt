-- That an outcome at a key leads to a key of the solution, of which no public clause speaks.
use Rattle.std.specs.Prelude.{◌≡◌, ℕ, ◌<◌, List, length}
use Rattle.std.specs.List.{All, AllByRecursion, Contains}
use Rattle.num_domain.specs.Domain.{Domain}
use Rattle.memory_plan.specs.Plans.{PlanLines}
use Rattle.flag_relation.specs.Facts.{FactOf}
use Rattle.abs_step.specs.OutcomeLists.{OutcomeOf}
use Rattle.flow_recover.specs.declared.key.Key.{Key}
use Rattle.fix_solver.specs.Solved.{NodeOf, facts_of}
use Rattle.fix_solver.specs.Tables.{place}
use Rattle.rank_nest.specs.Graph.{node_at, target_of}

module _ {T : Type 0} (d : Domain T) (nodes : List (NodeOf (FactOf T))) where
  -- each key has its number
  abbrev pub AreNumbered : Type 0
  AreNumbered = (i : ℕ) → i < length nodes → place (facts_of nodes) (node_at d nodes i).key ≡ i

  -- the key stands in the solution, and its number is listed beside a node
  pub record IsListed (n : NodeOf (FactOf T)) (target : Key) : Type 0 where
    pub below : All (λ j. j < length nodes) n.succ
    pub listed : Contains n.succ (place (facts_of nodes) target)

module _ {T : Type 0} (d : Domain T) (plan : PlanLines) (cells : List ℕ)
    (nodes : List (NodeOf (FactOf T))) where
  -- each outcome leads to such a key
  abbrev pub LeadOn : NodeOf (FactOf T) → List (OutcomeOf T) → Type 0
  LeadOn n os = AllByRecursion (λ o. IsListed d nodes n (target_of d plan cells n o)) os
