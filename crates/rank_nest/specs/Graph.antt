-- The graph of a solution: keys by their numbers, and an edge for each outcome at a key that leads
-- to no marker.
use Rattle.std.specs.Prelude.{ℕ, suc, cond, List, [], ◌∷◌, ◌++◌, slice_index_or}
use Rattle.num_domain.specs.Domain.{Domain}
use Rattle.memory_plan.specs.Plans.{PlanLines, is_marker}
use Rattle.flag_relation.specs.Facts.{FactOf, unknown}
use Rattle.abs_step.specs.OutcomeLists.{OutcomeOf}
use Rattle.abs_step.specs.Conditions.{outcomes}
use Rattle.flow_recover.specs.declared.key.Key.{Key}
use Rattle.flow_recover.specs.Contexts.{next_context}
use Rattle.fix_solver.specs.Solutions.{fields_at}
use Rattle.fix_solver.specs.Solved.{NodeOf, facts_of}
use Rattle.fix_solver.specs.Tables.{place}
use Rattle.strong_components.specs.declared.edge.Edge.{Edge}

-- an outcome at a key that leads to no marker: the numbers of the key and of the one that it leads
-- to, and which of the key's outcomes it is
pub record StepOf (T : Type 0) : Type 0 where
  pub from : ℕ
  pub to : ℕ
  pub ordinal : ℕ
  pub outcome : OutcomeOf T

-- the edge of each step, named by the step's place from the name on
unfoldable pub edges_from : {T : Type 0} → ℕ → List (StepOf T) → List Edge
edges_from name [] = []
edges_from name (s ∷ ss) =
    record { from = s.from; to = s.to; name = name } ∷ edges_from (suc name) ss

abbrev pub edges_of : {T : Type 0} → List (StepOf T) → List Edge
edges_of ss = edges_from 0 ss

module _ {T : Type 0} (d : Domain T) where
  -- what stands past the last key
  abbrev pub no_node : NodeOf (FactOf T)
  no_node = record { key = record { addr = 0; context = [] }; fact = unknown d 0; succ = [] }

  -- the key of a number with its fact
  abbrev pub node_at : List (NodeOf (FactOf T)) → ℕ → NodeOf (FactOf T)
  node_at nodes i = slice_index_or nodes i no_node

module _ {T : Type 0} (d : Domain T) (plan : PlanLines) (cells : List ℕ) where
  -- the outcomes of the fact at a key
  abbrev pub outcomes_of : NodeOf (FactOf T) → List (OutcomeOf T)
  outcomes_of n = outcomes d plan cells n.key.addr n.fact

  -- the key that an outcome leads to
  abbrev pub target_of : NodeOf (FactOf T) → OutcomeOf T → Key
  target_of n o = next_context n.key (fields_at plan n.key.addr) o.target

module _ {T : Type 0} (d : Domain T) (plan : PlanLines) (cells : List ℕ)
    (nodes : List (NodeOf (FactOf T))) where
  -- the steps of outcomes at the key of a number, which come from an ordinal on
  unfoldable pub steps_at : ℕ → NodeOf (FactOf T) → ℕ → List (OutcomeOf T) → List (StepOf T)
  steps_at i n ordinal [] = []
  steps_at i n ordinal (o ∷ os) =
      let rest : List (StepOf T) = steps_at i n (suc ordinal) os in
      cond (is_marker plan o.target) rest
      (record {
        from = i;
        to = place (facts_of nodes) (target_of d plan cells n o);
        ordinal = ordinal;
        outcome = o;
      } ∷ rest)

  -- those of keys, which have numbers from i on
  unfoldable pub steps_from : ℕ → List (NodeOf (FactOf T)) → List (StepOf T)
  steps_from i [] = []
  steps_from i (n ∷ ns) = steps_at i n 0 (outcomes_of d plan cells n) ++ steps_from (suc i) ns

  -- those of all keys, in the order of the keys and of each key's outcomes
  abbrev pub steps : List (StepOf T)
  steps = steps_from 0 nodes

  -- their edges
  abbrev pub graph : List Edge
  graph = edges_of steps
