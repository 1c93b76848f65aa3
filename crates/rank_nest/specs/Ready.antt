-- What making outcomes again rests on, of which no public clause speaks.
use Rattle.std.specs.Prelude.{◌≡◌, ℕ, List, [], length}
use Rattle.num_domain.specs.Domain.{Domain}
use Rattle.memory_plan.specs.Plans.{PlanLines}
use Rattle.flag_relation.specs.Facts.{FactOf}
use Rattle.flow_recover.specs.Cells.{cells_of}
use Rattle.fix_solver.specs.Solutions.{plan_rules}
use Rattle.fix_solver.specs.Solved.{NodeOf, IsSolved}
use Rattle.rank_nest.specs.Building.{GraphOf, IsExtended}
use Rattle.rank_nest.specs.Candidates.{candidates}
use Rattle.rank_nest.specs.Graph.{steps}

-- no edge, and candidates over so many cells
abbrev pub no_graph : ℕ → GraphOf
no_graph cells = record {
  edges = [];
  ordinals = [];
  count = candidates cells;
  grow = [];
  fall = [];
}

module _ {T : Type 0} (d : Domain T) (plan : PlanLines) (cells : List ℕ)
    (nodes : List (NodeOf (FactOf T))) where
  -- these are the least solution of the plan, over its cells
  pub record IsLeast : Type 0 where
    pub solved : IsSolved (plan_rules d plan) nodes
    pub over : cells ≡ cells_of plan

  -- the graph is that of the solution
  abbrev pub IsGraphOf : GraphOf → Type 0
  IsGraphOf g = IsExtended d (no_graph (length cells)) (steps d plan cells nodes) g

  -- the graph is that of the least solution, and there is room for outcomes over its cells
  pub record IsReady (g : GraphOf) (room : ℕ) : Type 0 where
    pub least : IsLeast
    pub built : IsGraphOf g
    pub enough : room ≡ length cells
