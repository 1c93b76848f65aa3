-- What a refusal of the certifier says.
use Rattle.std.specs.Prelude.{List}
use Rattle.num_domain.specs.Domain.{Domain}
use Rattle.memory_plan.specs.Plans.{PlanLines}
use Rattle.flag_relation.specs.Facts.{FactOf}
use Rattle.flow_recover.specs.Cells.{cells_of}
use Rattle.fix_solver.specs.declared.fault.SolveFault.{SolveFault}
use Rattle.fix_solver.specs.declared.fault.SolveFault.TheVariants as solve
use Rattle.fix_solver.specs.Faults.{AreNodes}
use Rattle.fix_solver.specs.Solutions.{FailsEverywhere, plan_rules}
use Rattle.fix_solver.specs.Solved.{NodeOf, IsSolved}
use Rattle.rank_nest.specs.declared.fault.RankFault.{RankFault}
use Rattle.rank_nest.specs.declared.fault.RankFault.TheVariants as rank
use Rattle.rank_nest.specs.Ranks.{AreUnranked, IsLargeNest}
use Rattle.certifier.specs.declared.fault.CertifyFault.{CertifyFault}
use Rattle.certifier.specs.declared.fault.CertifyFault.TheVariants.{Undischarged, Nodes, Unranked, Large, Memory}

-- ---- faults of the solver and of the ranks, as the certifier tells them

abbrev pub of_solve : SolveFault → CertifyFault
of_solve (solve.Undischarged k c) = Undischarged k c
of_solve (solve.Nodes keys) = Nodes keys
of_solve solve.Memory = Memory

abbrev pub of_rank : RankFault → CertifyFault
of_rank (rank.Unranked edges) = Unranked edges
of_rank (rank.Large nest) = Large nest
of_rank rank.Memory = Memory

-- ---- what they say

module _ {T : Type 0} (d : Domain T) (plan : PlanLines) where
  -- P holds of the least solution
  pub record HoldsOfLeast (P : List (NodeOf (FactOf T)) → Type 0) : Type 0 where
    pub nodes : List (NodeOf (FactOf T))
    pub solved : IsSolved (plan_rules d plan) nodes
    pub holds : P nodes

  -- The condition fails at the key in every candidate; the keys stand in every candidate; the edges are
  -- the first stuck component of the least solution; the levels are those of its nest up to the first
  -- large number.
  abbrev pub IsCertifyFault : CertifyFault → Type 0
  IsCertifyFault (Undischarged k c) = FailsEverywhere (plan_rules d plan) k c
  IsCertifyFault (Nodes keys) = AreNodes (plan_rules d plan) keys.items
  IsCertifyFault (Unranked edges) =
      HoldsOfLeast (λ nodes. AreUnranked d plan (cells_of plan) nodes edges.items)
  IsCertifyFault (Large nest) =
      HoldsOfLeast (λ nodes. IsLargeNest d plan (cells_of plan) nodes nest.levels.items)
  IsCertifyFault Memory = Unit {0}

-- the solution was found, and its keys aren't too many
abbrev pub IsPastSolving : CertifyFault → Type 0
IsPastSolving (Undischarged k c) = ⊥
IsPastSolving (Nodes keys) = ⊥
IsPastSolving (Unranked edges) = Unit {0}
IsPastSolving (Large nest) = Unit {0}
IsPastSolving Memory = Unit {0}
