-- The ranks of the least solution, and why there may be none.
use Rattle.std.specs.Prelude.{◌≡◌, ℕ, ◌<◌, ℤ, pos, negsuc, ◌≤ℤ◌, false, List, map, length, slice_index_or, Some}
use Rattle.std.specs.List.{All, range_with_len}
use Rattle.num_domain.specs.Domain.{Domain}
use Rattle.memory_plan.specs.Plans.{PlanLines, is_marker}
use Rattle.flag_relation.specs.Facts.{FactOf}
use Rattle.flag_relation.specs.Forms.{FormOf}
use Rattle.rank_form.specs.Bounds.{upper, lower, rise}
use Rattle.rank_form.specs.Levels.{constant_form}
use Rattle.fix_solver.specs.Solved.{NodeOf, facts_of}
use Rattle.fix_solver.specs.Tables.{place}
use Rattle.strong_components.specs.declared.edge.Edge.{Edge}
use Rattle.rank_shape.specs.declared.moves.Moves.{Moves}
use Rattle.rank_shape.specs.Nests.{HasNest, IsFirstStuck}
use Rattle.rank_shape.specs.Stuck.{IsRanked}
use Rattle.rank_numbers.specs.Levels.{LevelOf}
use Rattle.rank_numbers.specs.Numbers.{limit}
use Rattle.rank_numbers.specs.Results.{AllSmall, FirstLarge}
use Rattle.rank_nest.specs.declared.fault.Edge.{Edge as KeyEdge}
use Rattle.rank_nest.specs.declared.fault.Level.{Level}
use Rattle.rank_nest.specs.declared.fault.RankFault.{RankFault}
use Rattle.rank_nest.specs.declared.fault.RankFault.TheVariants.{Unranked, Large, Memory}
use Rattle.rank_nest.specs.Graph.{node_at, outcomes_of, target_of, graph}
use Rattle.rank_nest.specs.Forms.{forms_of, AreMoves}
use Rattle.rank_nest.specs.Told.{told, told_of, AreTold}

-- the numbers of so many keys, ascending
abbrev pub keys_below : ℕ → List ℕ
keys_below count = range_with_len 0 count

module _ {T : Type 0} (d : Domain T) (plan : PlanLines) (cells : List ℕ)
    (nodes : List (NodeOf (FactOf T))) where
  -- the form at the key of a number
  abbrev pub rank_at : List FormOf → ℕ → FormOf
  rank_at ranks k = slice_index_or ranks k (constant_form (pos 1))

  -- the ranks are the forms of the nest, in which no number is large
  pub record AreOfNest (ranks : List FormOf) : Type 0 where
    pub moves : Moves
    pub are : AreMoves d plan cells nodes moves
    pub total : ℤ
    pub numbers : AllSmall (forms_of d plan cells nodes) moves (keys_below (length nodes))
        (graph d plan cells nodes) (rank_at ranks) total

  -- The ranks of the solution: one for each key, by its nest. Each is at least 1 over its key's
  -- fact and at most 2^62, and falls by 1 at least over each outcome that leads to no marker.
  pub record AreRanks (ranks : List FormOf) : Type 0 where
    pub count : length ranks ≡ length nodes
    pub of_nest : 0 < length nodes → AreOfNest ranks
    pub positive : (k : ℕ) → k < length nodes
        → pos 1 ≤ℤ lower d (rank_at ranks k) (node_at d nodes k).fact
    pub falls : (k : ℕ) → k < length nodes
        → All (λ o. is_marker plan o.target ≡ false
        → rise d (rank_at ranks k) (rank_at ranks (place (facts_of nodes)
        (target_of d plan cells (node_at d nodes k) o))) o ≤ℤ negsuc 0)
        (outcomes_of d plan cells (node_at d nodes k))
    pub bounded : (k : ℕ) → k < length nodes
        → upper d (rank_at ranks k) (node_at d nodes k).fact ≤ℤ limit

  -- The edges are those of the first stuck component. No choice of candidates ranks them, nor all
  -- edges of the solution.
  pub record AreUnranked (pairs : List KeyEdge) : Type 0 where
    pub moves : Moves
    pub are : AreMoves d plan cells nodes moves
    pub stuck : List Edge
    pub first : IsFirstStuck moves (keys_below (length nodes)) (graph d plan cells nodes) stuck
    pub never : IsRanked moves (graph d plan cells nodes) (Some stuck)
    pub told : AreTold d nodes stuck pairs

  -- no component is stuck, and these are the levels of the nest up to the first large number
  pub record IsLargeNest (levels : List Level) : Type 0 where
    pub moves : Moves
    pub are : AreMoves d plan cells nodes moves
    pub nest : HasNest moves (keys_below (length nodes)) (graph d plan cells nodes)
    pub all : List LevelOf
    pub large : FirstLarge (forms_of d plan cells nodes) moves (keys_below (length nodes))
        (graph d plan cells nodes) all
    pub told : map told_of levels ≡ map told all

  -- what is said where there are no ranks
  abbrev pub IsRankFault : RankFault → Type 0
  IsRankFault (Unranked pairs) = AreUnranked pairs.items
  IsRankFault (Large nest) = IsLargeNest nest.levels.items
  IsRankFault Memory = Unit {0}
