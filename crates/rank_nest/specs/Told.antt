-- What is told of edges that nothing ranks, and of the levels of a nest.
use Rattle.std.specs.Prelude.{◌≡◌, ℕ, ◌<◌, ◌≤◌, ◌^◌, ◌&&◌, nat_eq, ℤ, neg_ℤ, unsigned_abs, Bool, false, cond, List, map, Option, Some, None, IfSome}
use Rattle.std.specs.List.{list_any}
use Rattle.std.specs.List.Sorted.{IsStrictlySortedBy}
use Rattle.std.specs.Ordering.{nat_cmp, ordering_then}
use Rattle.std.specs.declared.cmp.Ordering.{Ordering}
use Rattle.num_domain.specs.Domain.{Domain}
use Rattle.flag_relation.specs.declared.fact.TheConstants.{MOST_CELLS}
use Rattle.flag_relation.specs.declared.var.Var.{Var}
use Rattle.flag_relation.specs.Facts.{FactOf}
use Rattle.fix_solver.specs.Solved.{NodeOf}
use Rattle.strong_components.specs.declared.edge.Edge.{Edge}
use Rattle.rank_numbers.specs.Levels.{LevelOf}
use Rattle.rank_nest.specs.declared.fault.Edge.{Edge as KeyEdge}
use Rattle.rank_nest.specs.declared.fault.Level.{Level}
use Rattle.rank_nest.specs.declared.telling.Ends.{Ends}
use Rattle.rank_nest.specs.Candidates.{candidates, variable, is_down}
use Rattle.rank_nest.specs.Graph.{node_at}

-- ---- levels

-- a level of some keys, with a variable that goes down or up; none for a whole graph
pub record ToldOf : Type 0 where
  pub keys : List ℕ
  pub var : Option Var
  pub down : Bool
  pub low : ℤ
  pub weight : ℤ
  pub greatest : ℤ

-- The variable of a candidate, and its direction. Where it goes up, its low end is the negative of
-- that of the candidate's form.
abbrev pub told_by : LevelOf → Option ℕ → ToldOf
told_by l None = record {
  keys = l.keys;
  var = None;
  down = false;
  low = l.low;
  weight = l.weight;
  greatest = l.greatest;
}
told_by l (Some c) = record {
  keys = l.keys;
  var = Some (variable c);
  down = is_down c;
  low = cond (is_down c) l.low (neg_ℤ l.low);
  weight = l.weight;
  greatest = l.greatest;
}

abbrev pub told : LevelOf → ToldOf
told l = told_by l l.candidate

-- the level as it stands in memory
abbrev pub told_of : Level → ToldOf
told_of l = record {
  keys = l.keys.items;
  var = l.var;
  down = l.down;
  low = l.low;
  weight = l.weight;
  greatest = l.greatest;
}

-- the candidate is one that facts may have, and the low end is that of values
pub record IsTellable (l : LevelOf) : Type 0 where
  pub candidate : IfSome l.candidate (λ c. c < candidates MOST_CELLS)
  pub low : unsigned_abs l.low ≤ 2 ^ 39

-- ---- edges

-- by where they begin, and then by where they end
abbrev pub ends_cmp : Ends → Ends → Ordering
ends_cmp p q = ordering_then (nat_cmp p.from q.from) (nat_cmp p.to q.to)

abbrev pub same_ends : Ends → Ends → Bool
same_ends p q = nat_eq p.from q.from && nat_eq p.to q.to

-- both ends of an edge
abbrev pub ends_of : Edge → Ends
ends_of e = record { from = e.from; to = e.to }

-- the ends of the edges, ascending, each once
pub record AreEnds (edges : List Edge) (ends : List Ends) : Type 0 where
  pub ascending : IsStrictlySortedBy ends_cmp ends
  pub same : (p : Ends) → list_any (same_ends p) ends ≡ list_any (same_ends p) (map ends_of edges)

module _ {T : Type 0} (d : Domain T) (nodes : List (NodeOf (FactOf T))) where
  -- the keys at both ends
  abbrev pub keys_at : Ends → KeyEdge
  keys_at p = record { from = (node_at d nodes p.from).key; to = (node_at d nodes p.to).key }

  -- the pairs of keys of the edges, ascending, each once
  pub record AreTold (edges : List Edge) (pairs : List KeyEdge) : Type 0 where
    pub ends : List Ends
    pub are : AreEnds edges ends
    pub keys : pairs ≡ map keys_at ends
