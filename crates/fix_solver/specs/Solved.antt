-- What the solver answers.
use Rattle.std.specs.Prelude.{◌≡◌, ◌≤◌, ℕ, List, [], ◌∷◌, map, length}
use Rattle.std.specs.List.{AllByRecursion}
use Rattle.std.specs.List.Sorted.{IsStrictlySortedBy}
use Rattle.flag_relation.specs.Facts.{FactOf}
use Rattle.flow_recover.specs.declared.key.Key.{Key}
use Rattle.flow_recover.specs.Keys.{key_cmp}
use Rattle.fix_solver.specs.declared.at.At.{At}
use Rattle.fix_solver.specs.declared.table.TheConstants.{MOST_KEYS}
use Rattle.fix_solver.specs.Order.{IsSetOf, ArePlaces, AreRows}
use Rattle.fix_solver.specs.Rules.{Rules, Fits}
use Rattle.fix_solver.specs.Solutions.{IsLeastSolution}
use Rattle.fix_solver.specs.Tables.{TableOf, keys_of, fact_at, place}

-- a key with its fact, and the numbers of the keys that follow from it
pub record NodeOf (F : Type 0) : Type 0 where
  pub key : Key
  pub fact : F
  pub succ : List ℕ

-- the nodes, and how often outcomes were taken
pub record FoundOf (F : Type 0) : Type 0 where
  pub nodes : List (NodeOf F)
  pub applied : ℕ

-- the cells whose values facts have, the nodes, and how often outcomes were taken
pub record SolvedOf (T : Type 0) : Type 0 where
  pub cells : List ℕ
  pub nodes : List (NodeOf (FactOf T))
  pub applied : ℕ

module _ {F : Type 0} where
  -- facts with their rows
  abbrev pub nodes_of : List (At F) → List (List ℕ) → List (NodeOf F)
  nodes_of [] ss = []
  nodes_of (e ∷ es) [] = []
  nodes_of (e ∷ es) (s ∷ ss) = record { key = e.key; fact = e.fact; succ = s } ∷ nodes_of es ss

  -- the facts of the nodes
  abbrev pub facts_of : List (NodeOf F) → List (At F)
  facts_of ns = map (λ n. record { key = n.key; fact = n.fact }) ns

  -- the numbers of a node's successors
  abbrev pub rows_of : List (NodeOf F) → List (List ℕ)
  rows_of ns = map (λ n. n.succ) ns

  -- the table in ascending order of its keys, with the numbers in that order
  pub record IsInOrder (t : TableOf F) (ns : List (NodeOf F)) : Type 0 where
    pub few : length ns ≤ MOST_KEYS
    pub ascending : IsStrictlySortedBy key_cmp (keys_of (facts_of ns))
    pub facts : (k : Key) → fact_at (facts_of ns) k ≡ fact_at t.known k
    pub places : List ℕ
    pub moves : ArePlaces (keys_of t.known) (keys_of (facts_of ns)) places
    pub rows : AreRows (keys_of t.known) places t.succ (keys_of (facts_of ns)) (rows_of ns)

-- The answer: keys that ascend, not too many; the least solution, whose facts have as many cells as
-- the rules ask; and beside each key the numbers of the keys that its outcomes lead to, ascending,
-- each once.
pub record IsSolved {F : Type 0} (r : Rules F) (ns : List (NodeOf F)) : Type 0 where
  pub few : length ns ≤ MOST_KEYS
  pub ascending : IsStrictlySortedBy key_cmp (keys_of (facts_of ns))
  pub fit : AllByRecursion (λ n. Fits r n.fact) ns
  pub least : IsLeastSolution r (fact_at (facts_of ns))
  pub succ : AllByRecursion
      (λ n. IsSetOf n.succ (map (λ e. place (facts_of ns) e.key) (r.outcomes n.key n.fact))) ns
