-- The levels of a nest.
use Rattle.std.specs.Prelude.{ℕ, ◌++◌, List, [], ◌∷◌, map, Option, Some, None, ℤ, pos}
use Rattle.rank_numbers.specs.declared.level.Level.{Level}

-- The level of some keys: its candidate, or none for the level of a whole graph, with its low end
-- and its weight, and the greatest value.
pub record LevelOf : Type 0 where
  pub keys : List ℕ
  pub candidate : Option ℕ
  pub low : ℤ
  pub weight : ℤ
  pub greatest : ℤ

-- the level of a component
abbrev pub part_level : List ℕ → ℕ → ℤ → ℤ → ℤ → LevelOf
part_level part c low weight greatest = record {
  keys = part;
  candidate = Some c;
  low = low;
  weight = weight;
  greatest = greatest;
}

-- the level of a whole graph
abbrev pub graph_level : List ℕ → ℤ → LevelOf
graph_level keys total = record {
  keys = keys;
  candidate = None;
  low = pos 0;
  weight = pos 0;
  greatest = total;
}

-- lists of levels, joined in their order
unfoldable pub all_levels : List (List LevelOf) → List LevelOf
all_levels [] = []
all_levels (first ∷ others) = first ++ all_levels others

-- the levels as they stand in memory
abbrev pub level_of : Level → LevelOf
level_of l = record {
  keys = l.keys.items;
  candidate = l.candidate;
  low = l.low;
  weight = l.weight;
  greatest = l.greatest;
}

abbrev pub levels_of : List Level → List LevelOf
levels_of levels = map level_of levels
