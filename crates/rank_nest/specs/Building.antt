-- A graph as it is built, step by step, of which no public clause speaks.
use Rattle.std.specs.Prelude.{◌≡◌, ℕ, List, ◌++◌, map, length}
use Rattle.num_domain.specs.Domain.{Domain}
use Rattle.strong_components.specs.declared.edge.Edge.{Edge}
use Rattle.rank_nest.specs.Bits.{bits}
use Rattle.rank_nest.specs.Candidates.{grows_by, falls_by}
use Rattle.rank_nest.specs.Graph.{StepOf, edges_from}

-- edges, which outcome of its key each is, and for each by bits the candidates that may grow and
-- that surely fall
pub record GraphOf : Type 0 where
  pub edges : List Edge
  pub ordinals : List ℕ
  pub count : ℕ
  pub grow : List ℕ
  pub fall : List ℕ

module _ {T : Type 0} (d : Domain T) where
  abbrev pub grow_mask : ℕ → StepOf T → ℕ
  grow_mask count s = bits (grows_by d s.outcome) 0 count

  abbrev pub fall_mask : ℕ → StepOf T → ℕ
  fall_mask count s = bits (falls_by d s.outcome) 0 count

  -- the second graph is the first with these steps after it
  pub record IsExtended (g : GraphOf) (ss : List (StepOf T)) (h : GraphOf) : Type 0 where
    pub edges : h.edges ≡ g.edges ++ edges_from (length g.edges) ss
    pub ordinals : h.ordinals ≡ g.ordinals ++ map (λ s. s.ordinal) ss
    pub count : h.count ≡ g.count
    pub grow : h.grow ≡ g.grow ++ map (grow_mask g.count) ss
    pub fall : h.fall ≡ g.fall ++ map (fall_mask g.count) ss
