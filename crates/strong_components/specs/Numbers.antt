-- Components by numbers.
use Rattle.std.specs.Prelude.{◌≡◌, ℕ, ◌<◌, ◌≤◌, ◌↔◌, List}
use Rattle.std.specs.List.{All}
use Rattle.strong_components.specs.declared.edge.Edge.{Edge}
use Rattle.strong_components.specs.declared.search.Mark.{Mark}
use Rattle.strong_components.specs.declared.search.Mark.TheVariants.{Unseen, Held, Done}
use Rattle.strong_components.specs.Paths.{Path, Mutual}
use Rattle.strong_components.specs.Search.{mark_of}

-- no key was seen
abbrev pub Fresh : List Mark → Type 0
Fresh marks = (v : ℕ) → mark_of marks v ≡ Unseen

-- the number that a mark bears
abbrev pub number_of : Mark → ℕ
number_of Unseen = 0
number_of (Held i) = 0
number_of (Done c) = c

-- Each key has a number. Two keys have the same exactly where each reaches the other, and no path
-- leads to a greater one.
pub record Numbered (edges : List Edge) (keys : List ℕ) (marks : List Mark)
    (count : ℕ) : Type 0 where
  pub each : All (λ v. mark_of marks v ≡ Done (number_of (mark_of marks v))) keys
  pub below : (v c : ℕ) → mark_of marks v ≡ Done c → c < count
  pub same : (u v c d : ℕ) → mark_of marks u ≡ Done c → mark_of marks v ≡ Done d
      → (c ≡ d) ↔ Mutual edges u v
  pub falls : (u v c d : ℕ) → mark_of marks u ≡ Done c → mark_of marks v ≡ Done d
      → Path edges u v → d ≤ c
