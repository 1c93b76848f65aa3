-- Code spans in the order of their addresses, in which an address is looked for by halves.
use Rattle.std.specs.Prelude.{◌≤◌, ℕ, nat_le, Bool, false, List, Option, Some, None}
use Rattle.std.specs.List.{All}
use Rattle.std.specs.List.Sorted.{IsPermutation, IsNonDecreasingBy}

-- These are the spans, none of them empty, in the order of their first addresses and of their last.
pub record AreSorted (spans sorted : List (ℕ × ℕ)) : Type 0 where
  pub same : IsPermutation spans sorted
  pub some : All (λ s. s.0 ≤ s.1) spans
  pub low : IsNonDecreasingBy (λ s. s.0) sorted
  pub high : IsNonDecreasingBy (λ s. s.1) sorted

-- does a span begin at an address up to hi?
abbrev pub begins_by : ℕ → Option (ℕ × ℕ) → Bool
begins_by hi None = false
begins_by hi (Some s) = nat_le s.0 hi
