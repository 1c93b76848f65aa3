-- Keys put together by their numbers.
use Rattle.std.specs.Prelude.{◌≡◌, ℕ, ◌<◌, ◌++◌, ◌∷◌, List, [], Option, Some, None, length, map, slice_index, slice_index_or, slice_set, MatchOption}
use Rattle.std.specs.List.{All, AllPairs, Contains}
use Rattle.std.specs.declared.alloc.Global.{Global}
use Rattle.std.specs.declared.vec.Vec.{Vec}
use Rattle.strong_components.specs.Components.{part_at}

-- the lists of keys
abbrev pub lists_of : List (Vec ℕ Global) → List (List ℕ)
lists_of parts = map (λ v. v.items) parts

-- the place of a number's part
abbrev pub place_of : List (Option ℕ) → ℕ → Option ℕ
place_of places n = slice_index_or places n None

-- a key is put to the part of its number, or begins a part
abbrev pub Added : List (Option ℕ) → List (List ℕ) → ℕ → ℕ → List (Option ℕ) → List (List ℕ)
    → Type 0
Added places parts n key places' parts' =
    MatchOption (place_of places n)
    ((places' ≡ slice_set places n (Some (length parts))) × (parts' ≡ parts ++ (key ∷ []) ∷ []))
    (λ p. (places' ≡ places) × (parts' ≡ slice_set parts p (part_at parts p ++ key ∷ [])))

-- `parts` are the keys put together by their numbers; `places` has the place of each number's part
pub record Grouped (number : ℕ
    → ℕ) (keys : List ℕ) (places : List (Option ℕ)) (parts : List (List ℕ)) : Type 0 where
  pub of_part : (p u : ℕ) → p < length parts → Contains (part_at parts p) u
      → place_of places (number u) ≡ Some p
  pub below : (n p : ℕ) → place_of places n ≡ Some p → p < length parts
  pub apart : (n m p : ℕ) → place_of places n ≡ Some p → place_of places m ≡ Some p → n ≡ m
  pub some : (p : ℕ) → p < length parts → 0 < length (part_at parts p)
  pub ascend : (p : ℕ) → p < length parts → AllPairs (λ u v. u < v) (part_at parts p)
  pub firsts : (p q : ℕ) → p < q → q < length parts
      → slice_index (part_at parts p) 0 < slice_index (part_at parts q) 0
  pub members : (p u : ℕ) → p < length parts → Contains (part_at parts p) u → Contains keys u
  pub covered : (u : ℕ) → Contains keys u → (p : ℕ) × (p < length parts)
      × Contains (part_at parts p) u

-- the places in order of their numbers
pub record Ordered (places : List (Option ℕ)) (upto : ℕ) (order : List ℕ) : Type 0 where
  pub from : All (λ p. (n : ℕ) × (n < upto) × (place_of places n ≡ Some p)) order
  pub each : (n p : ℕ) → n < upto → place_of places n ≡ Some p → Contains order p
  pub ascend : AllPairs (λ p q. (n : ℕ) × (m : ℕ) × (n < m) × (place_of places n ≡ Some p)
      × (place_of places m ≡ Some q)) order
