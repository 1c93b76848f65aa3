-- Offsets of parts, by the parts that they lead into.
use Rattle.std.specs.Prelude.{◌≡◌, ℕ, ◌<◌, ◌*◌, ◌^◌, ◌⊎◌, List, [], length, map, slice_index_or, ℤ, pos, ◌+ℤ◌, ◌≤ℤ◌}
use Rattle.std.specs.List.{All, AllPairs, Contains}
use Rattle.std.specs.declared.alloc.Global.{Global}
use Rattle.std.specs.declared.vec.Vec.{Vec}

-- the lists of places
abbrev pub place_lists : List (Vec ℕ Global) → List (List ℕ)
place_lists lists = map (λ v. v.items) lists

-- the places of the parts that a part leads into
abbrev pub leads_at : List (Vec ℕ Global) → ℕ → List ℕ
leads_at leads p = slice_index_or (place_lists leads) p []

-- the number of a part
abbrev pub number_at : List ℤ → ℕ → ℤ
number_at numbers p = slice_index_or numbers p (pos 0)

-- the greatest sum of offset and greatest value over some parts; 0 where there are none
pub record IsBest (leads : List ℕ) (greatest offset : List ℤ) (best : ℤ) : Type 0 where
  pub least : pos 0 ≤ℤ best
  pub bound : (q : ℕ) → Contains leads q → (number_at offset q +ℤ number_at greatest q) ≤ℤ best
  pub attained : (best ≡ pos 0) ⊎ ((q : ℕ) × Contains leads q
      × (best ≡ number_at offset q +ℤ number_at greatest q))

-- an order in which no part leads into a later one or itself
pub record LeadsBack (leads : List (Vec ℕ Global)) (order : List ℕ) : Type 0 where
  pub within : All (λ p. p < length leads) order
  pub each : (p q : ℕ) → p < length leads → Contains (leads_at leads p) q → Contains order q
  pub not_later : AllPairs (λ p q. (p ≡ q → ⊥) × (Contains (leads_at leads p) q → ⊥)) order
  pub not_own : (p : ℕ) → Contains (leads_at leads p) p → ⊥

-- the greatest sum of offset and greatest value over the first parts
pub record IsMost (greatest offset : List ℤ) (n : ℕ) (most : ℤ) : Type 0 where
  pub bound : (p : ℕ) → p < n → (number_at offset p +ℤ number_at greatest p) ≤ℤ most
  pub attained : (p : ℕ) × (p < length offset) × (most ≡ number_at offset p +ℤ number_at greatest p)

-- no greatest value is over 2^62, and the offsets are sums of at most `n` of them
pub record AreBounded (greatest offset : List ℤ) (n : ℕ) : Type 0 where
  pub least : (q : ℕ) → pos 0 ≤ℤ number_at offset q
  pub most : (q : ℕ) → number_at offset q ≤ℤ pos (n * 2 ^ 62)
  pub limited : (q : ℕ) → number_at greatest q ≤ℤ pos (2 ^ 62)
