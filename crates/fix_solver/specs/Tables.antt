-- Facts at keys, in the order in which the keys were found.
use Rattle.std.specs.Prelude.{◌≡◌, ℕ, ◌+◌, ◌<◌, ◌≤◌, cond, Option, None, Some, IsSomeAnd, List, [], ◌∷◌, map, length}
use Rattle.std.proofs.Common.{suc}
use Rattle.std.specs.List.{IsDistinct}
use Rattle.flow_recover.specs.declared.key.Key.{Key}
use Rattle.flow_recover.specs.Keys.{same_key}
use Rattle.fix_solver.specs.declared.at.At.{At}
use Rattle.fix_solver.specs.declared.table.TheConstants.{MOST_KEYS}
use Rattle.fix_solver.specs.Rules.{Rules}

-- the facts found so far, and beside each the numbers of the keys that follow from it
pub record TableOf (F : Type 0) : Type 0 where
  pub known : List (At F)
  pub succ : List (List ℕ)

-- the number of a key: how many stand before it
abbrev pub place_of : List Key → Key → ℕ
place_of [] k = 0
place_of (l ∷ ls) k = cond (same_key k l) 0 (suc (place_of ls k))

-- i is the number of the key among the keys
pub record IsNumber (ks : List Key) (k : Key) (i : ℕ) : Type 0 where
  pub number : i ≡ place_of ks k
  pub below : i < length ks

module _ {F : Type 0} where
  -- the keys of the facts
  abbrev pub keys_of : List (At F) → List Key
  keys_of es = map (λ e. e.key) es

  -- the fact at a key
  abbrev pub fact_at : List (At F) → Key → Option F
  fact_at [] k = None
  fact_at (e ∷ es) k = cond (same_key k e.key) (Some e.fact) (fact_at es k)

  -- the number of a key: how many were found before it
  abbrev pub place : List (At F) → Key → ℕ
  place es k = place_of (keys_of es) k

  -- i is the number of the key
  pub record IsPlace (es : List (At F)) (k : Key) (i : ℕ) : Type 0 where
    pub here : IsSomeAnd (fact_at es k) (λ f. Unit {0})
    pub number : i ≡ place es k
    pub below : i < length es

  -- each key is numbered once, at most 65,536 of them
  pub record IsTable (numbers : List Key) (es : List (At F)) (n : ℕ) : Type 0 where
    pub keys : numbers ≡ keys_of es
    pub distinct : IsDistinct same_key numbers
    pub rows : n ≡ length es
    pub few : length es ≤ MOST_KEYS

module _ {F : Type 0} (r : Rules F) where
  -- the fact joined with the other, where it doesn't include it
  abbrev pub joined : F → F → F
  joined f g = cond (r.includes f g) f (r.join f g)

  -- the facts after one more is given: its key keeps its place, or is found last
  abbrev pub given : List (At F) → At F → List (At F)
  given [] e = e ∷ []
  given (x ∷ xs) e =
      cond (same_key e.key x.key)
      (record { key = x.key; fact = joined x.fact e.fact } ∷ xs) (x ∷ given xs e)

  -- the heights of all facts
  abbrev pub heights : List (At F) → ℕ
  heights [] = 0
  heights (e ∷ es) = r.height e.fact + heights es
