-- The loops over cells, begun at a place.
use Rattle.std.specs.Prelude.{◌≡◌, ℕ, ◌<◌, ◌≤◌, ◌+◌, Bool, true, ◌&&◌, List, [], ◌∷◌, length, map, drop}
use Rattle.std.proofs.Common.{refl, arith, ap, zero, suc, set, get_or, sym, ◌∙◌}
use Rattle.std.proofs.Math.Path.{ap₂}
use native.Mathlib.Numerals.{unary_clauses}
use Rattle.num_domain.specs.Domain.{Domain}
use Rattle.flag_relation.specs.Order.{cells_include}
use Rattle.flag_relation.specs.Joins.{join_cells}

module _ {T : Type 0} (d : Domain T) where
  -- the test from a place on
  include_at : (cs os : List T) (i : ℕ) (z z' : T) → length cs ≡ length os → i < length cs → cells_include d (drop i cs) (drop i os) ≡ (d.includes (get_or cs i z) (get_or os i z') && cells_include d (drop (suc i) cs) (drop (suc i) os))
  unfolding cells_include
  include_at [] os i z z' e h = absurd (omega arith)
  include_at (c ∷ cs) [] i z z' e h = absurd (omega arith)
  include_at (c ∷ cs) (o ∷ os) zero z z' e h = refl
  include_at (c ∷ cs) (o ∷ os) (suc i) z z' e h = include_at cs os i z z' (omega arith) (omega arith)

  pub include_then : (cs os : List T) (i : ℕ) (x y : T) (b : Bool) → length cs ≡ length os → i < length cs → x ≡ get_or cs i x → y ≡ get_or os i y → d.includes x y ≡ b → cells_include d (drop i cs) (drop i os) ≡ (b && cells_include d (drop (i + 1) cs) (drop (i + 1) os))
  include_then cs os i x y b e h p q t =
      simp unary_clauses (include_at cs os i x y e h ∙ ap (λ (a : Bool). a && cells_include d (drop (suc i) cs) (drop (suc i) os)) (sym (ap₂ d.includes p q) ∙ t))

  pub include_end : (cs os : List T) (i : ℕ) → length cs ≡ length os → length cs ≤ i → cells_include d (drop i cs) (drop i os) ≡ true
  unfolding cells_include
  include_end [] [] zero e h = refl
  include_end [] [] (suc i) e h = refl
  include_end [] (o ∷ os) i e h = absurd (omega arith)
  include_end (c ∷ cs) [] i e h = absurd (omega arith)
  include_end (c ∷ cs) (o ∷ os) zero e h = absurd (omega arith)
  include_end (c ∷ cs) (o ∷ os) (suc i) e h = include_end cs os i (omega arith) (omega arith)

  pub join_length : (cs os : List T) → length (join_cells d cs os) ≡ length cs
  unfolding join_cells
  join_length [] os = refl
  join_length (c ∷ cs) [] = refl
  join_length (c ∷ cs) (o ∷ os) = ap suc (join_length cs os)

  -- the first i cells as they are, the others joined
  unfoldable pub join_from : ℕ → List T → List T → List T
  join_from zero cs os = join_cells d cs os
  join_from (suc i) [] os = []
  join_from (suc i) (c ∷ cs) [] = c ∷ cs
  join_from (suc i) (c ∷ cs) (o ∷ os) = c ∷ join_from i cs os

  join_at : (cs os : List T) (i : ℕ) (z z' : T) → length cs ≡ length os → i < length cs → join_from (suc i) (set cs i (d.join (get_or cs i z) (get_or os i z'))) os ≡ join_from i cs os
  unfolding join_from join_cells
  join_at [] os i z z' e h = absurd (omega arith)
  join_at (c ∷ cs) [] i z z' e h = absurd (omega arith)
  join_at (c ∷ cs) (o ∷ os) zero z z' e h = refl
  join_at (c ∷ cs) (o ∷ os) (suc i) z z' e h = ap (λ (xs : List T). c ∷ xs) (join_at cs os i z z' (omega arith) (omega arith))

  pub join_step : (cs os : List T) (i : ℕ) (x y r : T) → length cs ≡ length os → i < length cs → y ≡ get_or os i y → r ≡ d.join (get_or cs i x) y → join_from (i + 1) (set cs i r) os ≡ join_from i cs os
  join_step cs os i x y r e h q t =
      simp unary_clauses (ap (λ (a : T). join_from (suc i) (set cs i a) os) (t ∙ ap (d.join (get_or cs i x)) q) ∙ join_at cs os i x y e h)

  pub join_end : (cs os : List T) (i : ℕ) → length cs ≡ length os → length cs ≤ i → join_from i cs os ≡ cs
  unfolding join_from join_cells
  join_end [] os zero e h = refl
  join_end [] os (suc i) e h = refl
  join_end (c ∷ cs) [] i e h = absurd (omega arith)
  join_end (c ∷ cs) (o ∷ os) zero e h = absurd (omega arith)
  join_end (c ∷ cs) (o ∷ os) (suc i) e h = ap (λ (xs : List T). c ∷ xs) (join_end cs os i (omega arith) (omega arith))

module _ {T : Type 0} (f : T → T) where
  -- the first i cells as they are, the others changed
  unfoldable pub map_from : ℕ → List T → List T
  map_from zero cs = map f cs
  map_from (suc i) [] = []
  map_from (suc i) (c ∷ cs) = c ∷ map_from i cs

  map_at : (cs : List T) (i : ℕ) (z : T) → i < length cs → map_from (suc i) (set cs i (f (get_or cs i z))) ≡ map_from i cs
  unfolding map_from
  map_at [] i z h = absurd (omega arith)
  map_at (c ∷ cs) zero z h = refl
  map_at (c ∷ cs) (suc i) z h = ap (λ (xs : List T). c ∷ xs) (map_at cs i z (omega arith))

  pub map_step : (cs : List T) (i : ℕ) (x r : T) → i < length cs → r ≡ f (get_or cs i x) → map_from (i + 1) (set cs i r) ≡ map_from i cs
  map_step cs i x r h t = simp unary_clauses (ap (λ (a : T). map_from (suc i) (set cs i a)) t ∙ map_at cs i x h)

  pub map_end : (cs : List T) (i : ℕ) → length cs ≤ i → map_from i cs ≡ cs
  unfolding map_from
  map_end [] zero h = refl
  map_end [] (suc i) h = refl
  map_end (c ∷ cs) zero h = absurd (omega arith)
  map_end (c ∷ cs) (suc i) h = ap (λ (xs : List T). c ∷ xs) (map_end cs i (omega arith))
