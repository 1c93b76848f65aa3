-- A loop that sets each cell.
use Rattle.std.specs.Prelude.{◌≡◌, ℕ, ◌+◌, ◌<◌, ◌≤◌, List, [], ◌∷◌, map, length, Bool, cond}
use Rattle.std.proofs.Math.Path.{ap₂}
use Rattle.num_domain.specs.Domain.{Domain}
use Rattle.abs_step.specs.Stores.{joined_cells}
use Rattle.std.proofs.Common.{refl, arith, ap, ◌∙◌, zero, suc, set, get_or}
use native.Mathlib.Numerals.{unary_clauses}

module _ {X T : Type 0} (f : X → T) where
  -- the first i are as they are, the others become f of theirs
  unfoldable pub fill_from : ℕ → List X → List T → List T
  fill_from i [] vs = vs
  fill_from i (c ∷ cs) [] = []
  fill_from zero (c ∷ cs) (v ∷ vs) = f c ∷ fill_from zero cs vs
  fill_from (suc i) (c ∷ cs) (v ∷ vs) = v ∷ fill_from i cs vs

  pub fill_start : (cs : List X) (vs : List T) → length cs ≡ length vs → fill_from 0 cs vs ≡ map f cs
  unfolding fill_from
  fill_start [] [] h = refl
  fill_start [] (v ∷ vs) h = absurd (omega arith)
  fill_start (c ∷ cs) [] h = absurd (omega arith)
  fill_start (c ∷ cs) (v ∷ vs) h = ap (λ (ts : List T). f c ∷ ts) (fill_start cs vs (omega arith))

  pub fill_end : (i : ℕ) (cs : List X) (vs : List T) → length cs ≤ i → length cs ≡ length vs → fill_from i cs vs ≡ vs
  unfolding fill_from
  fill_end i [] vs h e = refl
  fill_end i (c ∷ cs) [] h e = absurd (omega arith)
  fill_end zero (c ∷ cs) (v ∷ vs) h e = absurd (omega arith)
  fill_end (suc i) (c ∷ cs) (v ∷ vs) h e = ap (λ (ts : List T). v ∷ ts) (fill_end i cs vs (omega arith) (omega arith))

  step_at : (i : ℕ) (cs : List X) (vs : List T) (z : X) → i < length cs → length cs ≡ length vs → fill_from (suc i) cs (set vs i (f (get_or cs i z))) ≡ fill_from i cs vs
  unfolding fill_from
  step_at i [] vs z h e = absurd (omega arith)
  step_at i (c ∷ cs) [] z h e = absurd (omega arith)
  step_at zero (c ∷ cs) (v ∷ vs) z h e = refl
  step_at (suc i) (c ∷ cs) (v ∷ vs) z h e = ap (λ (ts : List T). v ∷ ts) (step_at i cs vs z (omega arith) (omega arith))

  pub fill_step : (i : ℕ) (cs : List X) (vs : List T) (c : X) (t : T) → i < length cs → length cs ≡ length vs → c ≡ get_or cs i c → t ≡ f c → fill_from (i + 1) cs (set vs i t) ≡ fill_from i cs vs
  fill_step i cs vs c t h e is gives = simp unary_clauses (ap (λ (x : T). fill_from (suc i) cs (set vs i x)) (gives ∙ ap f is) ∙ step_at i cs vs c h e)

-- ---- a loop that changes each cell

module _ {X T : Type 0} (f : X → T → T) where
  -- the first i are as they are, the others become f of theirs
  unfoldable pub zip_from : ℕ → List X → List T → List T
  zip_from i [] vs = vs
  zip_from i (c ∷ cs) [] = []
  zip_from zero (c ∷ cs) (v ∷ vs) = f c v ∷ zip_from zero cs vs
  zip_from (suc i) (c ∷ cs) (v ∷ vs) = v ∷ zip_from i cs vs

  pub zip_end : (i : ℕ) (cs : List X) (vs : List T) → length cs ≤ i → length cs ≡ length vs → zip_from i cs vs ≡ vs
  unfolding zip_from
  zip_end i [] vs h e = refl
  zip_end i (c ∷ cs) [] h e = absurd (omega arith)
  zip_end zero (c ∷ cs) (v ∷ vs) h e = absurd (omega arith)
  zip_end (suc i) (c ∷ cs) (v ∷ vs) h e = ap (λ (ts : List T). v ∷ ts) (zip_end i cs vs (omega arith) (omega arith))

  zip_at : (i : ℕ) (cs : List X) (vs : List T) (y : X) (z : T) → i < length cs → length cs ≡ length vs → zip_from (suc i) cs (set vs i (f (get_or cs i y) (get_or vs i z))) ≡ zip_from i cs vs
  unfolding zip_from
  zip_at i [] vs y z h e = absurd (omega arith)
  zip_at i (c ∷ cs) [] y z h e = absurd (omega arith)
  zip_at zero (c ∷ cs) (v ∷ vs) y z h e = refl
  zip_at (suc i) (c ∷ cs) (v ∷ vs) y z h e = ap (λ (ts : List T). v ∷ ts) (zip_at i cs vs y z (omega arith) (omega arith))

  pub zip_step : (i : ℕ) (cs : List X) (vs : List T) (c : X) (v z t : T) → i < length cs → length cs ≡ length vs → c ≡ get_or cs i c → v ≡ get_or vs i z → t ≡ f c v → zip_from (i + 1) cs (set vs i t) ≡ zip_from i cs vs
  zip_step i cs vs c v z t h e is has gives = simp unary_clauses (ap (λ (x : T). zip_from (suc i) cs (set vs i x)) (gives ∙ ap₂ f is has) ∙ zip_at i cs vs c z h e)

-- cells that are joined one after the other
pub zip_joined : {T : Type 0} (d : Domain T) (p : ℕ → Bool) (w : T) (cs : List ℕ) (vs : List T) → zip_from (λ c v. cond (p c) (d.join v w) v) 0 cs vs ≡ joined_cells d p cs vs w
unfolding zip_from joined_cells
zip_joined d p w [] vs = refl
zip_joined d p w (c ∷ cs) [] = refl
zip_joined {T} d p w (c ∷ cs) (v ∷ vs) = ap (λ (ts : List T). cond (p c) (d.join v w) v ∷ ts) (zip_joined d p w cs vs)

-- an item that is there doesn't hang on what stands for a missing one
there : {X : Type 0} (cs : List X) (i : ℕ) (z z' : X) → i < length cs → get_or cs i z ≡ get_or cs i z'
there [] i z z' h = absurd (omega arith)
there (c ∷ cs) zero z z' h = refl
there (c ∷ cs) (suc i) z z' h = there cs i z z' (omega arith)

-- a step with what doesn't hang on the item
pub fill_any : {T : Type 0} (t : T) (i : ℕ) (cs : List ℕ) (vs : List T) → i < length cs → length cs ≡ length vs → fill_from (λ _. t) (i + 1) cs (set vs i t) ≡ fill_from (λ _. t) i cs vs
fill_any t i cs vs h e = fill_step (λ _. t) i cs vs (get_or cs i 0) t h e (there cs i 0 (get_or cs i 0) h) refl
