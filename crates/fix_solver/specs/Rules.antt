-- Rules on facts at keys: what holds at the start, and what follows from a fact at a key.
use Rattle.std.specs.Prelude.{◌≡◌, ℕ, ◌<◌, Bool, true, false, Option, None, IfSome, IsSomeAnd, List, [], ◌∷◌, ◌⊎◌}
use Rattle.std.specs.List.{AllByRecursion}
use Rattle.abs_step.specs.declared.outcome.Cond.{Cond}
use Rattle.flow_recover.specs.declared.key.Key.{Key}
use Rattle.fix_solver.specs.declared.at.At.{At}

-- an order on facts with joins, the facts that hold at the start, and for each fact at a key the
-- conditions that it keeps and the facts that follow from it
pub record Rules (F : Type 0) : Type 0 where
  pub fits : F → Bool
  pub includes : F → F → Bool
  pub join : F → F → F
  pub height : F → ℕ
  pub starts : List (At F)
  pub outcomes : Key → F → List (At F)
  pub keeps : Key → F → Cond → Bool
  pub fault : Key → F → Option Cond

-- the second fact includes the first
pub record Below {F : Type 0} (r : Rules F) (f g : F) : Type 0 where
  pub holds : r.includes g f ≡ true

-- a map from keys to facts has the fact at its key, or one that includes it
abbrev pub Included : {F : Type 0} → Rules F → (Key → Option F) → At F → Type 0
Included r m e = IsSomeAnd (m e.key) (λ f. Below r e.fact f)

-- wherever the first map has a fact, the second includes it
abbrev pub MapBelow : {F : Type 0} → Rules F → (Key → Option F) → (Key → Option F) → Type 0
MapBelow r m n = (k : Key) → IfSome (m k) (λ f. IsSomeAnd (n k) (λ g. Below r f g))

-- the fact fits, as facts over the same cells do
pub record Fits {F : Type 0} (r : Rules F) (f : F) : Type 0 where
  pub holds : r.fits f ≡ true

-- some fact of the list is at the key of e and includes it
abbrev pub HasLarger : {F : Type 0} → Rules F → At F → List (At F) → Type 0
HasLarger r e [] = ⊥
HasLarger r e (x ∷ xs) = ((x.key ≡ e.key) × Below r e.fact x.fact) ⊎ HasLarger r e xs

-- each fact of the first list has a larger one in the second
abbrev pub AllBelow : {F : Type 0} → Rules F → List (At F) → List (At F) → Type 0
AllBelow r es xs = AllByRecursion (λ e. HasLarger r e xs) es

-- the laws: an order with least upper bounds and heights, and larger facts for a larger fact
pub record RulesLaws {F : Type 0} (r : Rules F) : Type 0 where
  pub refl : (f : F) → Below r f f
  pub trans : (f g h : F) → Below r f g → Below r g h → Below r f h
  pub join_fits : (f g : F) → Fits r f → Fits r g → Fits r (r.join f g)
  pub join_left : (f g : F) → Fits r f → Fits r g → Below r f (r.join f g)
  pub join_right : (f g : F) → Fits r f → Fits r g → Below r g (r.join f g)
  pub join_least : (f g h : F) → Below r f h → Below r g h → Below r (r.join f g) h
  pub height_falls : (f g : F) → Fits r f → Below r f g → r.includes f g ≡ false
      → r.height g < r.height f
  pub starts_fit : AllByRecursion (λ e. Fits r e.fact) r.starts
  pub outcomes_fit : (k : Key) (f : F) → Fits r f
      → AllByRecursion (λ e. Fits r e.fact) (r.outcomes k f)
  pub outcomes_grow : (k : Key) (f g : F) → Fits r f → Below r f g
      → AllBelow r (r.outcomes k f) (r.outcomes k g)
  pub keeps_falls : (k : Key) (f g : F) (c : Cond) → Fits r f → Below r f g
      → r.keeps k g c ≡ true → r.keeps k f c ≡ true
  pub fault_breaks : (k : Key) (f : F) → IfSome (r.fault k f) (λ c. r.keeps k f c ≡ false)
  pub no_fault_keeps : (k : Key) (f : F) → r.fault k f ≡ None → (c : Cond) → r.keeps k f c ≡ true
