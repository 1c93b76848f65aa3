-- What holds of the table at each moment of the search, in whatever order keys are taken.
use Rattle.std.specs.Prelude.{◌≡◌, ℕ, ◌+◌, ◌*◌, ◌<◌, ◌≤◌, Bool, true, false, ◌||◌, Option, None, Some, IsSomeAnd, ◌⊎◌, List, [], ◌∷◌, ◌++◌, map, length, slice_index_or}
use Rattle.std.specs.List.{AllByRecursion, IsDistinct}
use Rattle.flow_recover.specs.declared.key.Key.{Key}
use Rattle.flow_recover.specs.Keys.{same_key}
use Rattle.fix_solver.specs.declared.at.At.{At}
use Rattle.fix_solver.specs.declared.fault.SolveFault.{SolveFault}
use Rattle.fix_solver.specs.declared.fault.SolveFault.TheVariants.{Undischarged, Nodes, Memory}
use Rattle.fix_solver.specs.declared.table.TheConstants.{MOST_KEYS}
use Rattle.fix_solver.specs.Pending.{is_pending}
use Rattle.fix_solver.specs.Rules.{Rules, Fits, Included, MapBelow}
use Rattle.fix_solver.specs.Solutions.{IsCandidate}
use Rattle.fix_solver.specs.Tables.{TableOf, keys_of, fact_at, place, given, heights}

module _ {F : Type 0} (r : Rules F) where
  -- what follows from the fact f at k stands in the table, and the numbers of its keys beside it
  pub record IsDone (t : TableOf F) (k : Key) (f : F) : Type 0 where
    pub no_fault : r.fault k f ≡ None
    pub included : AllByRecursion (Included r (fact_at t.known)) (r.outcomes k f)
    pub succ : slice_index_or t.succ (place t.known k) []
        ≡ map (λ e. place t.known e.key) (r.outcomes k f)

  -- each fact stands in every candidate, and all that aren't pending are done
  pub record IsWork (t : TableOf F) (pending : Key → Bool) : Type 0 where
    pub fit : AllByRecursion (λ e. Fits r e.fact) t.known
    pub listed : (k : Key) → pending k ≡ true → IsSomeAnd (fact_at t.known k) (λ f. Unit {0})
    pub least : (n : Key → Option F) → IsCandidate r n → MapBelow r (fact_at t.known) n
    pub done : (k : Key) (f : F) → pending k ≡ false → fact_at t.known k ≡ Some f → IsDone t k f

  -- the fact stands in every candidate
  abbrev pub IsForced : At F → Type 0
  IsForced e = (n : Key → Option F) → IsCandidate r n → Included r n e

  -- what is left to do where no key is new: it falls with each key that is taken
  abbrev pub work_left : TableOf F → List Key → ℕ
  work_left t p = 2 * heights r t.known + length p

  -- a key is new, or no more is left to do than before
  abbrev pub IsPaid : TableOf F → List Key → TableOf F → List Key → Type 0
  IsPaid t p u q =
      (length t.known < length u.known)
      ⊎ ((length u.known ≡ length t.known) × (work_left u q ≤ work_left t p))

  -- the fact was given to the table, and its key is pending if that changed; n is its number
  pub record IsGiven (t : TableOf F) (p : List Key) (e : At F)
      (u : TableOf F) (q : List Key) (n : ℕ) : Type 0 where
    pub known : u.known ≡ given r t.known e
    pub succ : (i : ℕ) → i < length t.known
        → slice_index_or u.succ i [] ≡ slice_index_or t.succ i []
    pub puts : ((u ≡ t) × (q ≡ p)) ⊎ ((k : Key) → is_pending q k ≡ (same_key e.key k || is_pending p k))
    pub paid : IsPaid t p u q
    pub number : n ≡ place u.known e.key

-- the known keys and one more are too many
abbrev pub IsFull : {F : Type 0} → List (At F) → Key → SolveFault → Type 0
IsFull es k (Undischarged l c) = ⊥
IsFull es k (Nodes ks) =
    (length ks.items ≡ MOST_KEYS + 1) × IsDistinct same_key ks.items
    × (ks.items ≡ keys_of es ++ k ∷ [])
IsFull es k Memory = Unit {0}
