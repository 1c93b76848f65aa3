-- What the bounds of a yes claim of all runs.
use Rattle.std.specs.Prelude.{◌≡◌, ℕ, zero, suc, ◌+◌, ◌<◌, ◌≤◌, ℤ, pos, ◌+ℤ◌, ◌≤ℤ◌, false}
use Rattle.std.specs.Prelude.{List, Option, Some, None, All, slice_get, length}
use Rattle.num_domain.specs.Domain.{Domain}
use Rattle.viper_word.specs.Machine.{State, next}
use Rattle.memory_plan.specs.Plans.{PlanLines, IsStart, is_marker}
use Rattle.memory_plan.specs.Runs.{IsRun, IsFair, AllSafe, AllBounded, IsUnreached}
use Rattle.abs_step.specs.States.{MeetsFact, numbers_in}
use Rattle.rank_form.specs.Weights.{value}
use Rattle.cert_format.specs.Certificates.{NodeOf, CertificateOf}
use Rattle.cert_checker.specs.Conditions.{known}
use Rattle.cert_checker.specs.declared.verdict.Bound.{Bound}
use Rattle.cert_checker.specs.declared.verdict.Bound.TheVariants.{Within, Unreached}
use Rattle.cert_checker.specs.Verdicts.{bounds_of}

-- ---- what instructions cost

-- the price of the instruction that a state performs
abbrev pub price_of : (ℕ → ℕ) → Option State → ℕ
price_of price None = 0
price_of price (Some s) = price s.p

-- what so many instructions cost, from place k of a run on
abbrev pub spent : (ℕ → ℕ) → List State → ℕ → ℕ → ℕ
spent price states k zero = 0
spent price states k (suc n) = price_of price (slice_get states k) + spent price states (k + 1) n

-- none of so many states, from place k on, has P at a marker
abbrev pub NoMarker : PlanLines → List State → ℕ → ℕ → Type 0
NoMarker plan states k n =
    (j : ℕ) (s : State) → k ≤ j → j < k + n → slice_get states j ≡ Some s
    → is_marker plan s.p ≡ false

-- in every fair run the instructions from the marker on, up to one that leads into a marker, cost
-- at most the bound
abbrev pub AllCostBounded : PlanLines → (ℕ → ℕ) → ℕ → ℕ → Type 0
AllCostBounded plan price marker bound = (states : List State) (answers : List ℕ)
    → IsRun plan states answers → (k n : ℕ) (s : State) → slice_get states k ≡ Some s
    → s.p ≡ marker → k + suc n < length states → NoMarker plan states (k + 1) n
    → spent price states k (suc n) ≤ bound

-- what is claimed of one marker: from it the next one is met within so many instructions, and at
-- that price
pub record IsBound (plan : PlanLines) (price : ℕ → ℕ) (marker bound : ℕ) : Type 0 where
  pub count : AllBounded plan marker bound
  pub cost : AllCostBounded plan price marker bound

abbrev pub Claimed : PlanLines → (ℕ → ℕ) → ℕ → Bound → Type 0
Claimed plan price marker (Within bound) = IsBound plan price marker bound
Claimed plan price marker Unreached = IsUnreached plan marker

-- every fair run is safe, and each marker is as claimed
pub record Holds (plan : PlanLines) (price : ℕ → ℕ) (bounds : List (ℕ × Bound)) : Type 0 where
  pub safe : AllSafe plan
  pub markers : All (λ e. Claimed plan price e.0 e.1) bounds

-- ---- how local conditions are carried over runs

module _ {T : Type 0} (d : Domain T) (plan : PlanLines) (price : ℕ → ℕ) (c : CertificateOf T) where
  -- the value of a node's rank in a state
  abbrev pub rank_in : NodeOf T → State → ℤ
  rank_in n s = value n.rank (numbers_in c.cells s)

  -- the state is at the node: P is its address, the state meets its fact, and its rank is at least
  -- the price
  pub record IsAt (s : State) (n : NodeOf T) : Type 0 where
    pub number : ℕ
    pub there : slice_get c.nodes number ≡ Some n
    pub place : s.p ≡ n.addr
    pub meets : MeetsFact d plan c.cells (known d c.cells n) s
    pub rank : pos (price s.p) ≤ℤ rank_in n s

  -- after the state at the node comes one that is at a node too, whose rank is less by the price,
  -- unless it is at a marker
  pub record GoesOn (n : NodeOf T) (s t : State) : Type 0 where
    pub node : NodeOf T
    pub is_at : IsAt t node
    pub falls : is_marker plan t.p ≡ false → (rank_in node t +ℤ pos (price s.p)) ≤ℤ rank_in n s

  -- each start state is at a node, and from each state at a node a fair step goes on so
  pub record IsCarried : Type 0 where
    pub start : (s : State) → IsStart plan s → (n : NodeOf T) × IsAt s n
    pub step : (s : State) (answer : ℕ) (n : NodeOf T) → IsAt s n → IsFair plan s answer
        → GoesOn n s (next plan.profile s answer)

  -- Local conditions carry facts and ranks over every run, so every fair run of every length is
  -- safe, and each marker is bounded, or unreached.
  pub record Suffices : Type 0 where
    pub carried : IsCarried
    pub holds : Holds plan price (bounds_of d plan c)
