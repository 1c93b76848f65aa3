-- What the search for components keeps true.
use Rattle.std.specs.Prelude.{◌≡◌, ℕ, ◌<◌, ◌≤◌, ◌⊎◌, List, Option, Some, length, slice_index, slice_index_or}
use Rattle.strong_components.specs.declared.edge.Edge.{Edge}
use Rattle.strong_components.specs.declared.search.Mark.{Mark}
use Rattle.strong_components.specs.declared.search.Mark.TheVariants.{Unseen, Held, Done}
use Rattle.strong_components.specs.declared.search.Stage.{Stage}
use Rattle.strong_components.specs.Paths.{Leads, Path}

-- the mark of a key
abbrev pub mark_of : List Mark → ℕ → Mark
mark_of marks v = slice_index_or marks v Unseen

-- where a stage begins on the trail, and among the waiting keys
abbrev pub first_of : List Stage → ℕ → ℕ
first_of stages k = (slice_index_or stages k (record { first = 0; waits = 0 })).first

abbrev pub waits_of : List Stage → ℕ → ℕ
waits_of stages k = (slice_index_or stages k (record { first = 0; waits = 0 })).waits

-- no stage begins behind place `i` and up to place `j`
abbrev pub Unparted : List Stage → ℕ → ℕ → Type 0
Unparted stages i j = (k : ℕ) → k < length stages → (first_of stages k ≤ i)
    ⊎ (j < first_of stages k)

-- what became of a key that an edge leads to, seen from a stage
abbrev pub Settled : Option ℕ → List Mark → List ℕ → ℕ → ℕ → ℕ → Type 0
Settled owed marks waiting first waits v =
    ((c : ℕ) × (mark_of marks v ≡ Done c))
    ⊎ (((j : ℕ) × (first ≤ j) × (mark_of marks v ≡ Held j))
    ⊎ (((e : ℕ) × (waits ≤ e) × (e < length waiting) × (slice_index waiting e ≡ v))
    ⊎ (owed ≡ Some v)))

-- a waiting key is led to from the trail, from the stage in which it waits
abbrev pub Sourced : List Edge → List ℕ → List Stage → ℕ → ℕ → Type 0
Sourced edges trail stages e w =
    (i : ℕ) × (i < length trail) × Leads edges (slice_index trail i) w
    × ((k : ℕ) → k < length stages → (waits_of stages k ≤ e → first_of stages k ≤ i)
    × (first_of stages k ≤ i → waits_of stages k ≤ e))

-- every key of the trail reaches `w`
abbrev pub Reached : List Edge → List ℕ → ℕ → Type 0
Reached edges trail w = (i : ℕ) → i < length trail → Path edges (slice_index trail i) w

-- The state of the search. The keys of one stage reach each other, and each stage reaches the next.
-- A stage's edges lead to done keys, to the trail from the stage on, or to keys that wait in it;
-- `owed` is a key that was just taken from the waiting ones.
pub record Kept (edges : List Edge) (owed : Option ℕ) (marks : List Mark) (trail : List ℕ)
    (waiting : List ℕ) (stages : List Stage) (count : ℕ) : Type 0 where
  pub trail_held : (i : ℕ) → i < length trail → mark_of marks (slice_index trail i) ≡ Held i
  pub held_trail : (v i : ℕ) → mark_of marks v ≡ Held i → (i < length trail)
      × (slice_index trail i ≡ v)
  pub done_below : (v c : ℕ) → mark_of marks v ≡ Done c → c < count
  pub done_leads : (u v c : ℕ) → Leads edges u v → mark_of marks u ≡ Done c → (d : ℕ)
      × (mark_of marks v ≡ Done d) × (d ≤ c)
  pub done_same : (u v c : ℕ) → mark_of marks u ≡ Done c → mark_of marks v ≡ Done c → Path edges u v
  pub chain : (i j : ℕ) → i ≤ j → j < length trail
      → Path edges (slice_index trail i) (slice_index trail j)
  pub joined : (i j : ℕ) → i ≤ j → j < length trail → Unparted stages i j
      → Path edges (slice_index trail j) (slice_index trail i)
  pub stage_first : (k : ℕ) → k < length stages → first_of stages k < length trail
  pub stage_waits : (k : ℕ) → k < length stages → waits_of stages k ≤ length waiting
  pub firsts_ascend : (k l : ℕ) → k < l → l < length stages → first_of stages k < first_of stages l
  pub waits_ascend : (k l : ℕ) → k ≤ l → l < length stages → waits_of stages k ≤ waits_of stages l
  pub bottom_first : 0 < length stages → first_of stages 0 ≡ 0
  pub bottom_waits : 0 < length stages → waits_of stages 0 ≡ 0
  pub none_trail : length stages ≡ 0 → length trail ≡ 0
  pub none_waits : length stages ≡ 0 → length waiting ≡ 0
  pub settled : (k i v : ℕ) → k < length stages → first_of stages k ≤ i → i < length trail
      → Leads edges (slice_index trail i) v
      → Settled owed marks waiting (first_of stages k) (waits_of stages k) v
  pub sourced : (e : ℕ) → e < length waiting → Sourced edges trail stages e (slice_index waiting e)
