-- What the steps of the search say to one another.
use Rattle.std.specs.Prelude.{◌≡◌, ℕ, ◌<◌, ◌≤◌, ◌+◌, ◌*◌, ◌^◌, Bool, true, false, List, Option, None, length, slice_index}
use Rattle.std.specs.List.{AllPairs, All, count_by}
use Rattle.strong_components.specs.declared.edge.Edge.{Edge}
use Rattle.strong_components.specs.declared.search.Mark.{Mark}
use Rattle.strong_components.specs.declared.search.Mark.TheVariants.{Unseen, Held, Done}
use Rattle.strong_components.specs.Paths.{Leads}
use Rattle.strong_components.specs.declared.search.Search.{Search}
use Rattle.strong_components.specs.Search.{mark_of, Kept}

-- edges stand in order of where they begin
abbrev pub BySource : List Edge → Type 0
BySource edges = AllPairs (λ a b. a.from ≤ b.from) edges

-- each edge ends below `n`
abbrev pub EndsBelow : ℕ → List Edge → Type 0
EndsBelow n edges = All (λ e. e.to < n) edges

-- the keys that the edges of `v` lead to
pub record Targets (edges : List Edge) (v : ℕ) (xs : List ℕ) : Type 0 where
  pub each : (w : ℕ) → Leads edges v w → (e : ℕ) × (e < length xs) × (slice_index xs e ≡ w)
  pub only : (e : ℕ) → e < length xs → Leads edges v (slice_index xs e)

-- the keys that are done are listed, each from the place on that its number says
pub record Placed (marks : List Mark) (closed : List ℕ) : Type 0 where
  pub done_placed : (v c : ℕ) → mark_of marks v ≡ Done c → (k : ℕ) × (c ≤ k)
      × (k < length closed) × (slice_index closed k ≡ v)
  pub placed_done : (k : ℕ) → k < length closed → (c : ℕ) × (c ≤ k)
      × (mark_of marks (slice_index closed k) ≡ Done c)

abbrev pub is_unseen : Mark → Bool
is_unseen Unseen = true
is_unseen (Held i) = false
is_unseen (Done c) = false

-- what was seen stays seen
abbrev pub StaySeen : List Mark → List Mark → Type 0
StaySeen before after = (v : ℕ) → is_unseen (mark_of before v) ≡ false
    → is_unseen (mark_of after v) ≡ false

-- the work that is left
abbrev pub work : List Mark → List ℕ → List ℕ → ℕ
work marks waiting trail = count_by is_unseen marks * 2 ^ 65 + length waiting + length trail

-- the search's state, with its marks
abbrev pub KeptBy : List Edge → Option ℕ → List Mark → Search → Type 0
KeptBy edges owed marks s =
    Kept edges owed marks s.trail.items s.waiting.items s.stages.items (length s.closed.items)

-- what a step leaves: the state, the list of done keys, what was seen, and at most so much work
pub record Stepped (edges : List Edge) (before : List Mark) (after : List Mark)
    (s : Search) (most : ℕ) : Type 0 where
  pub kept : KeptBy edges None after s
  pub placed : Placed after s.closed.items
  pub seen : StaySeen before after
  pub len : length after ≡ length before
  pub less : work after s.waiting.items s.trail.items ≤ most

-- the search between two keys to begin with
pub record Idle (edges : List Edge) (marks : List Mark) (s : Search) : Type 0 where
  pub kept : KeptBy edges None marks s
  pub placed : Placed marks s.closed.items
  pub idle : length s.stages.items ≡ 0

-- what a key's whole search leaves
pub record Visited (edges : List Edge) (before : List Mark) (after : List Mark)
    (s : Search) (key : ℕ) : Type 0 where
  pub idle : Idle edges after s
  pub seen : StaySeen before after
  pub len : length after ≡ length before
  pub key_seen : is_unseen (mark_of after key) ≡ false
