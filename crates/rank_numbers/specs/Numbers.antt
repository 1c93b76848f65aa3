-- The numbers of a nest, from the inner levels to the outer ones, and where one is large.
use Rattle.std.specs.Prelude.{◌≡◌, ℕ, ◌<◌, ◌^◌, ◌⊎◌, ◌++◌, true, false, List, [], ◌∷◌, length, slice_index_or, ℤ, pos, negsuc, ◌+ℤ◌, ◌≤ℤ◌, ◌<ℤ◌}
use Rattle.std.specs.List.{Contains}
use Rattle.strong_components.specs.declared.edge.Edge.{Edge}
use Rattle.strong_components.specs.Components.{IsComponents, part_at}
use Rattle.rank_shape.specs.declared.moves.Moves.{Moves}
use Rattle.rank_shape.specs.Nests.{inside, remaining, IsFirst}
use Rattle.rank_numbers.specs.Forms.{Forms}
use Rattle.rank_numbers.specs.Levels.{LevelOf, part_level, graph_level, all_levels}

-- a greatest value or a total is large above this
abbrev pub limit : ℤ
limit = pos (2 ^ 62)

-- the least of a part's values
pub record IsLow {Form : Type 0} (o : Forms Form) (part : List ℕ) (c : ℕ)
    (low : ℤ) : Type 0 where
  pub bound : (k : ℕ) → Contains part k → low ≤ℤ o.lower (o.direction c) k
  pub attained : (k : ℕ) × Contains part k × (low ≡ o.lower (o.direction c) k)

-- the greatest of the values of a part's forms, over its facts and after each edge of all that
-- leads to it
pub record IsGreatest {Form : Type 0} (o : Forms Form) (part : List ℕ) (form : ℕ → Form)
    (greatest : ℤ) : Type 0 where
  pub facts : (k : ℕ) → Contains part k → o.upper (form k) k ≤ℤ greatest
  pub edges : (e : Edge) → Contains o.edges e → Contains part e.to
      → o.after (form e.to) e ≤ℤ greatest
  pub attained : ((k : ℕ) × Contains part k × (greatest ≡ o.upper (form k) k))
      ⊎ ((e : Edge) × Contains o.edges e × Contains part e.to
      × (greatest ≡ o.after (form e.to) e))

-- The greatest sum of offset and greatest value over the parts that a part's edges lead into; 0
-- where there are none.
pub record IsOffset (edges : List Edge) (parts : List (List ℕ)) (greatest offset : ℕ → ℤ)
    (p : ℕ) : Type 0 where
  pub least : pos 0 ≤ℤ offset p
  pub bound : (q : ℕ) (e : Edge) → q < length parts → (q ≡ p → ⊥) → Contains edges e
      → Contains (part_at parts p) e.from → Contains (part_at parts q) e.to
      → (offset q +ℤ greatest q) ≤ℤ offset p
  pub attained : (offset p ≡ pos 0) ⊎ ((q : ℕ) × (e : Edge) × (q < length parts) × (q ≡ p → ⊥)
      × Contains edges e × Contains (part_at parts p) e.from × Contains (part_at parts q) e.to
      × (offset p ≡ offset q +ℤ greatest q))

-- the greatest sum of offset and greatest value
pub record IsTotal (parts : List (List ℕ)) (greatest offset : ℕ → ℤ) (total : ℤ) : Type 0 where
  pub bound : (p : ℕ) → p < length parts → (offset p +ℤ greatest p) ≤ℤ total
  pub attained : (p : ℕ) × (p < length parts) × (total ≡ offset p +ℤ greatest p)

-- a graph's forms and total, from those of its parts
pub record IsGraph {Form : Type 0} (o : Forms Form) (edges : List Edge) (parts : List (List ℕ))
    (local : ℕ → Form) (greatest offset : ℕ → ℤ) (form : ℕ → Form) (total : ℤ) : Type 0 where
  pub offsets : (p : ℕ) → p < length parts → IsOffset edges parts greatest offset p
  pub forms : (p k : ℕ) → p < length parts → Contains (part_at parts p) k
      → form k ≡ o.shift (local k) (offset p)
  pub greatest_sum : IsTotal parts greatest offset total

-- a part's candidate and local forms, from the forms of what remains and their total
pub record IsPart {Form : Type 0} (o : Forms Form) (m : Moves) (part : List ℕ)
    (edges : List Edge) (inner : ℕ → Form) (weight : ℤ) (c : ℕ) (low : ℤ)
    (form : ℕ → Form) : Type 0 where
  pub first : IsFirst m edges c
  pub lowest : IsLow o part c low
  pub forms : (k : ℕ) → Contains part k → form k ≡ o.level weight c low (inner k)

-- no form of these keys passes a limit
abbrev pub AreSmall : {Form : Type 0} → Forms Form → List ℕ → (ℕ → Form) → Type 0
AreSmall o keys form = (k : ℕ) → Contains keys k → o.small (form k) ≡ true

-- one does
abbrev pub SomeLarge : {Form : Type 0} → Forms Form → List ℕ → (ℕ → Form) → Type 0
SomeLarge o keys form = (k : ℕ) × Contains keys k × (o.small (form k) ≡ false)

-- the levels of a part
abbrev pub levels_at : List (List LevelOf) → ℕ → List LevelOf
levels_at levels p = slice_index_or levels p []

module _ (Form : Type 0) (o : Forms Form) (m : Moves) where
  mutual
    -- the forms of a graph's keys, its total and its levels, where no number is large
    pub data HasNumbers : List ℕ → List Edge → (ℕ → Form) → ℤ → List LevelOf → Type 0 where
      of_parts : {keys : List ℕ} {edges : List Edge} {form : ℕ → Form} {total : ℤ}
          (parts : List (List ℕ)) (local : ℕ → Form) (greatest offset : ℕ → ℤ)
          (levels : List (List LevelOf))
          → IsComponents edges keys parts → length levels ≡ length parts
          → ((p : ℕ) → p < length parts → PartNumbers (part_at parts p)
          (inside (part_at parts p) edges) local (greatest p) (levels_at levels p))
          → IsGraph o edges parts local greatest offset form total
          → AreSmall o keys form → total ≤ℤ limit
          → HasNumbers keys edges form total (all_levels levels ++ graph_level keys total ∷ [])

    -- the local forms of a part's keys, its greatest value and its levels, where none is large
    pub data PartNumbers : List ℕ → List Edge → (ℕ → Form) → ℤ → List LevelOf → Type 0 where
      single : {part : List ℕ} {edges : List Edge} {form : ℕ → Form}
          → length edges ≡ 0 → ((k : ℕ) → Contains part k → form k ≡ o.one)
          → PartNumbers part edges form (pos 1) []
      leveled : {part : List ℕ} {edges : List Edge} {form : ℕ → Form} {greatest : ℤ}
          (c : ℕ) (weight low : ℤ) (inner : ℕ → Form) (levels : List LevelOf)
          → HasNumbers part (remaining m c edges) inner weight levels
          → IsPart o m part edges inner weight c low form → AreSmall o part form
          → IsGreatest o part form greatest → greatest ≤ℤ limit
          → PartNumbers part edges form greatest
          (levels ++ part_level part c low weight greatest ∷ [])

  mutual
    -- The levels of a graph up to the one to which the first large number belongs. It stands in a
    -- part, and those before it have their numbers; or it is the graph's own: a form with its
    -- offset, or the total, which the graph's level has in both cases.
    pub data IsLarge : List ℕ → List Edge → List LevelOf → Type 0 where
      in_part : {keys : List ℕ} {edges : List Edge} (parts : List (List ℕ)) (p : ℕ)
          (local : ℕ → Form) (greatest : ℕ → ℤ) (levels : List (List LevelOf))
          (last : List LevelOf)
          → IsComponents edges keys parts → p < length parts → length levels ≡ p
          → ((q : ℕ) → q < p → PartNumbers (part_at parts q) (inside (part_at parts q) edges)
          local (greatest q) (levels_at levels q))
          → IsLargePart (part_at parts p) (inside (part_at parts p) edges) last
          → IsLarge keys edges (all_levels levels ++ last)
      in_graph : {keys : List ℕ} {edges : List Edge} (parts : List (List ℕ))
          (local : ℕ → Form) (greatest offset : ℕ → ℤ) (form : ℕ → Form) (total : ℤ)
          (levels : List (List LevelOf))
          → IsComponents edges keys parts → length levels ≡ length parts
          → ((p : ℕ) → p < length parts → PartNumbers (part_at parts p)
          (inside (part_at parts p) edges) local (greatest p) (levels_at levels p))
          → IsGraph o edges parts local greatest offset form total
          → SomeLarge o keys form ⊎ (limit <ℤ total)
          → IsLarge keys edges (all_levels levels ++ graph_level keys total ∷ [])

    -- The same of a part: within what remains where a candidate's edges are taken out; or a local
    -- form, and the greatest value is entered as 0; or the greatest value.
    pub data IsLargePart : List ℕ → List Edge → List LevelOf → Type 0 where
      within : {part : List ℕ} {edges : List Edge} {levels : List LevelOf} (c : ℕ)
          → IsFirst m edges c → IsLarge part (remaining m c edges) levels
          → IsLargePart part edges levels
      local_form : {part : List ℕ} {edges : List Edge} (c : ℕ) (weight low : ℤ)
          (inner form : ℕ → Form) (levels : List LevelOf)
          → HasNumbers part (remaining m c edges) inner weight levels
          → IsPart o m part edges inner weight c low form → SomeLarge o part form
          → IsLargePart part edges (levels ++ part_level part c low weight (pos 0) ∷ [])
      greatest_value : {part : List ℕ} {edges : List Edge} (c : ℕ) (weight low greatest : ℤ)
          (inner form : ℕ → Form) (levels : List LevelOf)
          → HasNumbers part (remaining m c edges) inner weight levels
          → IsPart o m part edges inner weight c low form → AreSmall o part form
          → IsGreatest o part form greatest → limit <ℤ greatest
          → IsLargePart part edges (levels ++ part_level part c low weight greatest ∷ [])

-- What the numbers of a graph give: at least 1, falling along each edge, and bounded.
pub record Ranked {Form : Type 0} (o : Forms Form) (keys : List ℕ) (edges : List Edge)
    (form : ℕ → Form) (total : ℤ) : Type 0 where
  pub positive : (k : ℕ) → Contains keys k → pos 1 ≤ℤ o.lower (form k) k
  pub falls : (e : Edge) → Contains edges e → o.rise (form e.from) (form e.to) e ≤ℤ negsuc 0
  pub bounded : (k : ℕ) → Contains keys k → o.upper (form k) k ≤ℤ total
  pub after_bounded : (e : Edge) → Contains o.edges e → Contains keys e.to
      → o.after (form e.to) e ≤ℤ total
