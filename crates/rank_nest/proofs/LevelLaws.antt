-- The levels of a nest can be told.
use Rattle.std.specs.Prelude.{ℕ, suc, ◌<◌, ◌≤◌, ◌^◌, ℤ, pos, unsigned_abs, List, [], ◌∷◌, length, slice_index_or}
use Rattle.std.specs.List.{All, AllByRecursion}
use Rattle.std.proofs.Common.{arith, sym, subst}
use Rattle.std.proofs.lemmas.List.Elements.{All-contains}
use Rattle.flag_relation.specs.Forms.{FormOf}
use Rattle.strong_components.specs.declared.edge.Edge.{Edge}
use Rattle.strong_components.specs.Components.{IsComponents, part_at}
use Rattle.rank_shape.specs.declared.moves.Moves.{Moves}
use Rattle.rank_shape.specs.Nests.{inside, remaining}
use Rattle.rank_numbers.specs.Forms.{Forms}
use Rattle.rank_numbers.specs.Levels.{LevelOf, part_level, graph_level, all_levels}
use Rattle.rank_numbers.specs.Numbers.{IsPart, HasNumbers, of_parts, PartNumbers, single, leveled, IsLarge, in_part, in_graph, IsLargePart, within, local_form, greatest_value, levels_at}
use Rattle.rank_nest.specs.Told.{IsTellable}
use Rattle.rank_nest.specs.evidence.Steps.{all_both}

pub graph_tells : (keys : List ℕ) (total : ℤ) → IsTellable (graph_level keys total)
graph_tells keys total = record { candidate = tt; low = omega arith }

pub lists_tell : (ls : List (List LevelOf)) → ((p : ℕ) → p < length ls → AllByRecursion IsTellable (levels_at ls p)) → AllByRecursion IsTellable (all_levels ls)
unfolding all_levels
lists_tell [] h = tt
lists_tell (l ∷ ls) h = all_both IsTellable l (all_levels ls) (h 0 (omega arith)) (lists_tell ls (λ p lt. h (suc p) (omega arith)))

module _ (o : Forms FormOf) (m : Moves) (n : ℕ) (few : m.count ≤ 70) (bounded : (k c : ℕ) → k < n → unsigned_abs (o.lower (o.direction c) k) ≤ 2 ^ 39) where
  abbrev Known : List ℕ → Type 0
  Known keys = All (λ k. k < n) keys

  pub part_tells : (part : List ℕ) (edges : List Edge) (inner form : ℕ → FormOf) (weight low greatest : ℤ) (c : ℕ) → Known part → IsPart o m part edges inner weight c low form
      → IsTellable (part_level part c low weight greatest)
  part_tells part edges inner form weight low greatest c known is =
      let lt = is.first.fits.in_count in
      let at = is.lowest.attained in
      record {
        candidate = omega arith;
        low = subst (λ z. unsigned_abs z ≤ 2 ^ 39) (sym at.2) (bounded at.0 c (All-contains (λ k. k < n) part at.0 known at.1));
      }

  known_part : (keys : List ℕ) (edges : List Edge) (parts : List (List ℕ)) → IsComponents edges keys parts → Known keys → (p : ℕ) → p < length parts → Known (part_at parts p)
  known_part keys edges parts comps known p lt k x h = All-contains (λ j. j < n) keys (slice_index_or (part_at parts p) k x) known (comps.members p lt k x h)

  mutual
    pub numbers_tell : (keys : List ℕ) (edges : List Edge) (form : ℕ → FormOf) (total : ℤ) (levels : List LevelOf) → HasNumbers FormOf o m keys edges form total levels → Known keys
        → AllByRecursion IsTellable levels
    numbers_tell keys edges form total levels (of_parts parts local greatest offset ls comps len have graph small le) known =
        all_both IsTellable (all_levels ls) (graph_level keys total ∷ [])
        (lists_tell ls (λ p lt. let b : p < length parts = omega arith in
        component_tells (part_at parts p) (inside (part_at parts p) edges) local (greatest p) (levels_at ls p) (have p b) (known_part keys edges parts comps known p b)))
        (graph_tells keys total, tt)

    component_tells : (part : List ℕ) (edges : List Edge) (form : ℕ → FormOf) (greatest : ℤ) (levels : List LevelOf) → PartNumbers FormOf o m part edges form greatest levels → Known part
        → AllByRecursion IsTellable levels
    component_tells part edges form greatest levels (single none ones) known = tt
    component_tells part edges form greatest levels (leveled c weight low inner ls numbers is small most le) known =
        all_both IsTellable ls (part_level part c low weight greatest ∷ []) (numbers_tell part (remaining m c edges) inner weight ls numbers known)
        (part_tells part edges inner form weight low greatest c known is, tt)

  mutual
    pub large_tells : (keys : List ℕ) (edges : List Edge) (levels : List LevelOf) → IsLarge FormOf o m keys edges levels → Known keys → AllByRecursion IsTellable levels
    large_tells keys edges levels (in_part parts p local greatest ls last comps lp len before large) known =
        all_both IsTellable (all_levels ls) last
        (lists_tell ls (λ q lt. let b : q < p = omega arith in
        let b' : q < length parts = omega arith in
        component_tells (part_at parts q) (inside (part_at parts q) edges) local (greatest q) (levels_at ls q) (before q b) (known_part keys edges parts comps known q b')))
        (large_part_tells (part_at parts p) (inside (part_at parts p) edges) last large (known_part keys edges parts comps known p lp))
    large_tells keys edges levels (in_graph parts local greatest offset form total ls comps len have graph large) known =
        all_both IsTellable (all_levels ls) (graph_level keys total ∷ [])
        (lists_tell ls (λ p lt. let b : p < length parts = omega arith in
        component_tells (part_at parts p) (inside (part_at parts p) edges) local (greatest p) (levels_at ls p) (have p b) (known_part keys edges parts comps known p b)))
        (graph_tells keys total, tt)

    large_part_tells : (part : List ℕ) (edges : List Edge) (levels : List LevelOf) → IsLargePart FormOf o m part edges levels → Known part → AllByRecursion IsTellable levels
    large_part_tells part edges levels (within c first large) known = large_tells part (remaining m c edges) levels large known
    large_part_tells part edges levels (local_form c weight low inner form ls numbers is large) known =
        all_both IsTellable ls (part_level part c low weight (pos 0) ∷ []) (numbers_tell part (remaining m c edges) inner weight ls numbers known)
        (part_tells part edges inner form weight low (pos 0) c known is, tt)
    large_part_tells part edges levels (greatest_value c weight low greatest inner form ls numbers is small most large) known =
        all_both IsTellable ls (part_level part c low weight greatest ∷ []) (numbers_tell part (remaining m c edges) inner weight ls numbers known)
        (part_tells part edges inner form weight low greatest c known is, tt)
