-- Where all numbers are small none is large, and the levels up to the first large one are fixed.
use Rattle.std.proofs.Common.{◌≡◌, ℕ, ◌<◌, ◌⊎◌, inl, inr, true, false, List, [], ◌∷◌, ◌++◌, length, refl, sym, ap, subst, ◌∙◌, arith}
use Rattle.std.specs.Prelude.{ℤ, pos, ◌≤ℤ◌, ◌<ℤ◌}
use Rattle.std.specs.List.{Contains}
use Rattle.std.proofs.lemmas.Int.{ints}
use Rattle.std.proofs.lemmas.Bool.{cases_lt}
use Rattle.strong_components.specs.declared.edge.Edge.{Edge}
use Rattle.strong_components.specs.Components.{IsComponents, part_at}
use Rattle.strong_components.proofs.Unique.{same_components}
use Rattle.rank_shape.specs.declared.moves.Moves.{Moves}
use Rattle.rank_shape.specs.Nests.{inside, remaining}
use Rattle.rank_numbers.specs.Forms.{Forms, FormLaws, MovesOf}
use Rattle.rank_numbers.specs.Levels.{LevelOf, part_level, graph_level, all_levels}
use Rattle.rank_numbers.specs.Numbers.{IsGraph, IsPart, AreSmall, SomeLarge, levels_at, limit, HasNumbers, of_parts, PartNumbers, single, leveled, IsLarge, in_part, in_graph, IsLargePart, within, local_form, greatest_value}
use Rattle.rank_numbers.proofs.Nesting.{first_one}
use Rattle.rank_numbers.proofs.Alike.{same_greatest, same_levels, Fit, fit_part, fit_rest, least_value, same_over, no_edge, same_level, same_graph, same_part}

-- a form isn't both small and large
clash : (Form : Type 0) (o : Forms Form) (keys : List ℕ) (f g : ℕ → Form) → ((k : ℕ) → Contains keys k → f k ≡ g k) → AreSmall o keys f → SomeLarge o keys g → ⊥
clash Form o keys f g same small large =
    let yes : o.small (f large.0) ≡ true = small large.0 large.1 in
    let none : o.small (f large.0) ≡ false = ap o.small (same large.0 large.1) ∙ large.2 in
    absurd (cc)

-- a number isn't both large and small
over_limit : (a b : ℤ) → a ≡ b → a ≤ℤ limit → limit <ℤ b → ⊥
over_limit a b same small large = omega (arith, ints)

module _ (Form : Type 0) (o : Forms Form) (m : Moves) (laws : FormLaws o) (moves : MovesOf o m o.edges) where
  -- the first large number stands in a part, of components that are at hand
  record PartOver (parts : List (List ℕ)) (edges : List Edge) (levels : List LevelOf) : Type 0 where
    pub p : ℕ
    pub local : ℕ → Form
    pub greatest : ℕ → ℤ
    pub lists : List (List LevelOf)
    pub last : List LevelOf
    pub lp : p < length parts
    pub len : length lists ≡ p
    pub each : (q : ℕ) → q < p → PartNumbers Form o m (part_at parts q) (inside (part_at parts q) edges) local (greatest q) (levels_at lists q)
    pub large : IsLargePart Form o m (part_at parts p) (inside (part_at parts p) edges) last
    pub levels_are : levels ≡ all_levels lists ++ last

  -- or it is the graph's own
  record GraphOver (parts : List (List ℕ)) (keys : List ℕ) (edges : List Edge) (levels : List LevelOf) : Type 0 where
    pub local : ℕ → Form
    pub greatest : ℕ → ℤ
    pub offset : ℕ → ℤ
    pub form : ℕ → Form
    pub total : ℤ
    pub lists : List (List LevelOf)
    pub len : length lists ≡ length parts
    pub have : (p : ℕ) → p < length parts → PartNumbers Form o m (part_at parts p) (inside (part_at parts p) edges) local (greatest p) (levels_at lists p)
    pub is : IsGraph o edges parts local greatest offset form total
    pub large : SomeLarge o keys form ⊎ (limit <ℤ total)
    pub levels_are : levels ≡ all_levels lists ++ graph_level keys total ∷ []

  large_over : (parts : List (List ℕ)) (keys : List ℕ) (edges : List Edge) (levels : List LevelOf) → IsComponents edges keys parts → IsLarge Form o m keys edges levels
      → PartOver parts edges levels ⊎ GraphOver parts keys edges levels
  large_over parts keys edges _ comps (in_part others p local greatest lists last mine lp len each large) =
      let e : others ≡ parts = same_components edges keys others parts mine comps in
      inl (subst (λ x. PartOver x edges (all_levels lists ++ last)) e (record {
        p = p;
        local = local;
        greatest = greatest;
        lists = lists;
        last = last;
        lp = lp;
        len = len;
        each = each;
        large = large;
        levels_are = refl;
      }))
  large_over parts keys edges _ comps (in_graph others local greatest offset form total lists mine len have is large) =
      let e : others ≡ parts = same_components edges keys others parts mine comps in
      inr (subst (λ x. GraphOver x keys edges (all_levels lists ++ graph_level keys total ∷ [])) e (record {
        local = local;
        greatest = greatest;
        offset = offset;
        form = form;
        total = total;
        lists = lists;
        len = len;
        have = have;
        is = is;
        large = large;
        levels_are = refl;
      }))

  -- two levels on the same part
  levels_alike : (part : List ℕ) (edges : List Edge) (c c' : ℕ) (w w' low low' : ℤ) (inner inner' f g : ℕ → Form) (ls ks : List LevelOf)
      → HasNumbers Form o m part (remaining m c edges) inner w ls → HasNumbers Form o m part (remaining m c' edges) inner' w' ks
      → IsPart o m part edges inner w c low f → IsPart o m part edges inner' w' c' low' g → Fit Form o m laws moves part edges
      → ((k : ℕ) → Contains part k → f k ≡ g k) × ((a b : ℤ) → a ≡ b → ls ++ part_level part c low w a ∷ [] ≡ ks ++ part_level part c' low' w' b ∷ [])
  levels_alike part edges c c' w w' low low' inner inner' f g ls ks have have' is is' fit =
      let same : c' ≡ c = first_one m edges c' c is'.first is.first in
      let s = same_graph Form o m laws moves part (remaining m c edges) inner inner' w w' ls ks have (subst (λ x. HasNumbers Form o m part (remaining m x edges) inner' w' ks) same have') (fit_rest Form o m laws moves c part edges fit) in
      let l = same_level Form o m laws moves part edges c c' w w' low low' inner inner' f g ls ks (sym same) s is is' in (
        l.0,
        λ a b e. ap (λ x. x ++ part_level part c low w a ∷ []) s.levels ∙ ap (λ x. ks ++ part_level part x low w a ∷ []) (sym same) ∙ ap (λ x. ks ++ part_level part c' x w a ∷ []) l.1
            ∙ ap (λ x. ks ++ part_level part c' low' x a ∷ []) s.numbers ∙ ap (λ x. ks ++ part_level part c' low' w' x ∷ []) e,
      )

  mutual
    pub small_graph : (keys : List ℕ) (edges : List Edge) (f : ℕ → Form) (s : ℤ) (ls ks : List LevelOf) → HasNumbers Form o m keys edges f s ls → IsLarge Form o m keys edges ks
        → Fit Form o m laws moves keys edges → ⊥
    small_graph keys edges f s _ ks (of_parts parts local greatest offset lists comps len have is small lim) h fit =
        elim (large_over parts keys edges ks comps h) as (λ _. ⊥) [
          | inl v ↦ small_part (part_at parts v.p) (inside (part_at parts v.p) edges) local (greatest v.p) (levels_at lists v.p) v.last (have v.p v.lp) v.large (fit_part Form o m laws moves keys edges parts comps fit v.p v.lp)
          | inr v ↦
              let t = same_over Form o m laws moves parts keys edges f v.form s v.total local v.local greatest v.greatest offset v.offset lists v.lists comps len v.len
              (λ p lp. same_part Form o m laws moves (part_at parts p) (inside (part_at parts p) edges) local v.local (greatest p) (v.greatest p) (levels_at lists p) (levels_at v.lists p) (have p lp) (v.have p lp) (fit_part Form o m laws moves keys edges parts comps fit p lp))
              (λ p lp. least_value Form o m laws moves (part_at parts p) (inside (part_at parts p) edges) local (greatest p) (levels_at lists p) (have p lp) (fit_part Form o m laws moves keys edges parts comps fit p lp) (comps.some p lp)) is v.is in
              elim v.large as (λ _. ⊥) [
                | inl x ↦ clash Form o keys f v.form t.forms small x
                | inr x ↦ over_limit s v.total t.numbers lim x
              ]
        ]

    pub small_part : (part : List ℕ) (edges : List Edge) (f : ℕ → Form) (a : ℤ) (ls ks : List LevelOf) → PartNumbers Form o m part edges f a ls → IsLargePart Form o m part edges ks
        → Fit Form o m laws moves part edges → ⊥
    small_part part edges f _ _ _ (single none is) (within c first large) fit = no_edge Form o m laws moves edges c none first
    small_part part edges f _ _ _ (single none is) (local_form c w low inner form ks have is' some) fit = no_edge Form o m laws moves edges c none is'.first
    small_part part edges f _ _ _ (single none is) (greatest_value c w low b inner form ks have is' small great large) fit = no_edge Form o m laws moves edges c none is'.first
    small_part part edges f a _ _ (leveled c w low inner ls have is small great lim) (within {levels = ks} c' first large) fit =
        let same : c' ≡ c = first_one m edges c' c first is.first in
        small_graph part (remaining m c edges) inner w ls ks have (subst (λ x. IsLarge Form o m part (remaining m x edges) ks) same large) (fit_rest Form o m laws moves c part edges fit)
    small_part part edges f a _ _ (leveled c w low inner ls have is small great lim) (local_form c' w' low' inner' form ks have' is' some) fit =
        let same : c' ≡ c = first_one m edges c' c is'.first is.first in
        let s = same_graph Form o m laws moves part (remaining m c edges) inner inner' w w' ls ks have (subst (λ x. HasNumbers Form o m part (remaining m x edges) inner' w' ks) same have') (fit_rest Form o m laws moves c part edges fit) in
        let l = same_level Form o m laws moves part edges c c' w w' low low' inner inner' f form ls ks (sym same) s is is' in
        clash Form o part f form l.0 small some
    small_part part edges f a _ _ (leveled c w low inner ls have is small great lim) (greatest_value c' w' low' b inner' form ks have' is' small' great' large) fit =
        let same : c' ≡ c = first_one m edges c' c is'.first is.first in
        let s = same_graph Form o m laws moves part (remaining m c edges) inner inner' w w' ls ks have (subst (λ x. HasNumbers Form o m part (remaining m x edges) inner' w' ks) same have') (fit_rest Form o m laws moves c part edges fit) in
        let l = same_level Form o m laws moves part edges c c' w w' low low' inner inner' f form ls ks (sym same) s is is' in
        over_limit a b (same_greatest Form o part f form a b l.0 great great') lim large

  mutual
    pub one_large : (keys : List ℕ) (edges : List Edge) (ls ks : List LevelOf) → IsLarge Form o m keys edges ls → IsLarge Form o m keys edges ks → Fit Form o m laws moves keys edges → ls ≡ ks
    one_large keys edges _ ks (in_part parts p local greatest lists last comps lp len each large) h fit =
        elim (large_over parts keys edges ks comps h) as (λ _. all_levels lists ++ last ≡ ks) [
          | inl v ↦ elim (cases_lt p v.p) as (λ _. all_levels lists ++ last ≡ ks) [
            | inl lt ↦ absurd (small_part (part_at parts p) (inside (part_at parts p) edges) v.local (v.greatest p) (levels_at v.lists p) last (v.each p lt) large (fit_part Form o m laws moves keys edges parts comps fit p lp))
            | inr ge ↦ elim (cases_lt v.p p) as (λ _. all_levels lists ++ last ≡ ks) [
              | inl lt ↦ absurd (small_part (part_at parts v.p) (inside (part_at parts v.p) edges) local (greatest v.p) (levels_at lists v.p) v.last (each v.p lt) v.large (fit_part Form o m laws moves keys edges parts comps fit v.p v.lp))
              | inr le ↦
                  let same : v.p ≡ p = omega arith in
                  let each' : (q : ℕ) → q < p → levels_at lists q ≡ levels_at v.lists q =
                  λ q lq. (same_part Form o m laws moves (part_at parts q) (inside (part_at parts q) edges) local v.local (greatest q) (v.greatest q) (levels_at lists q) (levels_at v.lists q) (each q lq) (v.each q (omega arith)) (fit_part Form o m laws moves keys edges parts comps fit q (omega arith))).levels in
                  let lev : lists ≡ v.lists = same_levels lists v.lists p len (v.len ∙ same) each' in
                  let end : last ≡ v.last = one_large_part (part_at parts p) (inside (part_at parts p) edges) last v.last large
                  (subst (λ x. IsLargePart Form o m (part_at parts x) (inside (part_at parts x) edges) v.last) same v.large) (fit_part Form o m laws moves keys edges parts comps fit p lp) in
                  ap (λ x. all_levels x ++ last) lev ∙ ap (λ x. all_levels v.lists ++ x) end ∙ sym v.levels_are
            ]
          ]
          | inr v ↦ absurd (small_part (part_at parts p) (inside (part_at parts p) edges) v.local (v.greatest p) (levels_at v.lists p) last (v.have p lp) large (fit_part Form o m laws moves keys edges parts comps fit p lp))
        ]
    one_large keys edges _ ks (in_graph parts local greatest offset form total lists comps len have is large) h fit =
        elim (large_over parts keys edges ks comps h) as (λ _. all_levels lists ++ graph_level keys total ∷ [] ≡ ks) [
          | inl v ↦ absurd (small_part (part_at parts v.p) (inside (part_at parts v.p) edges) local (greatest v.p) (levels_at lists v.p) v.last (have v.p v.lp) v.large (fit_part Form o m laws moves keys edges parts comps fit v.p v.lp))
          | inr v ↦ (same_over Form o m laws moves parts keys edges form v.form total v.total local v.local greatest v.greatest offset v.offset lists v.lists comps len v.len
              (λ p lp. same_part Form o m laws moves (part_at parts p) (inside (part_at parts p) edges) local v.local (greatest p) (v.greatest p) (levels_at lists p) (levels_at v.lists p) (have p lp) (v.have p lp) (fit_part Form o m laws moves keys edges parts comps fit p lp))
              (λ p lp. least_value Form o m laws moves (part_at parts p) (inside (part_at parts p) edges) local (greatest p) (levels_at lists p) (have p lp) (fit_part Form o m laws moves keys edges parts comps fit p lp) (comps.some p lp)) is v.is).levels ∙ sym v.levels_are
        ]

    pub one_large_part : (part : List ℕ) (edges : List Edge) (ls ks : List LevelOf) → IsLargePart Form o m part edges ls → IsLargePart Form o m part edges ks → Fit Form o m laws moves part edges → ls ≡ ks
    one_large_part part edges ls ks (within c first large) (within c' first' large') fit =
        let same : c' ≡ c = first_one m edges c' c first' first in
        one_large part (remaining m c edges) ls ks large (subst (λ x. IsLarge Form o m part (remaining m x edges) ks) same large') (fit_rest Form o m laws moves c part edges fit)
    one_large_part part edges ls _ (within c first large) (local_form c' w low inner form ks have is some) fit =
        let same : c' ≡ c = first_one m edges c' c is.first first in
        absurd (small_graph part (remaining m c edges) inner w ks ls (subst (λ x. HasNumbers Form o m part (remaining m x edges) inner w ks) same have) large (fit_rest Form o m laws moves c part edges fit))
    one_large_part part edges ls _ (within c first large) (greatest_value c' w low a inner form ks have is small great big) fit =
        let same : c' ≡ c = first_one m edges c' c is.first first in
        absurd (small_graph part (remaining m c edges) inner w ks ls (subst (λ x. HasNumbers Form o m part (remaining m x edges) inner w ks) same have) large (fit_rest Form o m laws moves c part edges fit))
    one_large_part part edges _ ks (local_form c w low inner form ls have is some) (within c' first large) fit =
        let same : c' ≡ c = first_one m edges c' c first is.first in
        absurd (small_graph part (remaining m c edges) inner w ls ks have (subst (λ x. IsLarge Form o m part (remaining m x edges) ks) same large) (fit_rest Form o m laws moves c part edges fit))
    one_large_part part edges _ ks (greatest_value c w low a inner form ls have is small great big) (within c' first large) fit =
        let same : c' ≡ c = first_one m edges c' c first is.first in
        absurd (small_graph part (remaining m c edges) inner w ls ks have (subst (λ x. IsLarge Form o m part (remaining m x edges) ks) same large) (fit_rest Form o m laws moves c part edges fit))
    one_large_part part edges _ _ (local_form c w low inner form ls have is some) (local_form c' w' low' inner' form' ks have' is' some') fit =
        let t = levels_alike part edges c c' w w' low low' inner inner' form form' ls ks have have' is is' fit in
        t.1 (pos 0) (pos 0) refl
    one_large_part part edges _ _ (local_form c w low inner form ls have is some) (greatest_value c' w' low' a inner' form' ks have' is' small great big) fit =
        let t = levels_alike part edges c c' w w' low low' inner inner' form form' ls ks have have' is is' fit in
        absurd (clash Form o part form' form (λ k ck. sym (t.0 k ck)) small some)
    one_large_part part edges _ _ (greatest_value c w low a inner form ls have is small great big) (local_form c' w' low' inner' form' ks have' is' some) fit =
        let t = levels_alike part edges c c' w w' low low' inner inner' form form' ls ks have have' is is' fit in
        absurd (clash Form o part form form' t.0 small some)
    one_large_part part edges _ _ (greatest_value c w low a inner form ls have is small great big) (greatest_value c' w' low' b inner' form' ks have' is' small' great' big') fit =
        let t = levels_alike part edges c c' w w' low low' inner inner' form form' ls ks have have' is is' fit in
        t.1 a b (same_greatest Form o part form form' a b t.0 great great')
