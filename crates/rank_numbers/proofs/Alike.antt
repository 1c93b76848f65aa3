-- The numbers of a nest are fixed by its graph, and where they are all small none is large.
use Rattle.std.proofs.Common.{◌≡◌, ℕ, ◌<◌, inl, inr, true, zero, suc, List, [], ◌∷◌, ◌++◌, length, refl, sym, ap, subst, ◌∙◌, arith}
use Rattle.std.specs.Prelude.{ℤ, pos, negsuc, ◌≤ℤ◌}
use Rattle.std.specs.List.{Contains}
use Rattle.std.proofs.lemmas.Int.{ints}
use Rattle.std.proofs.lemmas.List.{ext_get_or}
use Rattle.std.proofs.lemmas.List.Elements.{All-contains}
use Rattle.strong_components.specs.declared.edge.Edge.{Edge}
use Rattle.strong_components.specs.Components.{IsComponents, part_at}
use Rattle.strong_components.proofs.Unique.{same_components}
use Rattle.rank_shape.specs.declared.moves.Moves.{Moves}
use Rattle.rank_shape.specs.Moves.{surely_falls}
use Rattle.rank_shape.specs.Nests.{inside, remaining, IsFirst}
use Rattle.rank_shape.specs.Places.{EndsIn}
use Rattle.rank_shape.specs.Stuck.{Part}
use Rattle.rank_shape.proofs.Lists.{any_member, first_member, member_some}
use Rattle.rank_shape.proofs.Theory.{of_inside, of_remaining, ends_inside, ends_remaining}
use Rattle.rank_numbers.specs.Forms.{Forms, FormLaws, MovesOf}
use Rattle.rank_numbers.specs.Levels.{LevelOf, part_level, graph_level, all_levels}
use Rattle.rank_numbers.specs.Numbers.{IsLow, IsGreatest, IsOffset, IsTotal, IsGraph, IsPart, levels_at, HasNumbers, of_parts, PartNumbers, single, leveled}
use Rattle.rank_numbers.proofs.Nesting.{first_one}
use Rattle.rank_numbers.proofs.Theorem.{part_ranks}

-- ---- numbers one by one

pub same_low : (Form : Type 0) (o : Forms Form) (part : List ℕ) (c : ℕ) (a b : ℤ) → IsLow o part c a → IsLow o part c b → a ≡ b
same_low Form o part c a b h g = omega (arith, ints, h.bound g.attained.0 g.attained.1, g.attained.2, g.bound h.attained.0 h.attained.1, h.attained.2)

greatest_le : (Form : Type 0) (o : Forms Form) (part : List ℕ) (f g : ℕ → Form) (a b : ℤ) → ((k : ℕ) → Contains part k → f k ≡ g k) → IsGreatest o part f a → IsGreatest o part g b → a ≤ℤ b
greatest_le Form o part f g a b same h j = elim h.attained as (λ _. a ≤ℤ b) [
  | inl x ↦ let e : o.upper (f x.0) x.0 ≡ o.upper (g x.0) x.0 = ap (λ y. o.upper y x.0) (same x.0 x.1) in omega (arith, ints, x.2, e, j.facts x.0 x.1)
  | inr x ↦ let e : o.after (f (x.0).to) x.0 ≡ o.after (g (x.0).to) x.0 = ap (λ y. o.after y x.0) (same (x.0).to x.2) in omega (arith, ints, x.3, e, j.edges x.0 x.1 x.2)
]

pub same_greatest : (Form : Type 0) (o : Forms Form) (part : List ℕ) (f g : ℕ → Form) (a b : ℤ) → ((k : ℕ) → Contains part k → f k ≡ g k) → IsGreatest o part f a → IsGreatest o part g b → a ≡ b
same_greatest Form o part f g a b same h j = omega (arith, ints, greatest_le Form o part f g a b same h j, greatest_le Form o part g f b a (λ k ck. sym (same k ck)) j h)

up_to : (z : ℤ) → (n : ℕ) × (z ≤ℤ pos n)
up_to (pos n) = (n, omega (arith, ints))
up_to (negsuc n) = (0, omega (arith, ints))

module _ (edges : List Edge) (parts : List (List ℕ)) (greatest others : ℕ → ℤ) (same : (p : ℕ) → p < length parts → greatest p ≡ others p)
    (least : (p : ℕ) → p < length parts → pos 1 ≤ℤ greatest p) where
  -- an offset is fixed by those that are smaller
  offset_le : (offset offset' : ℕ → ℤ) → ((p : ℕ) → p < length parts → IsOffset edges parts greatest offset p) → ((p : ℕ) → p < length parts → IsOffset edges parts others offset' p)
      → (n : ℕ) (p : ℕ) → p < length parts → offset' p ≤ℤ pos n → offset' p ≤ℤ offset p
  offset_le offset offset' h g zero p lp le = elim (g p lp).attained as (λ _. offset' p ≤ℤ offset p) [
    | inl z ↦ omega (arith, ints, z, (h p lp).least)
    | inr x ↦ absurd (omega (arith, ints, x.7, (g x.0 x.2).least, same x.0 x.2, least x.0 x.2))
  ]
  offset_le offset offset' h g (suc n) p lp le = elim (g p lp).attained as (λ _. offset' p ≤ℤ offset p) [
    | inl z ↦ omega (arith, ints, z, (h p lp).least)
    | inr x ↦ omega (
      arith,
      ints,
      x.7,
      same x.0 x.2,
      (h p lp).bound x.0 x.1 x.2 x.3 x.4 x.5 x.6,
      offset_le offset offset' h g n x.0 x.2 (omega (arith, ints, x.7, same x.0 x.2, least x.0 x.2)),
    )
  ]

same_offset : (edges : List Edge) (parts : List (List ℕ)) (greatest others offset offset' : ℕ → ℤ) → ((p : ℕ) → p < length parts → greatest p ≡ others p)
    → ((p : ℕ) → p < length parts → pos 1 ≤ℤ greatest p)
    → ((p : ℕ) → p < length parts → IsOffset edges parts greatest offset p) → ((p : ℕ) → p < length parts → IsOffset edges parts others offset' p)
    → (p : ℕ) → p < length parts → offset p ≡ offset' p
same_offset edges parts greatest others offset offset' same least h g p lp =
    let u = up_to (offset p) in
    let v = up_to (offset' p) in
    omega (
      arith,
      ints,
      offset_le edges parts greatest others same least offset offset' h g v.0 p lp v.1,
      offset_le edges parts others greatest (λ q lq. sym (same q lq)) (λ q lq. omega (arith, ints, same q lq, least q lq)) offset' offset g h u.0 p lp u.1,
    )

same_total : (parts : List (List ℕ)) (greatest others offset offset' : ℕ → ℤ) (s t : ℤ) → ((p : ℕ) → p < length parts → greatest p ≡ others p) → ((p : ℕ) → p < length parts → offset p ≡ offset' p)
    → IsTotal parts greatest offset s → IsTotal parts others offset' t → s ≡ t
same_total parts greatest others offset offset' s t same sameo h g =
    let p = h.attained.0 in
    let q = g.attained.0 in
    omega (arith, ints, h.attained.2, same p h.attained.1, sameo p h.attained.1, g.bound p h.attained.1, g.attained.2, same q g.attained.1, sameo q g.attained.1, h.bound q g.attained.1)

pub same_levels : (ls ks : List (List LevelOf)) (n : ℕ) → length ls ≡ n → length ks ≡ n → ((p : ℕ) → p < n → levels_at ls p ≡ levels_at ks p) → ls ≡ ks
same_levels ls ks n l k same = ext_get_or [] ls ks (l ∙ sym k) (λ p lp. same p (omega (arith, l)))

module _ (Form : Type 0) (o : Forms Form) (m : Moves) (laws : FormLaws o) (moves : MovesOf o m o.edges) where
  -- a graph of known keys, along edges of the whole graph
  pub record Fit (keys : List ℕ) (edges : List Edge) : Type 0 where
    pub known : (k : ℕ) → Contains keys k → k < o.keys
    pub ends : EndsIn keys edges
    pub within : Part edges o.edges

  pub fit_part : (keys : List ℕ) (edges : List Edge) (parts : List (List ℕ)) → IsComponents edges keys parts → Fit keys edges → (p : ℕ) → p < length parts → Fit (part_at parts p) (inside (part_at parts p) edges)
  fit_part keys edges parts comps fit p lp = record {
    known = λ k ck. fit.known k (All-contains (λ x. Contains keys x) (part_at parts p) k (comps.members p lp) ck);
    ends = ends_inside (part_at parts p) edges;
    within = λ e ce. fit.within e (of_inside (part_at parts p) edges e ce).0;
  }

  pub fit_rest : (c : ℕ) (part : List ℕ) (edges : List Edge) → Fit part edges → Fit part (remaining m c edges)
  fit_rest c part edges fit = record {
    known = fit.known;
    ends = ends_remaining m c part edges fit.ends;
    within = λ e ce. fit.within e (of_remaining m c edges e ce).0;
  }

  -- a greatest value is at least 1
  pub least_value : (part : List ℕ) (edges : List Edge) (f : ℕ → Form) (a : ℤ) (ls : List LevelOf) → PartNumbers Form o m part edges f a ls → Fit part edges → 0 < length part → pos 1 ≤ℤ a
  least_value part edges f a ls h fit some =
      let r = part_ranks Form o m laws moves part edges f a ls h fit.known fit.ends fit.within in
      let k : (k : ℕ) × Contains part k = first_member part some in
      omega (arith, ints, r.positive k.0 k.1, laws.ordered (f k.0) k.0 (fit.known k.0 k.1), r.bounded k.0 k.1)

  -- what two derivations have in common
  pub record Same (keys : List ℕ) (f g : ℕ → Form) (a b : ℤ) (ls ks : List LevelOf) : Type 0 where
    pub forms : (k : ℕ) → Contains keys k → f k ≡ g k
    pub numbers : a ≡ b
    pub levels : ls ≡ ks

  -- the numbers of a graph over components that are at hand
  pub record Over (parts : List (List ℕ)) (keys : List ℕ) (edges : List Edge) (form : ℕ → Form) (total : ℤ) (levels : List LevelOf) : Type 0 where
    pub local : ℕ → Form
    pub greatest : ℕ → ℤ
    pub offset : ℕ → ℤ
    pub lists : List (List LevelOf)
    pub len : length lists ≡ length parts
    pub have : (p : ℕ) → p < length parts → PartNumbers Form o m (part_at parts p) (inside (part_at parts p) edges) local (greatest p) (levels_at lists p)
    pub is : IsGraph o edges parts local greatest offset form total
    pub levels_are : levels ≡ all_levels lists ++ graph_level keys total ∷ []

  over : (parts : List (List ℕ)) (keys : List ℕ) (edges : List Edge) (form : ℕ → Form) (total : ℤ) (levels : List LevelOf) → IsComponents edges keys parts
      → HasNumbers Form o m keys edges form total levels → Over parts keys edges form total levels
  over parts keys edges form total _ comps (of_parts others local greatest offset lists mine len have is small lim) =
      let e : others ≡ parts = same_components edges keys others parts mine comps in
      subst (λ x. Over x keys edges form total (all_levels lists ++ graph_level keys total ∷ [])) e (record {
        local = local;
        greatest = greatest;
        offset = offset;
        lists = lists;
        len = len;
        have = have;
        is = is;
        levels_are = refl;
      })

  -- graphs over the same components
  pub same_over : (parts : List (List ℕ)) (keys : List ℕ) (edges : List Edge) (f g : ℕ → Form) (s t : ℤ) (local local' : ℕ → Form) (greatest greatest' offset offset' : ℕ → ℤ) (lists lists' : List (List LevelOf))
      → IsComponents edges keys parts → length lists ≡ length parts → length lists' ≡ length parts
      → ((p : ℕ) → p < length parts → Same (part_at parts p) local local' (greatest p) (greatest' p) (levels_at lists p) (levels_at lists' p))
      → ((p : ℕ) → p < length parts → pos 1 ≤ℤ greatest p)
      → IsGraph o edges parts local greatest offset f s → IsGraph o edges parts local' greatest' offset' g t
      → Same keys f g s t (all_levels lists ++ graph_level keys s ∷ []) (all_levels lists' ++ graph_level keys t ∷ [])
  same_over parts keys edges f g s t local local' greatest greatest' offset offset' lists lists' comps len len' each least is is' =
      let offs = same_offset edges parts greatest greatest' offset offset' (λ p lp. (each p lp).numbers) least is.offsets is'.offsets in
      let tot = same_total parts greatest greatest' offset offset' s t (λ p lp. (each p lp).numbers) offs is.greatest_sum is'.greatest_sum in
      let lev = same_levels lists lists' (length parts) len len' (λ p lp. (each p lp).levels) in
      record {
        forms = λ k ck.
            let q = comps.covered ck.0 k ck.1 in
            let c : Contains (part_at parts q.0) k = subst (λ x. Contains (part_at parts q.0) x) ck.2 q.2 in
            is.forms q.0 k q.1 c ∙ ap (λ x. o.shift x (offset q.0)) ((each q.0 q.1).forms k c) ∙ ap (λ x. o.shift (local' k) x) (offs q.0 q.1) ∙ sym (is'.forms q.0 k q.1 c);
        numbers = tot;
        levels = ap (λ x. all_levels x ++ graph_level keys s ∷ []) lev ∙ ap (λ x. all_levels lists' ++ graph_level keys x ∷ []) tot;
      }

  -- a first candidate has an edge
  pub no_edge : (edges : List Edge) (c : ℕ) → length edges ≡ 0 → IsFirst m edges c → ⊥
  no_edge edges c none first = let e = any_member (λ e. surely_falls m c e ≡ true) edges first.fits.one_falls in omega (arith, member_some edges e.0 e.1)

  -- levels over the same numbers within
  pub same_level : (part : List ℕ) (edges : List Edge) (c c' : ℕ) (w w' low low' : ℤ) (inner inner' f g : ℕ → Form) (ls ks : List LevelOf) → c ≡ c' → Same part inner inner' w w' ls ks
      → IsPart o m part edges inner w c low f → IsPart o m part edges inner' w' c' low' g → ((k : ℕ) → Contains part k → f k ≡ g k) × (low ≡ low')
  same_level part edges c c' w w' low low' inner inner' f g ls ks same s h j =
      let e : low ≡ low' = same_low Form o part c' low low' (subst (λ x. IsLow o part x low) same h.lowest) j.lowest in (
        (λ k ck. h.forms k ck ∙ ap (λ x. o.level x c low (inner k)) s.numbers ∙ ap (λ x. o.level w' x low (inner k)) same ∙ ap (λ x. o.level w' c' x (inner k)) e
            ∙ ap (λ x. o.level w' c' low' x) (s.forms k ck) ∙ sym (j.forms k ck)),
        e,
      )

  mutual
    pub same_graph : (keys : List ℕ) (edges : List Edge) (f g : ℕ → Form) (s t : ℤ) (ls ks : List LevelOf) → HasNumbers Form o m keys edges f s ls → HasNumbers Form o m keys edges g t ks
        → Fit keys edges → Same keys f g s t ls ks
    same_graph keys edges f g s t _ ks (of_parts parts local greatest offset lists comps len have is small lim) h fit =
        let v = over parts keys edges g t ks comps h in
        subst (λ x. Same keys f g s t (all_levels lists ++ graph_level keys s ∷ []) x) (sym v.levels_are)
        (same_over parts keys edges f g s t local v.local greatest v.greatest offset v.offset lists v.lists comps len v.len
        (λ p lp. same_part (part_at parts p) (inside (part_at parts p) edges) local v.local (greatest p) (v.greatest p) (levels_at lists p) (levels_at v.lists p) (have p lp) (v.have p lp) (fit_part keys edges parts comps fit p lp))
        (λ p lp. least_value (part_at parts p) (inside (part_at parts p) edges) local (greatest p) (levels_at lists p) (have p lp) (fit_part keys edges parts comps fit p lp) (comps.some p lp)) is v.is)

    pub same_part : (part : List ℕ) (edges : List Edge) (f g : ℕ → Form) (a b : ℤ) (ls ks : List LevelOf) → PartNumbers Form o m part edges f a ls → PartNumbers Form o m part edges g b ks
        → Fit part edges → Same part f g a b ls ks
    same_part part edges f g _ _ _ _ (single none is) (single none' is') fit = record { forms = λ k ck. is k ck ∙ sym (is' k ck); numbers = refl; levels = refl }
    same_part part edges f g _ b _ _ (single none is) (leveled c w low inner ls have is' small great lim) fit = absurd (no_edge edges c none is'.first)
    same_part part edges f g a _ _ _ (leveled c w low inner ls have is small great lim) (single none is') fit = absurd (no_edge edges c none is.first)
    same_part part edges f g a b _ _ (leveled c w low inner ls have is small great lim) (leveled c' w' low' inner' ks have' is' small' great' lim') fit =
        let same : c' ≡ c = first_one m edges c' c is'.first is.first in
        let s = same_graph part (remaining m c edges) inner inner' w w' ls ks have (subst (λ x. HasNumbers Form o m part (remaining m x edges) inner' w' ks) same have') (fit_rest c part edges fit) in
        let l = same_level part edges c c' w w' low low' inner inner' f g ls ks (sym same) s is is' in
        let e : a ≡ b = same_greatest Form o part f g a b l.0 great great' in
        record {
          forms = l.0;
          numbers = e;
          levels = ap (λ x. x ++ part_level part c low w a ∷ []) s.levels ∙ ap (λ x. ks ++ part_level part x low w a ∷ []) (sym same) ∙ ap (λ x. ks ++ part_level part c' x w a ∷ []) l.1
              ∙ ap (λ x. ks ++ part_level part c' low' x a ∷ []) s.numbers ∙ ap (λ x. ks ++ part_level part c' low' w' x ∷ []) e;
        }
