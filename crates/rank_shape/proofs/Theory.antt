-- A set with a stuck subset can't be ranked; a graph has a nest exactly where it has no stuck subset.
use Rattle.std.proofs.Common.{◌≡◌, ℕ, ◌<◌, inl, inr, true, false, not, ◌&&◌, List, length, refl, sym, subst, arith}
use Rattle.std.specs.List.{Contains}
use Rattle.std.proofs.lemmas.List.Elements.{All-contains}
use Rattle.std.proofs.lemmas.Bool.{both_ways, and_parts, and_from, not_from_false, not-true}
use Rattle.strong_components.specs.declared.edge.Edge.{Edge}
use Rattle.strong_components.specs.Paths.{Leads, Path, here, along}
use Rattle.strong_components.specs.Components.{IsComponents, part_at}
use Rattle.strong_components.proofs.Paths.{Path-join, Path-one, Path-then}
use Rattle.rank_shape.specs.declared.moves.Moves.{Moves}
use Rattle.rank_shape.specs.Moves.{may_grow, surely_falls}
use Rattle.rank_shape.specs.Stuck.{Part, StronglyConnected, Stuck, Rankable, no_cycle, choose}
use Rattle.rank_shape.specs.Nests.{has, inside, remaining, HasNest, parts_have, HasPart, bare, ranked, IsFirstStuck, in_part, IsStuckIn, unfit, deeper}
use Rattle.rank_shape.specs.Places.{EndsIn}
use Rattle.rank_shape.proofs.Lists.{in_filter, of_filter, has_true, true_has, any_member, member_any, first_member, member_some}

-- an edge of the list leads from its beginning to its end
pub edge_leads : (edges : List Edge) (e : Edge) → Contains edges e → Leads edges e.from e.to
edge_leads edges e c = member_any (λ x. (x.from ≡ e.from) × (x.to ≡ e.to)) edges e c (refl, refl)

pub Path-within : {xs ys : List Edge} {u v : ℕ} → Part xs ys → Path xs u v → Path ys u v
Path-within sub here = here
Path-within {xs = xs} {ys = ys} sub (along l p) =
    let m = any_member _ xs l in along (member_any _ ys m.0 (sub m.0 m.1) m.2) (Path-within sub p)

-- A set with a stuck subset can't be ranked by a choice.
pub stuck_never : (m : Moves) (edges stuck : List Edge) → Rankable m edges → Stuck m stuck → Part stuck edges → ⊥
stuck_never m edges stuck (no_cycle none) s sub =
    let e = first_member stuck s.some in
    none e.0 (sub e.0 e.1) (Path-within sub (s.connected e.0 e.0 e.1 e.1))
stuck_never m edges stuck (choose part rest c comp fits rests r) s sub =
    stuck_never m rest stuck r s (λ e in-stuck. (rests e).1 (
      sub e in-stuck,
      λ in-part.
          -- all of the stuck set lies in the component
          let whole : Part stuck part = λ f in-stuck'. (comp.each e f in-part (sub f in-stuck')).1
          (Path-within sub (s.connected e f in-stuck in-stuck'), Path-within sub (s.connected f e in-stuck' in-stuck)) in
          elim (s.no_fit c fits.in_count) [
            | inl grows ↦ let g = any_member (λ x. may_grow m c x ≡ true) stuck grows in
                absurd (both_ways (may_grow m c g.0) (All-contains (λ x. may_grow m c x ≡ false) part g.0 fits.none_grows (whole g.0 g.1)) g.2)
            | inr falls ↦ All-contains (λ x. surely_falls m c x ≡ false) stuck e falls in-stuck
          ],
    ))

-- the edges inside a part
pub inside_in : (part : List ℕ) (edges : List Edge) (e : Edge) → Contains edges e → Contains part e.from → Contains part e.to → Contains (inside part edges) e
inside_in part edges e c f t = in_filter (λ x. has part x.from && has part x.to) edges e c (and_from (has part e.from) (has part e.to) (true_has part e.from f) (true_has part e.to t))

pub of_inside : (part : List ℕ) (edges : List Edge) (e : Edge) → Contains (inside part edges) e → Contains edges e × Contains part e.from × Contains part e.to
of_inside part edges e c =
    let i = of_filter (λ x. has part x.from && has part x.to) edges e c in
    let b = and_parts (has part e.from) (has part e.to) i.1 in
    (i.0, has_true part e.from b.0, has_true part e.to b.1)

pub remaining_in : (m : Moves) (c : ℕ) (edges : List Edge) (e : Edge) → Contains edges e → surely_falls m c e ≡ false → Contains (remaining m c edges) e
remaining_in m c edges e i f = in_filter (λ x. not (surely_falls m c x)) edges e i (not_from_false (surely_falls m c e) f)

pub of_remaining : (m : Moves) (c : ℕ) (edges : List Edge) (e : Edge) → Contains (remaining m c edges) e → Contains edges e × (surely_falls m c e ≡ false)
of_remaining m c edges e i = let f = of_filter (λ x. not (surely_falls m c x)) edges e i in (f.0, not-true (surely_falls m c e) f.1)

pub ends_inside : (part : List ℕ) (edges : List Edge) → EndsIn part (inside part edges)
ends_inside part edges e c = let i = of_inside part edges e c in (i.1, i.2)

pub ends_remaining : (m : Moves) (c : ℕ) (part : List ℕ) (edges : List Edge) → EndsIn part edges → EndsIn part (remaining m c edges)
ends_remaining m c part edges h e i = h e (of_remaining m c edges e i).0

module _ (edges : List Edge) (keys : List ℕ) (parts : List (List ℕ)) (comps : IsComponents edges keys parts) (ends : EndsIn keys edges) where
  -- keys that reach each other stand in one part
  pub same_part : (p u v : ℕ) → p < length parts → Contains (part_at parts p) u → Contains keys v → Path edges u v → Path edges v u → Contains (part_at parts p) v
  same_part p u v lp cu kv to back =
      let q = comps.covered kv.0 v kv.1 in
      let cv : Contains (part_at parts q.0) v = subst (λ x. Contains (part_at parts q.0) x) kv.2 q.2 in
      let e = (comps.together p q.0 u v lp q.1 cu cv).1 (to, back) in
      subst (λ x. Contains (part_at parts x) v) (sym e) cv

  -- a path from a key of a part to another stays in the part
  pub path_inside : (p : ℕ) → p < length parts → {u v : ℕ} → Path edges u v → Contains (part_at parts p) u → Contains (part_at parts p) v → Path (inside (part_at parts p) edges) u v
  path_inside p lp here cu cv = here
  path_inside p lp (along {u = u} {v = w} {w = v} l path) cu cv =
      let e = any_member (λ x. (x.from ≡ u) × (x.to ≡ w)) edges l in
      let kw : Contains keys w = subst (λ x. Contains keys x) e.2.1 (ends e.0 e.1).1 in
      let back : Path edges w u = Path-join path ((comps.together p p u v lp lp cu cv).0 refl).1 in
      let cw = same_part p u w lp cu kw (Path-one l) back in
      along (member_any (λ x. (x.from ≡ u) × (x.to ≡ w)) (inside (part_at parts p) edges) e.0
      (inside_in (part_at parts p) edges e.0 e.1 (subst (λ x. Contains (part_at parts p) x) (sym e.2.0) cu) (subst (λ x. Contains (part_at parts p) x) (sym e.2.1) cw)) e.2)
      (path_inside p lp path cw cv)

  pub inside_connected : (p : ℕ) → p < length parts → StronglyConnected (inside (part_at parts p) edges)
  inside_connected p lp e f ce cf =
      let a = of_inside (part_at parts p) edges e ce in
      let b = of_inside (part_at parts p) edges f cf in
      path_inside p lp ((comps.together p p e.to f.from lp lp a.2 b.1).0 refl).0 a.2 b.1

-- what the first stuck component is, and that it is a subset
mutual
  pub first_is_stuck : (m : Moves) (keys : List ℕ) (edges stuck : List Edge) → IsFirstStuck m keys edges stuck → EndsIn keys edges → Stuck m stuck × Part stuck edges
  first_is_stuck m keys edges stuck (in_part parts p comps lp before s) ends =
      let i = stuck_is_stuck m (part_at parts p) (inside (part_at parts p) edges) stuck s (ends_inside (part_at parts p) edges) (inside_connected edges keys parts comps ends p lp) in
      (i.0, λ e c. (of_inside (part_at parts p) edges e (i.1 e c)).0)

  pub stuck_is_stuck : (m : Moves) (part : List ℕ) (edges stuck : List Edge) → IsStuckIn m part edges stuck → EndsIn part edges → StronglyConnected edges → Stuck m stuck × Part stuck edges
  stuck_is_stuck m part edges stuck (unfit some none) ends connected = (record { some = some; connected = connected; no_fit = none }, λ e c. c)
  stuck_is_stuck m part edges stuck (deeper c first s) ends connected =
      let i = first_is_stuck m part (remaining m c edges) stuck s (ends_remaining m c part edges ends) in
      (i.0, λ e x. (of_remaining m c edges e (i.1 e x)).0)

-- a graph with a nest has no stuck subset
mutual
  pub nest_no_stuck : (m : Moves) (keys : List ℕ) (edges stuck : List Edge) → HasNest m keys edges → EndsIn keys edges → Stuck m stuck → Part stuck edges → ⊥
  nest_no_stuck m keys edges stuck (parts_have parts comps have) ends s sub =
      let e = first_member stuck s.some in
      let k = (ends e.0 (sub e.0 e.1)).0 in
      let p = comps.covered k.0 (e.0).from k.1 in
      let here' : Contains (part_at parts p.0) (e.0).from = subst (λ x. Contains (part_at parts p.0) x) k.2 p.2 in
      let whole : Part stuck (inside (part_at parts p.0) edges) = λ f c.
      let to : Path edges (e.0).from f.from = along (edge_leads edges e.0 (sub e.0 e.1)) (Path-within sub (s.connected e.0 f e.1 c)) in
      let back : Path edges f.to (e.0).from = Path-within sub (s.connected f e.0 c e.1) in
      let step = edge_leads edges f (sub f c) in
      inside_in (part_at parts p.0) edges f (sub f c)
      (same_part edges keys parts comps ends p.0 (e.0).from f.from p.1 here' (ends f (sub f c)).0 to (along step back))
      (same_part edges keys parts comps ends p.0 (e.0).from f.to p.1 here' (ends f (sub f c)).1 (Path-then to step) back) in
      part_no_stuck m (part_at parts p.0) (inside (part_at parts p.0) edges) stuck (have p.0 p.1) (ends_inside (part_at parts p.0) edges) s whole

  pub part_no_stuck : (m : Moves) (part : List ℕ) (edges stuck : List Edge) → HasPart m part edges → EndsIn part edges → Stuck m stuck → Part stuck edges → ⊥
  part_no_stuck m part edges stuck (bare none) ends s sub = let e = first_member stuck s.some in omega (arith, member_some edges e.0 (sub e.0 e.1))
  part_no_stuck m part edges stuck (ranked c first have) ends s sub = elim (s.no_fit c first.fits.in_count) [
    | inl grows ↦ let g = any_member (λ x. may_grow m c x ≡ true) stuck grows in
        both_ways (may_grow m c g.0) (All-contains (λ x. may_grow m c x ≡ false) edges g.0 first.fits.none_grows (sub g.0 g.1)) g.2
    | inr falls ↦ nest_no_stuck m part (remaining m c edges) stuck have (ends_remaining m c part edges ends) s
        (λ e x. remaining_in m c edges e (sub e x) (All-contains (λ y. surely_falls m c y ≡ false) stuck e falls x))
  ]

-- neither the first stuck component nor all edges can be ranked by a choice
pub first_never : (m : Moves) (keys : List ℕ) (edges stuck : List Edge) → IsFirstStuck m keys edges stuck → EndsIn keys edges → (Rankable m stuck → ⊥) × (Rankable m edges → ⊥)
first_never m keys edges stuck s ends =
    let i = first_is_stuck m keys edges stuck s ends in
    ((λ r. stuck_never m stuck stuck r i.0 (λ e c. c)), (λ r. stuck_never m edges stuck r i.0 i.1))
