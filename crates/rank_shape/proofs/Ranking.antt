-- A graph with a nest can be ranked by a choice.
use Rattle.std.proofs.Common.{◌≡◌, ℕ, ◌+◌, ◌<◌, ◌≤◌, inl, inr, Bool, true, false, not, ◌&&◌, List, length, sym, subst, arith, zero, suc}
use Rattle.std.specs.List.{Contains, filter}
use Rattle.std.proofs.lemmas.Bool.{both_ways, and_cases, and_left, and_right, cases_Bool, not-true, not_from_false, cases_lt}
use Rattle.strong_components.specs.declared.edge.Edge.{Edge}
use Rattle.strong_components.specs.Paths.{Path, here, along}
use Rattle.strong_components.specs.Components.{IsComponents, part_at}
use Rattle.strong_components.proofs.Paths.{Path-join, Path-one, Path-then}
use Rattle.rank_shape.specs.declared.moves.Moves.{Moves}
use Rattle.rank_shape.specs.Moves.{surely_falls}
use Rattle.rank_shape.specs.Stuck.{Part, StronglyConnected, Rankable, no_cycle, choose, IsRanked, can, never}
use Rattle.rank_shape.specs.Nests.{inside, remaining, HasNest, parts_have, HasPart, bare, ranked, IsFirstStuck}
use Rattle.rank_shape.specs.Places.{EndsIn}
use Rattle.rank_shape.proofs.Lists.{in_filter, of_filter, any_member, member_any, member_some, has_edge, edge_true, true_edge}
use Rattle.rank_shape.proofs.Theory.{edge_leads, Path-within, inside_in, of_inside, remaining_in, of_remaining, ends_inside, ends_remaining, same_part, inside_connected, nest_no_stuck, first_is_stuck, first_never}
use Rattle.std.specs.declared.alloc.Global.{Global}
use Rattle.std.specs.declared.vec.Vec.{Vec}
use Rattle.std.proofs.Common.{Option, Some, None, MatchOption, option_map}
use Rattle.rank_shape.proofs.Shaping.{parts_apart}

-- the first list has with an edge all edges of the second that lie on a cycle with it
abbrev Whole : List Edge → List Edge → Type 0
Whole zs xs = (e f : Edge) → Contains zs e → Contains xs f → Path xs e.to f.from → Path xs f.to e.from → Contains zs f

-- wherever the edges `zs` are whole, it's enough to rank what is left when no cycle goes through them
abbrev Ranks : Moves → List Edge → Type 0
Ranks m zs = (xs : List Edge) → Part zs xs → Whole zs xs
    → ((ys : List Edge) → Part ys xs → ((f : Edge) → Contains xs f → (Contains zs f → ⊥) → Contains ys f)
    → ((e : Edge) → Contains zs e → Contains ys e → Path ys e.to e.from → ⊥) → Rankable m ys)
    → Rankable m xs

-- a path on a cycle with an edge of whole edges stays among them
path_whole : (zs xs : List Edge) → Whole zs xs → (e : Edge) → Contains zs e → {v u : ℕ} → Path xs v u → Path xs e.to v → Path xs u e.from → Path zs v u
path_whole zs xs whole e ce here to back = here
path_whole zs xs whole e ce (along {u = v} {v = w} {w = u} l p) to back =
    let f = any_member (λ x. (x.from ≡ v) × (x.to ≡ w)) xs l in
    let cf : Contains zs f.0 = whole e f.0 ce f.1 (subst (λ x. Path xs e.to x) (sym f.2.0) to) (subst (λ x. Path xs x e.from) (sym f.2.1) (Path-join p back)) in
    along (member_any (λ x. (x.from ≡ v) × (x.to ≡ w)) zs f.0 cf f.2) (path_whole zs xs whole e ce p (Path-then to l) back)

-- where the choice takes edges away
module _ (m : Moves) (edges xs : List Edge) (c : ℕ) where
  abbrev kept : Edge → Bool
  kept f = not (has_edge edges f && surely_falls m c f)

  rest_of : (f : Edge) → Contains (filter (λ x. not (has_edge edges x && surely_falls m c x)) xs) f → Contains xs f × (Contains edges f → surely_falls m c f ≡ false)
  rest_of f i =
      let a = of_filter (λ x. not (has_edge edges x && surely_falls m c x)) xs f i in (
        a.0,
        λ ce. elim (and_cases (has_edge edges f) (surely_falls m c f) (not-true (has_edge edges f && surely_falls m c f) a.1)) [
          | inl no-edge ↦ absurd (both_ways (has_edge edges f) no-edge (true_edge edges f ce))
          | inr falls ↦ falls
        ],
      )

  of_rest : (f : Edge) → Contains xs f × (Contains edges f → surely_falls m c f ≡ false) → Contains (filter (λ x. not (has_edge edges x && surely_falls m c x)) xs) f
  of_rest f i = in_filter (λ x. not (has_edge edges x && surely_falls m c x)) xs f i.0 (not_from_false (has_edge edges f && surely_falls m c f)
      (elim (cases_Bool (has_edge edges f)) [
        | inl there ↦ and_right (has_edge edges f) (surely_falls m c f) (i.1 (edge_true edges f there))
        | inr away ↦ and_left (has_edge edges f) (surely_falls m c f) away
      ]))

-- part by part, from `p` on
parts_rank : (m : Moves) (keys : List ℕ) (zs : List Edge) (parts : List (List ℕ)) (comps : IsComponents zs keys parts) (ends : EndsIn keys zs)
    → ((p : ℕ) → p < length parts → Ranks m (inside (part_at parts p) zs))
    → (xs : List Edge) → Part zs xs → Whole zs xs
    → ((ys : List Edge) → Part ys xs → ((f : Edge) → Contains xs f → (Contains zs f → ⊥) → Contains ys f)
    → ((e : Edge) → Contains zs e → Contains ys e → Path ys e.to e.from → ⊥) → Rankable m ys)
    → (d p : ℕ) → p + d ≡ length parts → (ys : List Edge) → Part ys xs
    → ((f : Edge) → Contains xs f → (Contains zs f → ⊥) → Contains ys f)
    → ((q : ℕ) (e : Edge) → p ≤ q → q < length parts → Contains (inside (part_at parts q) zs) e → Contains ys e)
    → ((q : ℕ) (e : Edge) → q < p → Contains (inside (part_at parts q) zs) e → Contains ys e → Path ys e.to e.from → ⊥)
    → Rankable m ys
parts_rank m keys zs parts comps ends handle xs sub whole k zero p all ys within out later none =
    k ys within out (λ e cz cy cycle.
    let around : Path zs e.to e.from = path_whole zs xs whole e cz (Path-within within cycle) here here in
    let kf = (ends e cz).0 in
    let q = comps.covered kf.0 e.from kf.1 in
    let cf : Contains (part_at parts q.0) e.from = subst (λ x. Contains (part_at parts q.0) x) kf.2 q.2 in
    let ct = same_part zs keys parts comps ends q.0 e.from e.to q.1 cf (ends e cz).1 (Path-one (edge_leads zs e cz)) around in
    none q.0 e (omega (arith, q.1)) (inside_in (part_at parts q.0) zs e cz cf ct) cy cycle)
parts_rank m keys zs parts comps ends handle xs sub whole k (suc d) p all ys within out later none =
    let lp : p < length parts = omega arith in
    let part : List Edge = inside (part_at parts p) zs in
    let apart = parts_apart keys zs parts comps in
    let part-whole : Whole (inside (part_at parts p) zs) ys = λ e f ce cf to back.
    let a = of_inside (part_at parts p) zs e ce in
    let fx = within f cf in
    let fz = whole e f a.0 fx (Path-within within to) (Path-within within back) in
    let le = edge_leads xs e (sub e a.0) in
    let lf = edge_leads xs f fx in
    let to' : Path zs e.to f.from = path_whole zs xs whole e a.0 (Path-within within to) here (along lf (Path-within within back)) in
    let back' : Path zs f.to e.from = path_whole zs xs whole f fz (Path-within within back) here (along le (Path-within within to)) in
    let ze = edge_leads zs e a.0 in
    let zf = edge_leads zs f fz in
    inside_in (part_at parts p) zs f fz
    (same_part zs keys parts comps ends p e.to f.from lp a.2 (ends f fz).0 to' (along zf (Path-then back' ze)))
    (same_part zs keys parts comps ends p e.to f.to lp a.2 (ends f fz).1 (Path-then to' zf) (Path-then back' ze)) in
    handle p lp ys (λ e ce. later p e (omega arith) lp ce) part-whole (λ ys' within' out' none'.
    parts_rank m keys zs parts comps ends handle xs sub whole k d (p + 1) (omega arith) ys' (λ e c. within e (within' e c))
    (λ f cx away. out' f (out f cx away) (λ ci. away (of_inside (part_at parts p) zs f ci).0))
    (λ q e le lq ce. out' e (later q e (omega arith) lq ce) (λ ci. omega (arith, apart p q e.from lp lq (of_inside (part_at parts p) zs e ci).1 (of_inside (part_at parts q) zs e ce).1)))
    (λ q e lt ce cy cycle. elim (cases_lt q p) [
      | inl below ↦ none q e below ce (within' e cy) (Path-within within' cycle)
      | inr ge ↦ let is : q ≡ p = omega arith in none' e (subst (λ x. Contains (inside (part_at parts x) zs) e) is ce) cy cycle
    ]))

mutual
  nest_ranks : (m : Moves) (keys : List ℕ) (zs : List Edge) → HasNest m keys zs → EndsIn keys zs → Ranks m zs
  nest_ranks m keys zs (parts_have parts comps have) ends xs sub whole k =
      parts_rank m keys zs parts comps ends
      (λ p lp. part_ranks m (part_at parts p) (inside (part_at parts p) zs) (have p lp) (ends_inside (part_at parts p) zs) (inside_connected zs keys parts comps ends p lp))
      xs sub whole k (length parts) 0 (omega arith) xs (λ e c. c) (λ f cx away. cx) (λ q e le lq ce. sub e (of_inside (part_at parts q) zs e ce).0) (λ q e lt. absurd (omega arith))

  part_ranks : (m : Moves) (part : List ℕ) (zs : List Edge) → HasPart m part zs → EndsIn part zs → StronglyConnected zs → Ranks m zs
  part_ranks m part zs (bare none) ends connected xs sub whole k = k xs (λ e c. c) (λ f cx away. cx) (λ e cz. absurd (omega (arith, member_some zs e cz)))
  part_ranks m part zs (ranked c first have) ends connected xs sub whole k =
      let g = any_member (λ x. surely_falls m c x ≡ true) zs first.fits.one_falls in
      let rest : List Edge = filter (λ x. not (has_edge zs x && surely_falls m c x)) xs in
      choose zs (filter (λ x. not (has_edge zs x && surely_falls m c x)) xs) c
      (record {
        some = member_some zs g.0 g.1;
        within = sub;
        each = λ e f ce cf. ((λ cz. (Path-within sub (connected e f ce cz), Path-within sub (connected f e cz ce))), (λ p. whole e f ce cf p.0 p.1));
      })
      first.fits
      (λ e. (rest_of m zs xs c e, of_rest m zs xs c e))
      (nest_ranks m part (remaining m c zs) have (ends_remaining m c part zs ends) (filter (λ x. not (has_edge zs x && surely_falls m c x)) xs)
      (λ e ce. let r = of_remaining m c zs e ce in of_rest m zs xs c e (sub e r.0, λ _. r.1))
      (λ e f ce cf to back.
      let r = of_remaining m c zs e ce in
      let s = rest_of m zs xs c f cf in
      let in-xs : Part (filter (λ x. not (has_edge zs x && surely_falls m c x)) xs) xs = λ x i. (rest_of m zs xs c x i).0 in
      let cz = whole e f r.0 s.0 (Path-within in-xs to) (Path-within in-xs back) in
      remaining_in m c zs f cz (s.1 cz))
      (λ ys within out none.
      k ys (λ e c'. (rest_of m zs xs c e (within e c')).0)
      (λ f cx away. out f (of_rest m zs xs c f (cx, λ cz. absurd (away cz))) (λ cr. away (of_remaining m c zs f cr).0))
      (λ e cz cy cycle. none e (remaining_in m c zs e cz ((rest_of m zs xs c e (within e cy)).1 cz)) cy cycle)))

-- a graph with a nest can be ranked by a choice
pub nest_rankable : (m : Moves) (keys : List ℕ) (edges : List Edge) → HasNest m keys edges → EndsIn keys edges → Rankable m edges
nest_rankable m keys edges have ends =
    nest_ranks m keys edges have ends edges (λ e c. c) (λ e f ce cf to back. cf)
    (λ ys within out none. no_cycle (λ e cy cycle. none e (within e cy) cy cycle))

-- what the search for a stuck component says of ranking
pub ranked_found : (m : Moves) (keys : List ℕ) (edges : List Edge) → EndsIn keys edges
    → (o : Option (Vec Edge Global)) → MatchOption o (HasNest m keys edges) (λ s. IsFirstStuck m keys edges s.items)
    → IsRanked m edges (option_map (λ s. s.items) o)
ranked_found m keys edges ends None h = can (nest_rankable m keys edges h ends) (λ stuck. nest_no_stuck m keys edges stuck h ends)
ranked_found m keys edges ends (Some s) h =
    let i = first_is_stuck m keys edges s.items h ends in
    let n = first_never m keys edges s.items h ends in
    never i.0 i.1 n.0 n.1
