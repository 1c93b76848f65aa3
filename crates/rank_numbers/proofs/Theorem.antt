-- The numbers of a nest rank its graph.
use Rattle.std.proofs.Common.{◌≡◌, ℕ, ◌<◌, inl, inr, true, false, List, length, sym, ap, subst, ◌∙◌, arith}
use Rattle.std.specs.Prelude.{ℤ, pos, negsuc, ◌≤ℤ◌, int_le}
use Rattle.std.specs.List.{Contains}
use Rattle.std.proofs.lemmas.Int.{ints}
use Rattle.std.proofs.lemmas.List.Elements.{All-contains}
use Rattle.std.proofs.lemmas.Bool.{cases_Bool, cases_eq}
use Rattle.strong_components.specs.declared.edge.Edge.{Edge}
use Rattle.strong_components.specs.Components.{IsComponents, part_at}
use Rattle.rank_shape.specs.declared.moves.Moves.{Moves}
use Rattle.rank_shape.specs.Moves.{may_grow, surely_falls}
use Rattle.rank_shape.specs.Stuck.{Part}
use Rattle.rank_shape.specs.Nests.{inside, remaining, IsFirst}
use Rattle.rank_shape.specs.Places.{EndsIn}
use Rattle.rank_shape.proofs.Lists.{first_member, member_some}
use Rattle.rank_shape.proofs.Theory.{inside_in, of_inside, remaining_in, of_remaining, ends_inside, ends_remaining}
use Rattle.rank_numbers.specs.Forms.{Forms, FormLaws, MovesOf}
use Rattle.rank_numbers.specs.Levels.{LevelOf}
use Rattle.rank_numbers.specs.Numbers.{levels_at, limit, IsLow, IsGreatest, IsOffset, IsTotal, HasNumbers, of_parts, PartNumbers, single, leveled, Ranked}

no_growth : (r : ℤ) → int_le (pos 1) r ≡ false → r ≤ℤ pos 0
no_growth r h = omega (arith, ints, h)

sure_fall : (r : ℤ) → int_le r (negsuc 0) ≡ true → r ≤ℤ negsuc 0
sure_fall r h = omega (arith, ints, h)

-- a total isn't large
pub total_small : {Form : Type 0} {o : Forms Form} {m : Moves} (keys : List ℕ) (edges : List Edge) (form : ℕ → Form) (total : ℤ) (levels : List LevelOf) → HasNumbers Form o m keys edges form total levels → total ≤ℤ limit
total_small keys edges form total _ (of_parts parts local greatest offset levels comps len have is small lim) = lim

module _ (Form : Type 0) (o : Forms Form) (m : Moves) (laws : FormLaws o) (moves : MovesOf o m o.edges) where
  -- each key is known
  abbrev pub Known : List ℕ → Type 0
  Known keys = (k : ℕ) → Contains keys k → k < o.keys

  never_grows : (c : ℕ) (e : Edge) → c < m.count → Contains o.edges e → may_grow m c e ≡ false → o.rise (o.direction c) (o.direction c) e ≤ℤ pos 0
  never_grows c e lc ce none = no_growth (o.rise (o.direction c) (o.direction c) e) (sym (moves.grows c e lc ce) ∙ none)

  falls_surely : (c : ℕ) (e : Edge) → c < m.count → Contains o.edges e → surely_falls m c e ≡ true → o.rise (o.direction c) (o.direction c) e ≤ℤ negsuc 0
  falls_surely c e lc ce falls = sure_fall (o.rise (o.direction c) (o.direction c) e) (sym (moves.falls c e lc ce) ∙ falls)

  -- one level
  level_ranked : (part : List ℕ) (edges : List Edge) (form inner : ℕ → Form) (c : ℕ) (weight low greatest : ℤ) → Known part → EndsIn part edges → Part edges o.edges
      → IsFirst m edges c → Ranked o part (remaining m c edges) inner weight → IsLow o part c low
      → ((k : ℕ) → Contains part k → form k ≡ o.level weight c low (inner k)) → IsGreatest o part form greatest
      → Ranked o part edges form greatest
  level_ranked part edges form inner c weight low greatest known ends sub first r lows is great =
      let k0 = lows.attained.0 in
      let c0 = lows.attained.1 in
      let weighty : pos 0 ≤ℤ weight = omega (arith, ints, r.positive k0 c0, laws.ordered (inner k0) k0 (known k0 c0), r.bounded k0 c0) in
      record {
        positive = λ k ck. subst (λ f. pos 1 ≤ℤ o.lower f k) (sym (is k ck)) (omega (arith, ints, laws.level_lower weight c low (inner k) k (known k ck) weighty (lows.bound k ck), r.positive k ck));
        falls = λ e ce.
            let cf = (ends e ce).0 in
            let ct = (ends e ce).1 in
            let leveled : o.rise (o.level weight c low (inner e.from)) (o.level weight c low (inner e.to)) e ≤ℤ negsuc 0 = elim (cases_Bool (surely_falls m c e)) [
              | inl t ↦ omega (
                arith,
                ints,
                laws.level_falls weight c low (inner e.from) (inner e.to) e (sub e ce) weighty (falls_surely c e first.fits.in_count (sub e ce) t),
                laws.rise_bound (inner e.from) (inner e.to) e (sub e ce),
                r.after_bounded e (sub e ce) ct,
                laws.before_lower (inner e.from) e (sub e ce),
                r.positive e.from cf,
              )
              | inr f ↦ omega (
                arith,
                ints,
                laws.level_keeps weight c low (inner e.from) (inner e.to) e (sub e ce) weighty
                    (never_grows c e first.fits.in_count (sub e ce) (All-contains (λ x. may_grow m c x ≡ false) edges e first.fits.none_grows ce)),
                r.falls e (remaining_in m c edges e ce f),
              )
            ] in
            subst (λ f. o.rise f (form e.to) e ≤ℤ negsuc 0) (sym (is e.from cf)) (subst (λ g. o.rise (o.level weight c low (inner e.from)) g e ≤ℤ negsuc 0) (sym (is e.to ct)) leveled);
        bounded = great.facts;
        after_bounded = great.edges;
      }

  -- all parts of a graph
  graph_ranked : (keys : List ℕ) (edges : List Edge) (form local : ℕ → Form) (total : ℤ) (parts : List (List ℕ)) (greatest offset : ℕ → ℤ) → Known keys → EndsIn keys edges → Part edges o.edges
      → IsComponents edges keys parts
      → ((p : ℕ) → p < length parts → Ranked o (part_at parts p) (inside (part_at parts p) edges) local (greatest p))
      → ((p : ℕ) → p < length parts → IsOffset edges parts greatest offset p)
      → ((p k : ℕ) → p < length parts → Contains (part_at parts p) k → form k ≡ o.shift (local k) (offset p))
      → IsTotal parts greatest offset total
      → Ranked o keys edges form total
  graph_ranked keys edges form local total parts greatest offset known ends sub comps r offs is tot =
      let part_of : (k : ℕ) → Contains keys k → (p : ℕ) × (p < length parts) × Contains (part_at parts p) k =
      λ k ck. let q = comps.covered ck.0 k ck.1 in (q.0, q.1, subst (λ x. Contains (part_at parts q.0) x) ck.2 q.2) in
      record {
        positive = λ k ck. let p = part_of k ck in
            subst (λ f. pos 1 ≤ℤ o.lower f k) (sym (is p.0 k p.1 p.2)) (omega (arith, ints, laws.shift_lower (local k) (offset p.0) k (known k ck), (r p.0 p.1).positive k p.2, (offs p.0 p.1).least));
        falls = λ e ce.
            let p = part_of e.from (ends e ce).0 in
            let q = part_of e.to (ends e ce).1 in
            let shifted : o.rise (o.shift (local e.from) (offset p.0)) (o.shift (local e.to) (offset q.0)) e ≤ℤ negsuc 0 = elim (cases_eq q.0 p.0) [
              | inl same ↦
                  let eo : offset q.0 ≡ offset p.0 = ap offset same in
                  omega (
                    arith,
                    ints,
                    laws.shift_rise (local e.from) (local e.to) (offset p.0) (offset q.0) e (sub e ce),
                    eo,
                    (r p.0 p.1).falls e (inside_in (part_at parts p.0) edges e ce p.2 (subst (λ x. Contains (part_at parts x) e.to) same q.2)),
                  )
              | inr ne ↦ omega (
                arith,
                ints,
                laws.shift_rise (local e.from) (local e.to) (offset p.0) (offset q.0) e (sub e ce),
                laws.rise_bound (local e.from) (local e.to) e (sub e ce),
                (r q.0 q.1).after_bounded e (sub e ce) q.2,
                laws.before_lower (local e.from) e (sub e ce),
                (r p.0 p.1).positive e.from p.2,
                (offs p.0 p.1).bound q.0 e q.1 ne ce p.2 q.2,
              )
            ] in
            subst (λ f. o.rise f (form e.to) e ≤ℤ negsuc 0) (sym (is p.0 e.from p.1 p.2)) (subst (λ g. o.rise (o.shift (local e.from) (offset p.0)) g e ≤ℤ negsuc 0) (sym (is q.0 e.to q.1 q.2)) shifted);
        bounded = λ k ck. let p = part_of k ck in
            subst (λ f. o.upper f k ≤ℤ total) (sym (is p.0 k p.1 p.2)) (omega (arith, ints, laws.shift_upper (local k) (offset p.0) k (known k ck), (r p.0 p.1).bounded k p.2, tot.bound p.0 p.1));
        after_bounded = λ e ca ck. let p = part_of e.to ck in
            subst (λ f. o.after f e ≤ℤ total) (sym (is p.0 e.to p.1 p.2)) (omega (arith, ints, laws.shift_after (local e.to) (offset p.0) e ca, (r p.0 p.1).after_bounded e ca p.2, tot.bound p.0 p.1));
      }

  mutual
    pub numbers_rank : (keys : List ℕ) (edges : List Edge) (form : ℕ → Form) (total : ℤ) (levels : List LevelOf) → HasNumbers Form o m keys edges form total levels
        → Known keys → EndsIn keys edges → Part edges o.edges → Ranked o keys edges form total
    numbers_rank keys edges form total _ (of_parts parts local greatest offset levels comps len have is small lim) known ends sub =
        graph_ranked keys edges form local total parts greatest offset known ends sub comps
        (λ p lp. part_ranks (part_at parts p) (inside (part_at parts p) edges) local (greatest p) (levels_at levels p) (have p lp)
        (λ k ck. known k (All-contains (λ x. Contains keys x) (part_at parts p) k (comps.members p lp) ck)) (ends_inside (part_at parts p) edges) (λ e ce. sub e (of_inside (part_at parts p) edges e ce).0))
        is.offsets is.forms is.greatest_sum

    pub part_ranks : (part : List ℕ) (edges : List Edge) (form : ℕ → Form) (greatest : ℤ) (levels : List LevelOf) → PartNumbers Form o m part edges form greatest levels
        → Known part → EndsIn part edges → Part edges o.edges → Ranked o part edges form greatest
    part_ranks part edges form greatest _ (single none is) known ends sub = record {
      positive = λ k ck. subst (λ f. pos 1 ≤ℤ o.lower f k) (sym (is k ck)) (laws.one_lower k (known k ck));
      falls = λ e ce. absurd (omega (arith, member_some edges e ce));
      bounded = λ k ck. subst (λ f. o.upper f k ≤ℤ pos 1) (sym (is k ck)) (laws.one_upper k (known k ck));
      after_bounded = λ e ca ck. subst (λ f. o.after f e ≤ℤ pos 1) (sym (is e.to ck)) (laws.one_after e ca);
    }
    part_ranks part edges form greatest _ (leveled c weight low inner levels have is small great lim) known ends sub =
        level_ranked part edges form inner c weight low greatest known ends sub is.first
        (numbers_rank part (remaining m c edges) inner weight levels have known (ends_remaining m c part edges ends) (λ e ce. sub e (of_remaining m c edges e ce).0)) is.lowest is.forms great

  -- a total is from 0 to 2^62
  pub total_range : (keys : List ℕ) (edges : List Edge) (form : ℕ → Form) (total : ℤ) (levels : List LevelOf) → HasNumbers Form o m keys edges form total levels
      → Known keys → EndsIn keys edges → Part edges o.edges → 0 < length keys → (pos 0 ≤ℤ total) × (total ≤ℤ limit)
  total_range keys edges form total levels h known ends sub some =
      let r = numbers_rank keys edges form total levels h known ends sub in
      let k : (k : ℕ) × Contains keys k = first_member keys some in
      (omega (arith, ints, r.positive k.0 k.1, laws.ordered (form k.0) k.0 (known k.0 k.1), r.bounded k.0 k.1), total_small keys edges form total levels h)
