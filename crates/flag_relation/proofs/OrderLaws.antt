-- Inclusion of facts is an order, its test says so, and the height falls where a fact grows.
use Rattle.std.specs.Prelude.{◌≡◌, ℤ, ◌<◌, ◌≤◌, ◌↔◌, IsTrue, Bool, true, false, ◌&&◌, List, [], ◌∷◌, length, Option, Some, None}
use Rattle.std.proofs.Common.{refl, arith, subst, sym, ◌∙◌, ap, ⊎_elim}
use Rattle.std.proofs.Math.Path.{ap₂}
use Rattle.std.proofs.lemmas.Bool.{and_parts, and_from, and_cases, false≢true, cases_Bool}
use Rattle.num_domain.specs.Domain.{Domain, Below}
use Rattle.num_domain.specs.Laws.{DomainLaws}
use Rattle.flag_relation.specs.declared.link.Link.{Link}
use Rattle.flag_relation.specs.declared.flag.Flag.{Flag}
use Rattle.flag_relation.specs.declared.flag.Flag.TheVariants.{Any, One, Or}
use Rattle.flag_relation.specs.Values.{Values, Regs, RelatedRegs, Pairwise}
use Rattle.flag_relation.specs.Facts.{FactOf, values, Meets}
use Rattle.flag_relation.specs.Order.{LinkBelow, LinksBelow, FlagBelow, BelowFact, link_includes, links_include, flag_includes, regs_include, cells_include, includes}
use Rattle.flag_relation.specs.Heights.{link_height, links_height, flag_height, cells_height, height}
use Rattle.flag_relation.specs.Joins.{join}
use Rattle.flag_relation.proofs.Refiners.{values_refl, values_trans, values_has}
use Rattle.flag_relation.proofs.JoinLaws.{join_left, join_right, join_least}
use Rattle.flag_relation.proofs.FlagLaws.{link_same, atoms_same, links_below_from, links_below_to, flag_below_from, flag_below_to, links_below_refl, flag_below_refl, links_below_trans, flag_below_trans, link_antisym, flag_antisym, links_say, flag_says, links_left, links_right, links_least, flags_left, flags_right, flags_least}

-- ---- heights of links and flags

link_low : (l k : Option Link) → LinkBelow l k → link_height k ≤ link_height l
link_low l None h = omega arith
link_low l (Some k) h = subst (λ (o : Option Link). 1 ≤ link_height o) (sym h) (omega arith)

link_falls : (l k : Option Link) → LinkBelow l k → link_includes l k ≡ false → link_height k < link_height l
link_falls None None h e = absurd (false≢true (sym e))
link_falls (Some l) None h e = omega arith
link_falls l (Some k) h e = absurd (false≢true (sym e ∙ subst (λ (o : Option Link). link_includes o (Some k) ≡ true) (sym h) (link_same k)))

flag_low : (f g : Flag) → FlagBelow f g → flag_height g ≤ flag_height f
flag_low f Any h = omega arith
flag_low f One h = subst (λ (o : Flag). 1 ≤ flag_height o) (sym h) (omega arith)
flag_low f (Or l) h = subst (λ (o : Flag). 1 ≤ flag_height o) (sym h) (omega arith)

flag_falls : (f g : Flag) → FlagBelow f g → flag_includes f g ≡ false → flag_height g < flag_height f
flag_falls Any Any h e = absurd (false≢true (sym e))
flag_falls One Any h e = omega arith
flag_falls (Or l) Any h e = omega arith
flag_falls f One h e = absurd (false≢true (sym e ∙ subst (λ (o : Flag). flag_includes o One ≡ true) (sym h) refl))
flag_falls f (Or l) h e = absurd (false≢true (sym e ∙ subst (λ (o : Flag). flag_includes o (Or l) ≡ true) (sym h) (atoms_same l)))

-- which of four tests failed
four_cases : {P : Type 0} (a b c d : Bool) → (a && b && c && d) ≡ false → (a ≡ false → P) → (b ≡ false → P) → (c ≡ false → P) → (d ≡ false → P) → P
four_cases false b c d h p q r s = p refl
four_cases true false c d h p q r s = q refl
four_cases true true false d h p q r s = r refl
four_cases true true true d h p q r s = s h

three_cases : {P : Type 0} (a b c : Bool) → (a && b && c) ≡ false → (a ≡ false → P) → (b ≡ false → P) → (c ≡ false → P) → P
three_cases false b c h p q r = p refl
three_cases true false c h p q r = q refl
three_cases true true c h p q r = r h

links_low : (l k : Regs (Option Link)) → LinksBelow l k → links_height k ≤ links_height l
links_low l k h =
    let a = link_low l.a k.a h.a in
    let x = link_low l.x k.x h.x in
    let y = link_low l.y k.y h.y in omega arith

links_fall : (l k : Regs (Option Link)) → LinksBelow l k → links_include l k ≡ false → links_height k < links_height l
links_fall l k h e =
    let a = link_low l.a k.a h.a in
    let x = link_low l.x k.x h.x in
    let y = link_low l.y k.y h.y in
    three_cases (link_includes l.a k.a) (link_includes l.x k.x) (link_includes l.y k.y) e
    (λ t. let s = link_falls l.a k.a h.a t in omega arith)
    (λ t. let s = link_falls l.x k.x h.x t in omega arith)
    (λ t. let s = link_falls l.y k.y h.y t in omega arith)

module _ {T : Type 0} (d : Domain T) where
  below : (v w : T) → d.includes w v ≡ true → Below d v w
  below v w h = record { holds = h }

  cells_from : (vs ws : List T) → cells_include d ws vs ≡ true → Pairwise (Below d) vs ws
  unfolding cells_include
  cells_from [] [] h = tt
  cells_from (v ∷ vs) [] h = absurd (false≢true h)
  cells_from [] (w ∷ ws) h = absurd (false≢true h)
  cells_from (v ∷ vs) (w ∷ ws) h = let p = and_parts (d.includes w v) (cells_include d ws vs) h in (below v w p.0, cells_from vs ws p.1)

  cells_to : (vs ws : List T) → Pairwise (Below d) vs ws → cells_include d ws vs ≡ true
  unfolding cells_include
  cells_to [] [] h = refl
  cells_to (v ∷ vs) [] h = absurd h
  cells_to [] (w ∷ ws) h = absurd h
  cells_to (v ∷ vs) (w ∷ ws) h = and_from (d.includes w v) (cells_include d ws vs) h.0.holds (cells_to vs ws h.1)

  regs_from : (v w : Regs T) → regs_include d w v ≡ true → RelatedRegs (Below d) v w
  regs_from v w h =
      let p = and_parts (d.includes w.a v.a && d.includes w.x v.x) (d.includes w.y v.y) h in
      let q = and_parts (d.includes w.a v.a) (d.includes w.x v.x) p.0 in
      record { a = below v.a w.a q.0; x = below v.x w.x q.1; y = below v.y w.y p.1 }

  regs_to : (v w : Regs T) → RelatedRegs (Below d) v w → regs_include d w v ≡ true
  regs_to v w h = and_from _ _ (and_from _ _ h.a.holds h.x.holds) h.y.holds

  fact_from : (f g : FactOf T) → includes d g f ≡ true → BelowFact d f g
  unfolding includes
  fact_from f g h =
      let p = and_parts (regs_include d (values g).regs (values f).regs && cells_include d g.cells f.cells && links_include g.links f.links) (flag_includes g.flag f.flag) h in
      let q = and_parts (regs_include d (values g).regs (values f).regs && cells_include d g.cells f.cells) (links_include g.links f.links) p.0 in
      let r = and_parts (regs_include d (values g).regs (values f).regs) (cells_include d g.cells f.cells) q.0 in
      record {
        values = record { regs = regs_from (values f).regs (values g).regs r.0; cells = cells_from f.cells g.cells r.1 };
        links = links_below_from f.links g.links q.1;
        flag = flag_below_from f.flag g.flag p.1;
      }

  fact_to : (f g : FactOf T) → BelowFact d f g → includes d g f ≡ true
  unfolding includes
  fact_to f g h =
      and_from _ _ (and_from _ _ (and_from _ _ (regs_to (values f).regs (values g).regs h.values.regs) (cells_to f.cells g.cells h.values.cells)) (links_below_to f.links g.links h.links)) (flag_below_to f.flag g.flag h.flag)

  pub fact_test : (f g : FactOf T) → IsTrue (includes d g f) ↔ BelowFact d f g
  fact_test f g = (fact_from f g, fact_to f g)

  module _ (laws : DomainLaws d) where
    cells_antisym : (vs ws : List T) → Pairwise (Below d) vs ws → Pairwise (Below d) ws vs → vs ≡ ws
    cells_antisym [] [] h k = refl
    cells_antisym (v ∷ vs) [] h k = absurd h
    cells_antisym [] (w ∷ ws) h k = absurd h
    cells_antisym (v ∷ vs) (w ∷ ws) h k = ap₂ (λ (x : T) (xs : List T). x ∷ xs) (laws.order.antisym v w h.0 k.0) (cells_antisym vs ws h.1 k.1)

    links_antisym : (l k : Regs (Option Link)) → LinksBelow l k → LinksBelow k l → l ≡ k
    links_antisym l k h g =
        let a = link_antisym l.a k.a h.a g.a in
        let x = link_antisym l.x k.x h.x g.x in
        let y = link_antisym l.y k.y h.y g.y in
        λ i. record { a = a i; x = x i; y = y i }

    pub fact_antisym : (f g : FactOf T) → BelowFact d f g → BelowFact d g f → f ≡ g
    fact_antisym f g h k =
        let a = laws.order.antisym f.a g.a h.values.regs.a k.values.regs.a in
        let x = laws.order.antisym f.x g.x h.values.regs.x k.values.regs.x in
        let y = laws.order.antisym f.y g.y h.values.regs.y k.values.regs.y in
        let cells = cells_antisym f.cells g.cells h.values.cells k.values.cells in
        let links = links_antisym f.links g.links h.links k.links in
        let flag = flag_antisym f.flag g.flag h.flag k.flag in
        λ i. record { a = a i; x = x i; y = y i; cells = cells i; links = links i; flag = flag i }

    pub fact_refl : (f : FactOf T) → BelowFact d f f
    fact_refl f = record { values = values_refl d laws (values f); links = links_below_refl f.links; flag = flag_below_refl f.flag }

    pub fact_trans : (f g h : FactOf T) → BelowFact d f g → BelowFact d g h → BelowFact d f h
    fact_trans f g h p q = record {
      values = values_trans d laws (values f) (values g) (values h) p.values q.values;
      links = links_below_trans f.links g.links h.links p.links q.links;
      flag = flag_below_trans f.flag g.flag h.flag p.flag q.flag;
    }

    -- a state that meets a fact meets each fact that includes it
    pub fact_meets : (f g : FactOf T) (e : Values ℤ) (b : Bool) → BelowFact d f g → Meets d f e b → Meets d g e b
    fact_meets f g e b h k = record {
      values = values_has d laws (values f) (values g) e h.values k.values;
      links = links_say f.links g.links e h.links k.links;
      flag = flag_says f.flag g.flag e b h.flag k.flag;
    }

    -- ---- the join

    pub facts_left : (f g : FactOf T) → length f.cells ≡ length g.cells → BelowFact d f (join d f g)
    unfolding join
    facts_left f g e = record { values = join_left d laws (values f) (values g) e; links = links_left f.links g.links; flag = flags_left f.flag g.flag }

    pub facts_right : (f g : FactOf T) → length f.cells ≡ length g.cells → BelowFact d g (join d f g)
    unfolding join
    facts_right f g e = record { values = join_right d laws (values f) (values g) e; links = links_right f.links g.links; flag = flags_right f.flag g.flag }

    pub facts_least : (f g h : FactOf T) → BelowFact d f h → BelowFact d g h → BelowFact d (join d f g) h
    unfolding join
    facts_least f g h p q = record {
      values = join_least d laws (values f) (values g) (values h) p.values q.values;
      links = links_least f.links g.links h.links p.links q.links;
      flag = flags_least f.flag g.flag h.flag p.flag q.flag;
    }

    cells_same_length : (vs ws : List T) → Pairwise (Below d) vs ws → length ws ≡ length vs
    cells_same_length [] [] h = refl
    cells_same_length (v ∷ vs) [] h = absurd h
    cells_same_length [] (w ∷ ws) h = absurd h
    cells_same_length (v ∷ vs) (w ∷ ws) h = let e = cells_same_length vs ws h.1 in omega arith

    -- joining what is included changes nothing
    pub facts_same : (f g : FactOf T) → includes d f g ≡ true → join d f g ≡ f
    facts_same f g h =
        let b = fact_from g f h in
        fact_antisym (join d f g) f (facts_least f g f (fact_refl f) b) (facts_left f g (cells_same_length g.cells f.cells b.values.cells))

    -- joining what isn't included does
    pub facts_change : (f g : FactOf T) → length f.cells ≡ length g.cells → includes d f g ≡ false → join d f g ≡ f → ⊥
    facts_change f g e h k = false≢true (sym h ∙ fact_to g f (subst (λ (x : FactOf T). BelowFact d g x) k (facts_right f g e)))

    -- ---- the height

    value_low : (v w : T) → Below d v w → d.height w ≤ d.height v
    value_low v w h =
        ⊎_elim (λ (e : d.includes v w ≡ true). let same = ap d.height (laws.order.antisym v w h (below w v e)) in omega arith)
        (λ (e : d.includes v w ≡ false). let less = laws.order.height_falls v w h e in omega arith) (cases_Bool (d.includes v w))

    cells_low : (vs ws : List T) → Pairwise (Below d) vs ws → cells_height d ws ≤ cells_height d vs
    unfolding cells_height
    cells_low [] [] h = omega arith
    cells_low (v ∷ vs) [] h = absurd h
    cells_low [] (w ∷ ws) h = absurd h
    cells_low (v ∷ vs) (w ∷ ws) h = let a = value_low v w h.0 in let b = cells_low vs ws h.1 in omega arith

    cells_fall : (vs ws : List T) → Pairwise (Below d) vs ws → cells_include d vs ws ≡ false → cells_height d ws < cells_height d vs
    unfolding cells_include cells_height
    cells_fall [] [] h e = absurd (false≢true (sym e))
    cells_fall (v ∷ vs) [] h e = absurd h
    cells_fall [] (w ∷ ws) h e = absurd h
    cells_fall (v ∷ vs) (w ∷ ws) h e =
        let a = value_low v w h.0 in
        let b = cells_low vs ws h.1 in
        ⊎_elim (λ (t : d.includes v w ≡ false). let less = laws.order.height_falls v w h.0 t in omega arith)
        (λ (t : cells_include d vs ws ≡ false). let less = cells_fall vs ws h.1 t in omega arith) (and_cases _ _ e)

    pub fact_falls : (f g : FactOf T) → BelowFact d f g → includes d f g ≡ false → height d g < height d f
    unfolding includes height
    fact_falls f g h e =
        let a = value_low f.a g.a h.values.regs.a in
        let x = value_low f.x g.x h.values.regs.x in
        let y = value_low f.y g.y h.values.regs.y in
        let c = cells_low f.cells g.cells h.values.cells in
        let l = links_low f.links g.links h.links in
        let b = flag_low f.flag g.flag h.flag in
        four_cases (regs_include d (values f).regs (values g).regs) (cells_include d f.cells g.cells) (links_include f.links g.links) (flag_includes f.flag g.flag) e
        (λ t. three_cases (d.includes f.a g.a) (d.includes f.x g.x) (d.includes f.y g.y) t
        (λ u. let s = laws.order.height_falls f.a g.a h.values.regs.a u in omega arith)
        (λ u. let s = laws.order.height_falls f.x g.x h.values.regs.x u in omega arith)
        (λ u. let s = laws.order.height_falls f.y g.y h.values.regs.y u in omega arith))
        (λ t. let s = cells_fall f.cells g.cells h.values.cells t in omega arith)
        (λ t. let s = links_fall f.links g.links h.links t in omega arith)
        (λ t. let s = flag_falls f.flag g.flag h.flag t in omega arith)
