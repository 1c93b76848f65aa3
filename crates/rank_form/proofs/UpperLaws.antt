-- Bounds of sums, multiples and like forms over a fact.
use Rattle.std.specs.Prelude.{◌≡◌, ℕ, zero, suc, ℤ, pos, ◌+ℤ◌, ◌*ℤ◌, ◌≤ℤ◌, Bool, true, false, ◌&&◌, List, [], ◌∷◌, ◌++◌, length, IsSomeAnd, IfSome, Option, Some, None}
use Rattle.std.proofs.Common.{refl, arith, sym, ◌∙◌, ap, subst, get_or}
use Rattle.std.proofs.lemmas.Bool.{and_parts, false≢true, not-false}
use Rattle.std.proofs.lemmas.Int.{ints}
use Rattle.viper_word.specs.Words.{IsSigned}
use Rattle.num_domain.specs.Domain.{Domain, Has, Below}
use Rattle.num_domain.specs.Laws.{DomainLaws}
use Rattle.num_domain.specs.Ends.{Ends, Between, Within, ends}
use Rattle.num_domain.proofs.EndsLaws.{ends_has, ends_grow}
use Rattle.flag_relation.specs.declared.link.Link.{Link}
use Rattle.viper_word.specs.declared.reg.Reg.{Reg as Register}
use Rattle.viper_word.specs.declared.reg.Reg.TheVariants.{A, X, Y}
use Rattle.flag_relation.specs.declared.var.Var.{Var}
use Rattle.flag_relation.specs.declared.var.Var.TheVariants.{Reg, Cell}
use Rattle.flag_relation.specs.Values.{Values, Regs}
use Rattle.flag_relation.specs.Facts.{FactOf, values, LinkHolds, LinksHold, Meets}
use Rattle.flag_relation.specs.Order.{BelowValues}
use Rattle.flag_relation.specs.Forms.{FormOf}
use Rattle.flag_relation.proofs.ValueLemmas.{pairwise_length, reg_related, cell_related}
use Rattle.std.proofs.lemmas.List.{get_or_past}
use Rattle.rank_form.specs.Weights.{at, weigh, value, rate, is_at, scaled, scaled_terms, plus, sum_over}
use Rattle.rank_form.specs.Bounds.{placed, place, canonical, most, span, upper}
use Rattle.flag_relation.specs.Emptiness.{are_there, has_ends, regs_have_ends, cells_have_ends, all_have_ends, is_empty}
use Rattle.viper_word.proofs.Products.{times_plus}
use Rattle.rank_form.proofs.Weighing.{weigh_append, weigh_scaled, weigh_renamed, weigh_plus}
use Rattle.rank_form.proofs.Summing.{sum_le, sum_plus, sum_times, sum_same, sum_zero, weigh_rates}
use Rattle.rank_form.proofs.Bounding.{most_bounds, most_plus, most_times, most_zero, most_grows}

-- the second is as large and weighs the same
pub record Under (f g : FormOf) : Type 0 where
  pub constant : f.constant ≤ℤ g.constant
  pub weighs : (h : Var → ℤ) → weigh h f.terms ≡ weigh h g.terms

link_says : (r : Register) (e : Values ℤ) (l : Option Link) → LinkHolds e r l → at (pos 0) e (Reg r) ≡ at (pos 0) e (placed (Reg r) l).var +ℤ (placed (Reg r) l).more
link_says r e None h = omega (arith, ints)
link_says r e (Some l) h = h

links_say : (links : Regs (Option Link)) (e : Values ℤ) → LinksHold links e → (v : Var) → at (pos 0) e v ≡ at (pos 0) e (place links v).var +ℤ (place links v).more
links_say links e h (Reg A) = link_says A e links.a h.a
links_say links e h (Reg X) = link_says X e links.x h.x
links_say links e h (Reg Y) = link_says Y e links.y h.y
links_say links e h (Cell i) = omega (arith, ints)

zero_signed : IsSigned (pos 0)
zero_signed = record { low = omega (arith, ints); high = omega (arith, ints) }

both : (o : Option Ends) (P : Ends → Type 0) → are_there o ≡ true → IfSome o P → IsSomeAnd o P
both None P h k = absurd (false≢true h)
both (Some r) P h k = k

there : (o : Option Ends) (P : Ends → Type 0) → IsSomeAnd o P → are_there o ≡ true
there None P h = absurd h
there (Some r) P h = refl

module _ {T : Type 0} (d : Domain T) where
  -- what a variable weighs in the canonical form
  rate_is : (x : FactOf T) (ts : List (Var × ℤ)) (k : ℤ) (v : Var) → rate (canonical x.links (record { constant = k; terms = ts })).terms v ≡ weigh (λ u. is_at v (place x.links u).var) ts
  rate_is x ts k v = weigh_renamed (is_at v) (λ u. (place x.links u).var) ts

  -- the greatest value, by what the form's own terms weigh
  abbrev pub weighed : FactOf T → FormOf → ℤ
  weighed x f = f.constant +ℤ weigh (λ v. (place x.links v).more) f.terms +ℤ sum_over (length x.cells) (λ v. most (weigh (λ u. is_at v (place x.links u).var) f.terms) (span d x v))

  pub upper_is : (f : FormOf) (x : FactOf T) → upper d f x ≡ weighed x f
  unfolding upper
  upper_is f x = ap (λ z. f.constant +ℤ weigh (λ v. (place x.links v).more) f.terms +ℤ z)
      (sum_same (length x.cells) _ (λ v. most (weigh (λ u. is_at v (place x.links u).var) f.terms) (span d x v)) (λ v. ap (λ c. most c (span d x v)) (rate_is x f.terms f.constant v)))

  pub upper_under : (f g : FormOf) (x : FactOf T) → Under f g → upper d f x ≤ℤ upper d g x
  upper_under f g x h =
      omega (
        arith,
        ints,
        upper_is f x,
        upper_is g x,
        h.constant,
        h.weighs (λ v. (place x.links v).more),
        sum_same (length x.cells) (λ v. most (weigh (λ u. is_at v (place x.links u).var) f.terms) (span d x v)) (λ v. most (weigh (λ u. is_at v (place x.links u).var) g.terms) (span d x v))
            (λ v. ap (λ c. most c (span d x v)) (h.weighs (λ u. is_at v (place x.links u).var))),
      )

  pub upper_plus : (f g : FormOf) (x : FactOf T) → upper d (plus f g) x ≤ℤ (upper d f x +ℤ upper d g x)
  upper_plus f g x =
      let w = λ (v : Var). λ (u : Var). is_at v (place x.links u).var in
      omega (
        arith,
        ints,
        upper_is f x,
        upper_is g x,
        upper_is (plus f g) x,
        weigh_append (λ v. (place x.links v).more) f.terms g.terms,
        sum_le (length x.cells) (λ v. most (weigh (w v) (f.terms ++ g.terms)) (span d x v)) (λ v. most (weigh (w v) f.terms) (span d x v) +ℤ most (weigh (w v) g.terms) (span d x v))
            (λ v. subst (λ c. most c (span d x v) ≤ℤ (most (weigh (w v) f.terms) (span d x v) +ℤ most (weigh (w v) g.terms) (span d x v))) (sym (weigh_append (w v) f.terms g.terms)) (most_plus (weigh (w v) f.terms) (weigh (w v) g.terms) (span d x v))),
        sum_plus (length x.cells) (λ v. most (weigh (w v) f.terms) (span d x v)) (λ v. most (weigh (w v) g.terms) (span d x v)),
      )

  pub upper_scaled : (t : ℤ) (f : FormOf) (x : FactOf T) → pos 0 ≤ℤ t → upper d (scaled t f) x ≤ℤ (t *ℤ upper d f x)
  upper_scaled t f x h =
      let w = λ (v : Var). λ (u : Var). is_at v (place x.links u).var in
      let more = weigh (λ v. (place x.links v).more) f.terms in
      let total = sum_over (length x.cells) (λ v. most (weigh (w v) f.terms) (span d x v)) in
      omega (
        arith,
        ints,
        ap (λ z. t *ℤ z) (upper_is f x),
        upper_is (scaled t f) x,
        weigh_scaled (λ v. (place x.links v).more) t f.terms,
        sum_le (length x.cells) (λ v. most (weigh (w v) (scaled_terms t f.terms)) (span d x v)) (λ v. t *ℤ most (weigh (w v) f.terms) (span d x v))
            (λ v. subst (λ c. most c (span d x v) ≤ℤ (t *ℤ most (weigh (w v) f.terms) (span d x v))) (sym (weigh_scaled (w v) t f.terms)) (most_times t (weigh (w v) f.terms) (span d x v) h)),
        sum_times (length x.cells) t (λ v. most (weigh (w v) f.terms) (span d x v)),
        times_plus t (f.constant +ℤ more) total,
        times_plus t f.constant more,
      )

  -- a form without terms
  none : (k : ℤ) (x : FactOf T) → weighed x (record { constant = k; terms = [] }) ≡ k
  unfolding weigh
  none k x = omega (arith, ints, sum_zero (length x.cells) (λ v. most (pos 0) (span d x v)) (λ v. most_zero (span d x v)))

  pub upper_constant : (k : ℤ) (x : FactOf T) → upper d (record { constant = k; terms = [] }) x ≡ k
  upper_constant k x = upper_is (record { constant = k; terms = [] }) x ∙ none k x

  -- ---- less is known of the larger fact

  at_below : DomainLaws d → (x y : FactOf T) → BelowValues d (values x) (values y) → (v : Var) → Below d (at d.top (values x) v) (at d.top (values y) v)
  at_below laws x y h (Reg r) = reg_related (Below d) (values x) (values y) h r
  at_below laws x y h (Cell i) = cell_related (Below d) d.top d.top (values x) (values y) h (laws.order.refl d.top) i

  -- a fact that isn't empty has ends at each variable
  spans_there : (x : FactOf T) (v : Var) → has_ends d x.a ≡ true → has_ends d x.x ≡ true → has_ends d x.y ≡ true
      → ((i : ℕ) → has_ends d (get_or x.cells i d.top) ≡ true) → are_there (span d x v) ≡ true
  spans_there x (Reg A) a b c h = a
  spans_there x (Reg X) a b c h = b
  spans_there x (Reg Y) a b c h = c
  spans_there x (Cell i) a b c h = h i

  cells_there : (cells : List T) (i : ℕ) (z : T) → cells_have_ends d cells ≡ true → has_ends d z ≡ true → has_ends d (get_or cells i z) ≡ true
  unfolding cells_have_ends
  cells_there [] i z h k = k
  cells_there (c ∷ cells) zero z h k = (and_parts (has_ends d c) (cells_have_ends d cells) h).0
  cells_there (c ∷ cells) (suc i) z h k = cells_there cells i z (and_parts (has_ends d c) (cells_have_ends d cells) h).1 k

  has_all : (x : FactOf T) → is_empty d x ≡ false → all_have_ends d x ≡ true
  unfolding is_empty
  has_all x h = not-false (all_have_ends d x) h

  top_there : DomainLaws d → has_ends d d.top ≡ true
  top_there laws = there (ends d d.top) (λ r. Between r (pos 0)) (ends_has d laws d.top (pos 0) (laws.order.top_has (pos 0) zero_signed))

  span_there : DomainLaws d → (x : FactOf T) → is_empty d x ≡ false → (v : Var) → are_there (span d x v) ≡ true
  span_there laws x h v =
      let p = and_parts (regs_have_ends d (values x).regs) (cells_have_ends d x.cells) (has_all x h) in
      let q = and_parts (has_ends d x.a && has_ends d x.x) (has_ends d x.y) p.0 in
      let r = and_parts (has_ends d x.a) (has_ends d x.x) q.0 in
      spans_there x v r.0 r.1 q.1 (λ i. cells_there x.cells i d.top p.1 (top_there laws))

  span_grows : DomainLaws d → (x y : FactOf T) → BelowValues d (values x) (values y) → is_empty d x ≡ false → (v : Var) → IsSomeAnd (span d x v) (λ r. IsSomeAnd (span d y v) (λ r'. Within r r'))
  span_grows laws x y h full v = both (span d x v) _ (span_there laws x full v) (ends_grow d laws (at d.top (values x) v) (at d.top (values y) v) (at_below laws x y h v))

  -- over the same links, a form's greatest value grows with the values
  pub upper_grows : DomainLaws d → (f : FormOf) (x y : FactOf T) → x.links ≡ y.links → BelowValues d (values x) (values y) → is_empty d x ≡ false → upper d f x ≤ℤ upper d f y
  upper_grows laws f x y e h full =
      let same : upper d f (record y { links = x.links }) ≡ upper d f y = ap (λ l. upper d f (record y { links = l })) e in
      let w = λ (v : Var). λ (u : Var). is_at v (place x.links u).var in
      let more = sum_le (length x.cells) (λ v. most (weigh (w v) f.terms) (span d x v)) (λ v. most (weigh (w v) f.terms) (span d y v)) (λ v. most_grows (weigh (w v) f.terms) (span d x v) (span d y v) (span_grows laws x y h full v)) in
      let long = ap (λ n. sum_over n (λ v. most (weigh (w v) f.terms) (span d y v))) (pairwise_length (Below d) x.cells y.cells h.cells) in
      omega (arith, ints, upper_is f x, upper_is f (record y { links = x.links }), same, more, long)

  -- ---- the bounds hold of states

  pub values_have : DomainLaws d → (x : FactOf T) (e : Values ℤ) (b : Bool) → Meets d x e b → (v : Var) → Has d (at d.top (values x) v) (at (pos 0) e v)
  values_have laws x e b m (Reg r) = reg_related (Has d) (values x) e m.values r
  values_have laws x e b m (Cell i) = cell_related (Has d) d.top (pos 0) (values x) e m.values (laws.order.top_has (pos 0) zero_signed) i

  pub upper_bounds : DomainLaws d → (f : FormOf) (x : FactOf T) (e : Values ℤ) (b : Bool) → Meets d x e b → value f e ≤ℤ upper d f x
  unfolding upper
  upper_bounds laws f x e b m =
      let g = canonical x.links f in
      let n = length x.cells in
      let long = pairwise_length (Has d) x.cells e.cells m.values.cells in
      let split = weigh_plus (at (pos 0) e) (λ v. at (pos 0) e (place x.links v).var) (λ v. (place x.links v).more) f.terms (links_say x.links e m.links) in
      let named = weigh_renamed (at (pos 0) e) (λ v. (place x.links v).var) f.terms in
      let rates = weigh_rates n (at (pos 0) e) g.terms (λ i p. get_or_past e.cells i (pos 0) (omega arith)) in
      let over = sum_le n (λ v. rate g.terms v *ℤ at (pos 0) e v) (λ v. most (rate g.terms v) (span d x v))
      (λ v. most_bounds (rate g.terms v) (span d x v) (at (pos 0) e v) (ends_has d laws (at d.top (values x) v) (at (pos 0) e v) (values_have laws x e b m v))) in
      omega (arith, ints, split, named, rates, over)
