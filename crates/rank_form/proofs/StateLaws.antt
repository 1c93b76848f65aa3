-- Forms lie between their bounds at states that meet a fact, and rise by no more than their bound along an outcome.
use Rattle.std.specs.Prelude.{◌≡◌, ℕ, zero, suc, ℤ, pos, ◌+ℤ◌, ◌-ℤ◌, ◌*ℤ◌, neg_ℤ, ◌≤ℤ◌, Bool, List, [], ◌∷◌, length, Option}
use Rattle.std.proofs.Common.{refl, arith, sym, ◌∙◌, ap, get_or}
use Rattle.std.proofs.lemmas.Int.{ints}
use Rattle.std.proofs.lemmas.List.{get_or_past}
use Rattle.num_domain.specs.Domain.{Domain, Has}
use Rattle.num_domain.specs.Laws.{DomainLaws}
use Rattle.num_domain.specs.Ends.{Ends, Between}
use Rattle.num_domain.proofs.EndsLaws.{ends_has}
use Rattle.flag_relation.specs.declared.var.Var.{Var}
use Rattle.flag_relation.specs.declared.var.Var.TheVariants.{Reg, Cell}
use Rattle.flag_relation.specs.Values.{Values}
use Rattle.flag_relation.specs.Facts.{FactOf, values, Meets}
use Rattle.flag_relation.specs.Forms.{FormOf}
use Rattle.flag_relation.proofs.ValueLemmas.{pairwise_length}
use Rattle.std.specs.Prelude.{IsSomeAnd}
use Rattle.abs_step.specs.declared.outcome.Post.{Post}
use Rattle.abs_step.specs.declared.outcome.Post.TheVariants.{Same, Plus, Within}
use Rattle.viper_word.specs.declared.reg.Reg.TheVariants.{A, X, Y}
use Rattle.rank_form.specs.Weights.{at, rate, value, negated, less, merged}
use Rattle.viper_word.proofs.Integers.{le_true}
use Rattle.rank_form.proofs.Merging.{merged_alike}
use Rattle.rank_form.proofs.Spellings.{negated_alike, upper_alike, rise_alike}
use Rattle.abs_step.specs.OutcomeLists.{OutcomeOf}
use Rattle.rank_form.specs.Bounds.{post_at, by_post, added, within, span, lower, after, rise}
use Rattle.abs_step.specs.Posts.{var_number as number_of, PostHolds, CellPosts, PostsHold}
use Rattle.rank_form.specs.Laws.{IsStepOf, BoundLaws}
use Rattle.rank_form.proofs.Products.{times_minus, times_zero}
use Rattle.rank_form.proofs.Weighing.{weigh_append, weigh_negated, weigh_plus}
use Rattle.rank_form.proofs.Summing.{sum_le, weigh_rates}
use Rattle.rank_form.proofs.Bounding.{most_bounds}
use Rattle.rank_form.proofs.UpperLaws.{values_have, upper_bounds}
use Rattle.rank_form.proofs.AfterLaws.{after_constant, after_weighs}

-- the number after a step where nothing else is known of it
abbrev unknown : Post → ℤ → ℤ
unknown Same k = pos 0
unknown (Plus u n) k = pos 0
unknown Within k = k

known_zero : (p : Post) → unknown p (pos 0) ≡ pos 0
known_zero Same = refl
known_zero (Plus u n) = refl
known_zero Within = refl

same_at : (e : Values ℤ) (u : Var) → number_of e u ≡ at (pos 0) e u
same_at e (Reg r) = refl
same_at e (Cell i) = refl

post_says : (e : Values ℤ) (v : Var) (p : Post) (new : ℤ) → PostHolds e p (at (pos 0) e v) new → new ≡ by_post (at (pos 0) e) p v +ℤ (added p +ℤ unknown p new)
post_says e v Same new h = omega (arith, ints, h)
post_says e v (Plus u n) new h = omega (arith, ints, h, same_at e u)
post_says e v Within new h = omega (arith, ints)

cell_post : (e : Values ℤ) (ps : List Post) (ns ms : List ℤ) (i : ℕ) → CellPosts e ps ns ms → PostHolds e (get_or ps i Same) (get_or ns i (pos 0)) (get_or ms i (pos 0))
cell_post e [] [] [] i h = refl
cell_post e [] [] (m ∷ ms) i h = absurd h
cell_post e [] (n ∷ ns) ms i h = absurd h
cell_post e (p ∷ ps) [] ms i h = absurd h
cell_post e (p ∷ ps) (n ∷ ns) [] i h = absurd h
cell_post e (p ∷ ps) (n ∷ ns) (m ∷ ms) zero h = h.0
cell_post e (p ∷ ps) (n ∷ ns) (m ∷ ms) (suc i) h = cell_post e ps ns ms i h.1

each_post : (ps : Values Post) (e e' : Values ℤ) → PostsHold ps e e' → (v : Var) → PostHolds e (post_at ps v) (at (pos 0) e v) (at (pos 0) e' v)
each_post ps e e' h (Reg A) = h.a
each_post ps e e' h (Reg X) = h.x
each_post ps e e' h (Reg Y) = h.y
each_post ps e e' h (Cell i) = cell_post e ps.cells e.cells e'.cells i h.cells

as_many : (e : Values ℤ) (ps : List Post) (ns ms : List ℤ) → CellPosts e ps ns ms → length ns ≡ length ms
as_many e [] [] [] h = refl
as_many e [] [] (m ∷ ms) h = absurd h
as_many e [] (n ∷ ns) ms h = absurd h
as_many e (p ∷ ps) [] ms h = absurd h
as_many e (p ∷ ps) (n ∷ ns) [] h = absurd h
as_many e (p ∷ ps) (n ∷ ns) (m ∷ ms) h = ap suc (as_many e ps ns ms h.1)

within_bounds : (c k : ℤ) (r : Option Ends) (p : Post) → IsSomeAnd r (λ s. Between s k) → (c *ℤ unknown p k) ≤ℤ within c r p
within_bounds c k r Same h = omega (arith, ints, times_zero c)
within_bounds c k r (Plus u n) h = omega (arith, ints, times_zero c)
within_bounds c k r Within h = most_bounds c r k h

value_less : (f g : FormOf) (e : Values ℤ) → value (less f g) e ≡ value f e -ℤ value g e
value_less f g e = omega (arith, ints, weigh_append (at (pos 0) e) f.terms (negated g).terms, weigh_negated (at (pos 0) e) g.terms, times_minus g.constant)

value_negated : (f : FormOf) (e : Values ℤ) → value (negated f) e ≡ neg_ℤ (value f e)
value_negated f e = omega (arith, ints, weigh_negated (at (pos 0) e) f.terms, times_minus f.constant)

module _ {T : Type 0} (d : Domain T) (laws : DomainLaws d) where
  lower_bounds : (f : FormOf) (x : FactOf T) (e : Values ℤ) (b : Bool) → Meets d x e b → lower d f x ≤ℤ value f e
  lower_bounds f x e b m = omega (arith, ints, upper_bounds d laws (negated f) x e b m, value_negated f e)

  -- the form after the step, at the numbers before it, is at least the form at the numbers after it
  after_bounds : (g : FormOf) (o : OutcomeOf T) (e e' : Values ℤ) (b' : Bool) → Meets d o.after e' b' → length e.cells ≡ length o.pre.cells → PostsHold o.posts e e'
      → value g e' ≤ℤ value (after d g o) e
  after_bounds g o e e' b' m same posts =
      let n = length o.pre.cells in
      let many = as_many e o.posts.cells e.cells e'.cells posts.cells in
      let rest = λ (v : Var). unknown (post_at o.posts v) (at (pos 0) e' v) in
      let first = weigh_plus (at (pos 0) e') (λ v. by_post (at (pos 0) e) (post_at o.posts v) v) (λ v. added (post_at o.posts v) +ℤ rest v) g.terms
      (λ v. post_says e v (post_at o.posts v) (at (pos 0) e' v) (each_post o.posts e e' posts v)) in
      let second = weigh_plus (λ v. added (post_at o.posts v) +ℤ rest v) (λ v. added (post_at o.posts v)) rest g.terms (λ v. refl) in
      let rates = weigh_rates n rest g.terms (λ i p. ap (unknown (post_at o.posts (Cell i))) (get_or_past e'.cells i (pos 0) (omega arith)) ∙ known_zero (post_at o.posts (Cell i))) in
      let over = sum_le n (λ v. rate g.terms v *ℤ rest v) (λ v. within (rate g.terms v) (span d o.after v) (post_at o.posts v))
      (λ v. within_bounds (rate g.terms v) (at (pos 0) e' v) (span d o.after v) (post_at o.posts v) (ends_has d laws (at d.top (values o.after) v) (at (pos 0) e' v) (values_have d laws o.after e' b' m v))) in
      omega (arith, ints, first, second, rates, over, after_constant d o g, after_weighs d o (at (pos 0) e) g)

  rise_bounds : (f g : FormOf) (o : OutcomeOf T) (e e' : Values ℤ) → IsStepOf d o e e' → (value g e' -ℤ value f e) ≤ℤ rise d f g o
  unfolding rise
  rise_bounds f g o e e' h =
      let long = pairwise_length (Has d) o.pre.cells e.cells h.before.1.values.cells in
      omega (
        arith,
        ints,
        upper_bounds d laws (less (after d g o) f) o.pre e h.before.0 h.before.1,
        value_less (after d g o) f e,
        after_bounds g o e e' h.after.0 h.after.1 (sym long) h.posts,
      )

  pub bound_laws : BoundLaws d
  bound_laws = record {
    over = upper_bounds d laws;
    under = lower_bounds;
    rises = rise_bounds;
    falls = λ f g o e e' price h k. omega (arith, ints, rise_bounds f g o e e' h, le_true (rise d f g o) (neg_ℤ (pos price)) k);
    merged_upper = λ f x. upper_alike d (merged f) f x (merged_alike f);
    merged_lower = λ f x. ap neg_ℤ (upper_alike d (negated (merged f)) (negated f) x (negated_alike (merged f) f (merged_alike f)));
    merged_rise = λ f g o. rise_alike d (merged f) f (merged g) g o (merged_alike f) (merged_alike g);
  }
