-- A variable that stays neither rises nor falls.
use Rattle.std.specs.Prelude.{◌≡◌, ℕ, ℤ, pos, ◌+ℤ◌, ◌*ℤ◌, neg_ℤ, cond, Bool, true, false, ◌&&◌, nat_le, [], ◌∷◌, length}
use Rattle.std.proofs.Common.{refl, arith, ap, ◌∙◌}
use Rattle.std.proofs.lemmas.Int.{ints}
use Rattle.num_domain.specs.Domain.{Domain}
use Rattle.num_domain.specs.Laws.{DomainLaws}
use Rattle.flag_relation.specs.declared.var.Var.{Var}
use Rattle.flag_relation.specs.Forms.{FormOf, var_number, are_terms}
use Rattle.flag_relation.specs.Facts.{FactOf}
use Rattle.abs_step.specs.declared.outcome.Post.{Post}
use Rattle.abs_step.specs.declared.outcome.Post.TheVariants.{Same}
use Rattle.abs_step.specs.OutcomeLists.{OutcomeOf}
use Rattle.rank_form.specs.Weights.{weigh, negated, less}
use Rattle.rank_form.specs.Bounds.{post_at, moved_by, moved, upper, after, rise}
use Rattle.rank_form.specs.Levels.{constant_form, direction}
use Rattle.rank_form.specs.Rates.{no_links, gain, gains}
use Rattle.rank_form.proofs.Alikes.{Alike}
use Rattle.rank_form.proofs.AfterForms.{after_is}
use Rattle.rank_form.proofs.Fitting.{none_more}
use Rattle.rank_form.proofs.Products.{times_zero}
use Rattle.rank_form.proofs.Spellings.{upper_alike}
use Rattle.rank_form.proofs.UpperLaws.{upper_constant}
use Rattle.rank_form.proofs.Weighing.{weigh_append, weigh_negated}

zero_le : (n : ℕ) → nat_le 0 n ≡ true
zero_le n = grind arith

direction_terms : (v : Var) (down : Bool) → are_terms 0 (direction v down).terms ≡ true
unfolding are_terms
direction_terms v true = ap (λ (b : Bool). (b && true) && true) (zero_le (var_number v))
direction_terms v false = ap (λ (b : Bool). (b && true) && true) (zero_le (var_number v))

nothing_left : (w : FormOf) → w.constant ≡ pos 0 → Alike (less w w) (constant_form (pos 0))
unfolding weigh
nothing_left w e = record {
  constant = omega (arith, ints, e, ap (λ z. neg_ℤ (pos 1) *ℤ z) e);
  weighs = λ h. omega (arith, ints, weigh_append h w.terms (negated w).terms, weigh_negated h w.terms);
}

module _ {T : Type 0} (d : Domain T) where
  gained : (x : FactOf T) (p : Post) (v : Var) (c : ℤ) → p ≡ Same → gain d no_links x p v c ≡ pos 0
  gained x p v c e = ap (λ q. gain d no_links x q v c) e ∙ ap (λ z. c *ℤ z) (none_more v) ∙ times_zero c

  gains_one : (o : OutcomeOf T) (v : Var) (c : ℤ) → gains d no_links o.posts o.after ((v, c) ∷ []) ≡ gain d no_links o.after (post_at o.posts v) v c +ℤ pos 0
  unfolding gains
  gains_one o v c = refl

  after_terms : (o : OutcomeOf T) (v : Var) (down : Bool) → post_at o.posts v ≡ Same → (after d (direction v down) o).terms ≡ (direction v down).terms
  unfolding after moved
  after_terms o v down e = ap (λ p. moved_by p v (cond down (pos 1) (neg_ℤ (pos 1))) []) e

  module _ (laws : DomainLaws d) where
    after_constant : (o : OutcomeOf T) (v : Var) (down : Bool) → length o.after.cells ≡ length o.pre.cells → post_at o.posts v ≡ Same → (after d (direction v down) o).constant ≡ pos 0
    after_constant o v down n e =
        let c = cond down (pos 1) (neg_ℤ (pos 1)) in
        omega (arith, ints, after_is d laws (direction v down) o n (direction_terms v down), gains_one o v c, gained o.after (post_at o.posts v) v c e)

    pub still : (o : OutcomeOf T) (v : Var) (down : Bool) → length o.after.cells ≡ length o.pre.cells → post_at o.posts v ≡ Same → rise d (direction v down) (direction v down) o ≡ pos 0
    unfolding rise
    still o v down n e =
        let w = direction v down in
        let constant = after_constant o v down n e in
        let terms = after_terms o v down e in
        let same : after d w o ≡ w = λ i. record { constant = constant i; terms = terms i } in
        ap (λ q. upper d (less q w) o.pre) same ∙ upper_alike d (less w w) (constant_form (pos 0)) o.pre (nothing_left w refl) ∙ upper_constant d (pos 0) o.pre
