-- Forms after a step: sums, multiples and numbers.
use Rattle.std.specs.Prelude.{◌≡◌, ℤ, pos, ◌+ℤ◌, ◌*ℤ◌, ◌≤ℤ◌, List, ◌++◌, length, Option}
use Rattle.std.proofs.Common.{refl, arith, sym, ap, subst}
use Rattle.std.proofs.lemmas.Int.{ints}
use Rattle.num_domain.specs.Domain.{Domain}
use Rattle.num_domain.specs.Ends.{Ends}
use Rattle.flag_relation.specs.declared.var.Var.{Var}
use Rattle.flag_relation.specs.Forms.{FormOf}
use Rattle.abs_step.specs.declared.outcome.Post.{Post}
use Rattle.abs_step.specs.declared.outcome.Post.TheVariants.{Same, Plus, Within}
use Rattle.rank_form.specs.Weights.{weigh, rate, is_at, scaled, scaled_terms, plus}
use Rattle.abs_step.specs.OutcomeLists.{OutcomeOf}
use Rattle.rank_form.specs.Bounds.{post_at, by_post, added, within, moved, span, remains, after}
use Rattle.rank_form.specs.Levels.{constant_form, shift}
use Rattle.viper_word.proofs.Products.{times_plus}
use Rattle.rank_form.proofs.Products.{times_zero}
use Rattle.rank_form.proofs.Weighing.{weigh_append, weigh_scaled, weigh_moved}
use Rattle.rank_form.proofs.Summing.{sum_le, sum_plus, sum_times, sum_zero}
use Rattle.rank_form.proofs.Bounding.{most_plus, most_times, most_zero}

within_plus : (a b : ℤ) (r : Option Ends) (p : Post) → within (a +ℤ b) r p ≤ℤ (within a r p +ℤ within b r p)
within_plus a b r Same = omega (arith, ints)
within_plus a b r (Plus u n) = omega (arith, ints)
within_plus a b r Within = most_plus a b r

within_times : (t c : ℤ) (r : Option Ends) (p : Post) → pos 0 ≤ℤ t → within (t *ℤ c) r p ≤ℤ (t *ℤ within c r p)
within_times t c r Same h = omega (arith, ints, times_zero t)
within_times t c r (Plus u n) h = omega (arith, ints, times_zero t)
within_times t c r Within h = most_times t c r h

pub within_zero : (r : Option Ends) (p : Post) → within (pos 0) r p ≡ pos 0
within_zero r Same = refl
within_zero r (Plus u n) = refl
within_zero r Within = most_zero r

module _ {T : Type 0} (d : Domain T) (o : OutcomeOf T) where
  -- what is added to terms
  abbrev pub gained : List (Var × ℤ) → ℤ
  gained ts = weigh (λ v. added (post_at o.posts v)) ts

  pub after_constant : (f : FormOf) → (after d f o).constant ≡ (f.constant +ℤ gained f.terms) +ℤ remains d o f.terms
  unfolding after
  after_constant f = refl

  pub after_weighs : (h : Var → ℤ) (f : FormOf) → weigh h (after d f o).terms ≡ weigh (λ v. by_post h (post_at o.posts v) v) f.terms
  unfolding after
  after_weighs h f = weigh_moved h o.posts f.terms

  pub remains_plus : (ts us : List (Var × ℤ)) → remains d o (ts ++ us) ≤ℤ (remains d o ts +ℤ remains d o us)
  remains_plus ts us =
      let n = length o.pre.cells in
      let w = λ (c : ℤ) (v : Var). within c (span d o.after v) (post_at o.posts v) in
      omega (
        arith,
        ints,
        sum_le n (λ v. w (rate (ts ++ us) v) v) (λ v. w (rate ts v) v +ℤ w (rate us v) v)
            (λ v. subst (λ c. w c v ≤ℤ (w (rate ts v) v +ℤ w (rate us v) v)) (sym (weigh_append (is_at v) ts us)) (within_plus (rate ts v) (rate us v) (span d o.after v) (post_at o.posts v))),
        sum_plus n (λ v. w (rate ts v) v) (λ v. w (rate us v) v),
      )

  pub remains_scaled : (t : ℤ) (ts : List (Var × ℤ)) → pos 0 ≤ℤ t → remains d o (scaled_terms t ts) ≤ℤ (t *ℤ remains d o ts)
  remains_scaled t ts h =
      let n = length o.pre.cells in
      let w = λ (c : ℤ) (v : Var). within c (span d o.after v) (post_at o.posts v) in
      omega (
        arith,
        ints,
        sum_le n (λ v. w (rate (scaled_terms t ts) v) v) (λ v. t *ℤ w (rate ts v) v)
            (λ v. subst (λ c. w c v ≤ℤ (t *ℤ w (rate ts v) v)) (sym (weigh_scaled (is_at v) t ts)) (within_times t (rate ts v) (span d o.after v) (post_at o.posts v) h)),
        sum_times n t (λ v. w (rate ts v) v),
      )

  -- a multiple of one form and another one, after the step
  pub after_stacked : (t : ℤ) (w f : FormOf) → pos 0 ≤ℤ t → (after d (plus (scaled t w) f) o).constant ≤ℤ ((t *ℤ (after d w o).constant) +ℤ (after d f o).constant)
  after_stacked t w f h =
      omega (
        arith,
        ints,
        after_constant (plus (scaled t w) f),
        after_constant f,
        ap (λ z. t *ℤ z) (after_constant w),
        times_plus t (w.constant +ℤ gained w.terms) (remains d o w.terms),
        times_plus t w.constant (gained w.terms),
        remains_plus (scaled_terms t w.terms) f.terms,
        remains_scaled t w.terms h,
        weigh_append (λ v. added (post_at o.posts v)) (scaled_terms t w.terms) f.terms,
        weigh_scaled (λ v. added (post_at o.posts v)) t w.terms,
      )

  pub after_shift : (f : FormOf) (n : ℤ) → after d (shift f n) o ≡ shift (after d f o) n
  unfolding after
  after_shift f n = ap (λ k. record { constant = k; terms = moved o.posts f.terms }) (omega (arith, ints))

  pub after_constant_form : (n : ℤ) → after d (constant_form n) o ≡ constant_form n
  unfolding after weigh moved
  after_constant_form n = ap constant_form (omega (arith, ints, sum_zero (length o.pre.cells) (λ v. within (pos 0) (span d o.after v) (post_at o.posts v)) (λ v. within_zero (span d o.after v) (post_at o.posts v))))
