-- Forms without terms are numbers: so are their bounds, over any fact and any outcome.
use Rattle.std.specs.Prelude.{◌≡◌, ℕ, ℤ, pos, ◌+ℤ◌, ◌-ℤ◌, ◌*ℤ◌, neg_ℤ, true, ◌==◌, List, [], ◌∷◌, length, Option}
use Rattle.std.proofs.Common.{refl, arith, sym, subst}
use Rattle.std.proofs.lemmas.Bool.{eqb-true}
use Rattle.std.proofs.lemmas.Int.{ints}
use Rattle.num_domain.specs.Domain.{Domain}
use Rattle.num_domain.specs.Ends.{Ends}
use Rattle.flag_relation.specs.declared.var.Var.{Var}
use Rattle.flag_relation.specs.Facts.{FactOf}
use Rattle.flag_relation.specs.Forms.{FormOf}
use Rattle.abs_step.specs.declared.outcome.Post.{Post}
use Rattle.abs_step.specs.declared.outcome.Post.TheVariants.{Same, Plus, Within}
use Rattle.abs_step.specs.OutcomeLists.{OutcomeOf}
use Rattle.rank_form.specs.Weights.{weigh, negated}
use Rattle.rank_form.specs.Bounds.{most, span, post_at, within, moved, upper, lower, remains, after, rise}
use Rattle.rank_form.proofs.Summing.{sum_zero}
use Rattle.rank_form.proofs.Bounding.{most_zero}

within_zero : (r : Option Ends) (p : Post) → within (pos 0) r p ≡ pos 0
within_zero r Same = refl
within_zero r (Plus u n) = refl
within_zero r Within = most_zero r

pub no_terms : (ts us : List (Var × ℤ)) → true ≡ (length ts == 0) → ts ≡ us → us ≡ []
no_terms [] us h e = sym e
no_terms (t ∷ ts) us h e = absurd (omega (arith, eqb-true (length (t ∷ ts)) 0 (sym h)))

module _ {T : Type 0} (d : Domain T) where
  number : ℤ → FormOf
  number c = record { constant = c; terms = [] }

  upper_number : (c : ℤ) (x : FactOf T) → upper d (number c) x ≡ c
  unfolding upper weigh number
  upper_number c x =
      omega (arith, ints, sum_zero (length x.cells) (λ v. most (pos 0) (span d x v)) (λ v. most_zero (span d x v)))

  pub upper_of_number : (f : FormOf) (x : FactOf T) → f.terms ≡ [] → upper d f x ≡ f.constant
  unfolding number
  upper_of_number f x e =
      subst (λ (ts : List (Var × ℤ)). upper d (record { constant = f.constant; terms = ts }) x ≡ f.constant) (sym e)
      (upper_number f.constant x)

  lower_number : (c : ℤ) (x : FactOf T) → lower d (number c) x ≡ c
  unfolding number
  lower_number c x = omega (arith, ints, upper_number (neg_ℤ (pos 1) *ℤ c) x)

  pub lower_of_number : (f : FormOf) (x : FactOf T) → f.terms ≡ [] → lower d f x ≡ f.constant
  unfolding number
  lower_of_number f x e =
      subst (λ (ts : List (Var × ℤ)). lower d (record { constant = f.constant; terms = ts }) x ≡ f.constant) (sym e)
      (lower_number f.constant x)

  remains_none : (o : OutcomeOf T) → remains d o [] ≡ pos 0
  unfolding weigh
  remains_none o =
      sum_zero (length o.pre.cells) (λ v. within (pos 0) (span d o.after v) (post_at o.posts v))
      (λ v. within_zero (span d o.after v) (post_at o.posts v))

  rise_number : (b c : ℤ) (o : OutcomeOf T) → rise d (number b) (number c) o ≡ c -ℤ b
  unfolding rise after moved weigh number
  rise_number b c o =
      omega (arith, ints, remains_none o, upper_number ((c +ℤ pos 0 +ℤ remains d o []) +ℤ (neg_ℤ (pos 1) *ℤ b)) o.pre)

  pub rise_of_numbers : (f g : FormOf) (o : OutcomeOf T) → f.terms ≡ [] → g.terms ≡ [] → rise d f g o ≡ g.constant -ℤ f.constant
  unfolding number
  rise_of_numbers f g o e h =
      subst (λ (ts : List (Var × ℤ)). rise d (record { constant = f.constant; terms = ts }) g o ≡ g.constant -ℤ f.constant) (sym e)
      (subst (λ (us : List (Var × ℤ)). rise d (number f.constant) (record { constant = g.constant; terms = us }) o ≡ g.constant -ℤ f.constant) (sym h)
      (rise_number f.constant g.constant o))
