-- All bounds are the same for two spellings of one form.
use Rattle.std.specs.Prelude.{◌≡◌, pos, ◌*ℤ◌, neg_ℤ, length}
use Rattle.std.proofs.Common.{arith, sym, ◌∙◌, ap}
use Rattle.std.proofs.lemmas.Int.{ints}
use Rattle.num_domain.specs.Domain.{Domain}
use Rattle.flag_relation.specs.Facts.{FactOf}
use Rattle.flag_relation.specs.Forms.{FormOf}
use Rattle.rank_form.proofs.Alikes.{Alike}
use Rattle.rank_form.specs.Weights.{is_at, rate, less, negated}
use Rattle.abs_step.specs.OutcomeLists.{OutcomeOf}
use Rattle.rank_form.specs.Bounds.{post_at, by_post, added, within, span, upper, after, rise}
use Rattle.rank_form.proofs.Products.{times_minus}
use Rattle.rank_form.proofs.Weighing.{weigh_append, weigh_negated}
use Rattle.rank_form.proofs.Summing.{sum_same}
use Rattle.rank_form.proofs.UpperLaws.{Under, upper_under}
use Rattle.rank_form.proofs.AfterLaws.{after_constant, after_weighs}

under : (f g : FormOf) → Alike f g → Under f g
under f g a = record { constant = omega (arith, ints, a.constant); weighs = a.weighs }

turned : (f g : FormOf) → Alike f g → Alike g f
turned f g a = record { constant = sym a.constant; weighs = λ h. sym (a.weighs h) }

less_alike : (f f' g g' : FormOf) → Alike f f' → Alike g g' → Alike (less g f) (less g' f')
less_alike f f' g g' a b = record {
  constant = omega (arith, ints, a.constant, b.constant, times_minus f.constant, times_minus f'.constant);
  weighs = λ h. omega (arith, ints, weigh_append h g.terms (negated f).terms, weigh_append h g'.terms (negated f').terms, weigh_negated h f.terms, weigh_negated h f'.terms, a.weighs h, b.weighs h);
}

pub negated_alike : (f g : FormOf) → Alike f g → Alike (negated f) (negated g)
negated_alike f g a = record {
  constant = ap (λ z. neg_ℤ (pos 1) *ℤ z) a.constant;
  weighs = λ h. omega (arith, ints, weigh_negated h f.terms, weigh_negated h g.terms, a.weighs h);
}

module _ {T : Type 0} (d : Domain T) where
  pub upper_alike : (f g : FormOf) (x : FactOf T) → Alike f g → upper d f x ≡ upper d g x
  upper_alike f g x a = omega (arith, ints, upper_under d f g x (under f g a), upper_under d g f x (under g f (turned f g a)))

  pub after_alike : (f g : FormOf) (o : OutcomeOf T) → Alike f g → Alike (after d f o) (after d g o)
  after_alike f g o a = record {
    constant =
        omega (
          arith,
          ints,
          a.constant,
          after_constant d o f,
          after_constant d o g,
          a.weighs (λ v. added (post_at o.posts v)),
          sum_same (length o.pre.cells) (λ v. within (rate f.terms v) (span d o.after v) (post_at o.posts v)) (λ v. within (rate g.terms v) (span d o.after v) (post_at o.posts v))
              (λ v. ap (λ c. within c (span d o.after v) (post_at o.posts v)) (a.weighs (is_at v))),
        );
    weighs = λ h. after_weighs d o h f ∙ a.weighs (λ v. by_post h (post_at o.posts v) v) ∙ sym (after_weighs d o h g);
  }

  pub rise_alike : (f f' g g' : FormOf) (o : OutcomeOf T) → Alike f f' → Alike g g' → rise d f g o ≡ rise d f' g' o
  unfolding rise
  rise_alike f f' g g' o a b = upper_alike (less (after d g o) f) (less (after d g' o) f') o.pre (less_alike f f' (after d g o) (after d g' o) a (after_alike g g' o b))
