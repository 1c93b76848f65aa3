-- Joins that change nothing: with what the value has, and of a value that has all numbers.
use Rattle.std.specs.Prelude.{◌≡◌, ℕ, ◌+◌, ◌-◌, Bool, true, List, [], ◌∷◌, Option, Some, None}
use Rattle.std.proofs.Common.{refl, ◌∙◌, ap}
use Rattle.std.proofs.lemmas.Bool.{false≢true}
use Rattle.num_domain.specs.Domain.{Domain}
use Rattle.num_domain.specs.Laws.{DomainLaws}
use Rattle.memory_plan.specs.Plans.{PlanLines}
use Rattle.abs_step.specs.Results.{or_value, join_all, words_from, read_code}
use Rattle.abs_step.specs.Walks.{is_greatest}

module _ {T : Type 0} (d : Domain T) (laws : DomainLaws d) where
  pub join_included : (v w : T) → d.includes v w ≡ true → d.join v w ≡ v
  join_included v w e =
      let o = laws.order in
      o.antisym (d.join v w) v (o.join_least v w v (o.refl v) (record { holds = e })) (o.join_left v w)

  join_greatest : (v w : T) → d.includes v d.top ≡ true → d.join v w ≡ v
  join_greatest v w e =
      let o = laws.order in
      join_included v w (o.trans w d.top v (o.top_greatest w) (record { holds = e })).holds

  or_greatest : (acc o : Option T) → is_greatest d acc ≡ true → or_value d acc o ≡ acc
  or_greatest None o e = absurd (false≢true e)
  or_greatest (Some v) None e = refl
  or_greatest (Some v) (Some w) e = ap (λ (u : T). Some u) (join_greatest v w e)

  pub all_greatest : (acc : Option T) (os : List (Option T)) → is_greatest d acc ≡ true → join_all d acc os ≡ acc
  unfolding join_all
  all_greatest acc [] e = refl
  all_greatest acc (o ∷ os) e = ap (λ (a : Option T). join_all d a os) (or_greatest acc o e) ∙ all_greatest acc os e

  pub code_greatest : (plan : PlanLines) (p : ℕ → Bool) (acc : Option T) (ss : List (ℕ × ℕ)) → is_greatest d acc ≡ true → read_code d plan p acc ss ≡ acc
  unfolding read_code
  code_greatest plan p acc [] e = refl
  code_greatest plan p acc (s ∷ ss) e =
      ap (λ (a : Option T). read_code d plan p a ss) (all_greatest acc (words_from d plan p s.0 ((s.1 + 1) - s.0)) e)
      ∙ code_greatest plan p acc ss e
