-- A store or an output that is allowed goes to a span, with a word in the range there.
use Rattle.std.specs.Prelude.{◌≡◌, ℕ, ◌^◌, ◌<◌, Bool, true, List, Option, Some, None, IsSomeAnd}
use Rattle.std.proofs.Common.{refl}
use Rattle.std.proofs.lemmas.Bool.{false≢true}
use Rattle.num_domain.specs.Domain.{Domain}
use Rattle.num_domain.specs.Laws.{DomainLaws}
use Rattle.viper_word.specs.Ranges.{NumberRange}
use Rattle.memory_plan.specs.Ranges.{Span}
use Rattle.flag_relation.specs.Values.{Values}
use Rattle.flag_relation.specs.Facts.{MeetsValues}
use Rattle.abs_step.specs.Addresses.{some_passes, passes_at}
use Rattle.memory_plan.specs.Plans.{range_at}
use Rattle.abs_step.specs.Results.{source_value}
use Rattle.abs_step.specs.Conditions.{in_range, each_allows}
use Rattle.abs_step.proofs.Performing.{Numbers, env, lawful, place_number, source_number, InRangeOf}
use Rattle.viper_decode.specs.declared.instructions.Source.{Source}
use Rattle.viper_decode.specs.declared.instructions.Place.{Place}
use Rattle.abs_step.proofs.ResultCover.{PlaceIs, place_has, source_has}
use Rattle.abs_step.proofs.KeptLaws.{IsSpaced, in_range_has}
use Rattle.viper_word.proofs.Options.{some_some}

module _ {T : Type 0} (d : Domain T) (laws : DomainLaws d) where
  -- what is given lies in the range of its address
  pub allowed_tidy : (spans : List Span) (p : Place) (v : Values T) (s : Numbers) (cells : List ℕ) (l : Source) → s.p < 2 ^ 20 → ((n : ℕ) (r : NumberRange) → range_at spans n ≡ Some r → IsSpaced r) → MeetsValues d v (env cells s) → each_allows d spans p v (source_value d s.p v l) ≡ true → IsSomeAnd (lawful (place_number p s.regs)) (λ n. IsSomeAnd (range_at spans n) (λ r. InRangeOf r (source_number s l)))
  allowed_tidy spans p v s cells l at spaced m h =
      let ok : ℕ → Bool = λ n. passes_at spans (λ r. in_range d (source_value d s.p v l) r) n in
      some_some (λ n. PlaceIs d laws p v (place_number p s.regs) ok n) _ (lawful (place_number p s.regs)) (place_has d laws p v s cells ok m h)
      (λ n q. in_it n (range_at spans n) refl q.passes)
    where
      in_it : (n : ℕ) (o : Option NumberRange) → range_at spans n ≡ o → some_passes (λ r. in_range d (source_value d s.p v l) r) o ≡ true → IsSomeAnd o (λ r. InRangeOf r (source_number s l))
      in_it n None e k = absurd (false≢true k)
      in_it n (Some r) e k = in_range_has d laws (source_value d s.p v l) r (source_number s l) (spaced n r e) k (source_has d laws v s cells l at m)
