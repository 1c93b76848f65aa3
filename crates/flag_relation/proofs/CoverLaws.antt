-- What meets a fact meets what includes it, its joins and its rounding; nothing meets an empty one.
use Rattle.std.specs.Prelude.{◌≡◌, ℤ, true, List, length}
use Rattle.std.proofs.Common.{subst, sym, ◌∙◌}
use Rattle.std.proofs.lemmas.Bool.{false≢true}
use Rattle.num_domain.specs.Domain.{Domain}
use Rattle.num_domain.specs.Laws.{DomainLaws}
use Rattle.flag_relation.specs.Facts.{FactOf, Meets, Covers, IsUnmet}
use Rattle.flag_relation.specs.Order.{BelowFact, includes}
use Rattle.flag_relation.specs.Joins.{join}
use Rattle.flag_relation.specs.Rounding.{round}
use Rattle.flag_relation.specs.Emptiness.{is_empty}
use Rattle.flag_relation.proofs.OrderLaws.{fact_test, fact_meets, facts_left, facts_right}
use Rattle.flag_relation.proofs.RoundLaws.{round_fact_above}
use Rattle.flag_relation.proofs.EmptinessLaws.{met_not_empty}

module _ {T : Type 0} (d : Domain T) (laws : DomainLaws d) where
  pub included_covers : (f g : FactOf T) → includes d f g ≡ true → Covers d f g
  included_covers f g h e b m = fact_meets d laws g f e b ((fact_test d g f).0 h) m

  -- a larger fact, by another name
  above_covers : (f g n : FactOf T) → n ≡ g → BelowFact d f g → Covers d n f
  above_covers f g n is h e b m = subst (λ (x : FactOf T). Meets d x e b) (sym is) (fact_meets d laws f g e b h m)

  pub join_keeps : (f g n : FactOf T) → length f.cells ≡ length g.cells → n ≡ join d f g → Covers d n f
  join_keeps f g n same is = above_covers f (join d f g) n is (facts_left d laws f g same)

  pub join_takes : (f g n : FactOf T) → length f.cells ≡ length g.cells → n ≡ join d f g → Covers d n g
  join_takes f g n same is = above_covers g (join d f g) n is (facts_right d laws f g same)

  pub round_keeps : (f n : FactOf T) (t : List ℤ) → n ≡ round d t f → Covers d n f
  round_keeps f n t is = above_covers f (round d t f) n is (round_fact_above d t laws f)

  pub empty_unmet : (f : FactOf T) → is_empty d f ≡ true → IsUnmet d f
  empty_unmet f h e b m = false≢true (sym (met_not_empty d laws f e b m) ∙ h)
