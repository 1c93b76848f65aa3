-- What holds of the outcomes over any numeric domain.
use Rattle.std.specs.Prelude.{◌≡◌, List, [], ◌∷◌, ◌⊎◌}
use Rattle.num_domain.specs.Domain.{Domain}
use Rattle.flag_relation.specs.Order.{BelowFact}
use Rattle.abs_step.specs.OutcomeLists.{OutcomeOf}

module _ {T : Type 0} (d : Domain T) where
  -- an equal target, and larger facts before and after
  pub record OutcomeBelow (o o' : OutcomeOf T) : Type 0 where
    pub target : o.target ≡ o'.target
    pub pre : BelowFact d o.pre o'.pre
    pub after : BelowFact d o.after o'.after

  abbrev pub SomeAbove : OutcomeOf T → List (OutcomeOf T) → Type 0
  SomeAbove o [] = ⊥
  SomeAbove o (o' ∷ os') = OutcomeBelow o o' ⊎ SomeAbove o os'

  -- each outcome of the first has a larger one with its target in the second
  abbrev pub AllBelow : List (OutcomeOf T) → List (OutcomeOf T) → Type 0
  AllBelow [] os' = Unit {0}
  AllBelow (o ∷ os) os' = SomeAbove o os' × AllBelow os os'
