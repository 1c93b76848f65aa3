-- Outcomes, and lists of them.
use Rattle.std.specs.Prelude.{ℕ, Bool, not, cond, List, [], ◌∷◌, map, Option, Some, None}
use Rattle.num_domain.specs.Domain.{Domain}
use Rattle.flag_relation.specs.Values.{Values}
use Rattle.flag_relation.specs.Facts.{FactOf}
use Rattle.flag_relation.specs.Emptiness.{is_empty}
use Rattle.abs_step.specs.declared.outcome.Post.{Post}
use Rattle.abs_step.specs.declared.outcome.Post.TheVariants.{Same}

pub record OutcomeOf (T : Type 0) : Type 0 where
  pub target : ℕ
  pub pre : FactOf T
  pub after : FactOf T
  pub posts : Values Post

abbrev pub all_same : List ℕ → Values Post
all_same cells = record {
  regs = record { a = Same; x = Same; y = Same };
  cells = map (λ _. Same) cells;
}

abbrev pub each : {T U : Type 0} → Option T → (T → List U) → List U
each None f = []
each (Some v) f = f v

module _ {T : Type 0} (d : Domain T) where
  -- ---- facts that aren't empty

  abbrev pub is_live : FactOf T → Bool
  is_live f = not (is_empty d f)

  abbrev pub live : FactOf T → Option (FactOf T)
  live f = cond (is_live f) (Some f) None

  -- the outcome, unless its fact after the step is empty
  unfoldable pub outcome : ℕ → FactOf T → FactOf T → Values Post → List (OutcomeOf T)
  outcome target pre after posts =
      cond (is_live after)
      (record { target = target; pre = pre; after = after; posts = posts } ∷ []) []
