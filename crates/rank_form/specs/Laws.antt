-- What holds of bounds of forms.
use Rattle.std.specs.Prelude.{◌≡◌, ℕ, ℤ, pos, negsuc, ◌+ℤ◌, ◌-ℤ◌, ◌*ℤ◌, neg_ℤ, ◌≤ℤ◌, int_le, Bool, true, false}
use Rattle.num_domain.specs.Domain.{Domain}
use Rattle.flag_relation.specs.Values.{Values}
use Rattle.flag_relation.specs.Facts.{FactOf, values, Meets}
use Rattle.flag_relation.specs.Order.{BelowValues}
use Rattle.flag_relation.specs.Emptiness.{is_empty}
use Rattle.flag_relation.specs.Forms.{FormOf}
use Rattle.abs_step.specs.OutcomeLists.{OutcomeOf}
use Rattle.abs_step.specs.Posts.{PostsHold}
use Rattle.rank_form.specs.Weights.{value, merged}
use Rattle.rank_form.specs.Bounds.{upper, lower, after, rise}
use Rattle.rank_form.specs.Levels.{constant_form, shift, level}

module _ {T : Type 0} (d : Domain T) where
  -- states on both sides of an outcome, that meet what is known there
  pub record IsStepOf (o : OutcomeOf T) (e e' : Values ℤ) : Type 0 where
    pub before : (b : Bool) × Meets d o.pre e b
    pub after : (b : Bool) × Meets d o.after e' b
    pub posts : PostsHold o.posts e e'

  -- a form lies between its bounds at each state that meets the fact, and rises by at most its
  -- bound over an outcome
  pub record BoundLaws : Type 0 where
    pub over : (f : FormOf) (x : FactOf T) (e : Values ℤ) (b : Bool) → Meets d x e b
        → value f e ≤ℤ upper d f x
    pub under : (f : FormOf) (x : FactOf T) (e : Values ℤ) (b : Bool) → Meets d x e b
        → lower d f x ≤ℤ value f e
    pub rises : (f g : FormOf) (o : OutcomeOf T) (e e' : Values ℤ) → IsStepOf o e e'
        → (value g e' -ℤ value f e) ≤ℤ rise d f g o
    -- where the bound is at most the negative of a price, the value falls by the price
    pub falls : (f g : FormOf) (o : OutcomeOf T) (e e' : Values ℤ) (price : ℕ) → IsStepOf o e e'
        → int_le (rise d f g o) (neg_ℤ (pos price)) ≡ true → (value g e' +ℤ pos price) ≤ℤ value f e
    -- the order of terms, and how they are split, change no bound
    pub merged_upper : (f : FormOf) (x : FactOf T) → upper d (merged f) x ≡ upper d f x
    pub merged_lower : (f : FormOf) (x : FactOf T) → lower d (merged f) x ≡ lower d f x
    pub merged_rise : (f g : FormOf) (o : OutcomeOf T)
        → rise d (merged f) (merged g) o ≡ rise d f g o

module _ {T : Type 0} (d : Domain T) where
  -- what is known on one side of an instruction: the links of the fact before it and no larger
  -- values, and it isn't empty
  pub record IsSideOf (x side : FactOf T) : Type 0 where
    pub links : side.links ≡ x.links
    pub smaller : BelowValues d (values side) (values x)
    pub live : is_empty d side ≡ false

  -- the greatest value of a form after an outcome
  abbrev pub upper_after : FormOf → OutcomeOf T → ℤ
  upper_after f o = upper d (after d f o) o.pre

  -- what a ranking by forms rests on
  pub record FormLaws : Type 0 where
    pub ordered : (f : FormOf) (x : FactOf T) → lower d f x ≤ℤ upper d f x
    -- a side knows more than its fact
    pub side_lower : (f : FormOf) (x side : FactOf T) → IsSideOf x side
        → lower d f x ≤ℤ lower d f side
    pub side_upper : (f : FormOf) (x side : FactOf T) → IsSideOf x side
        → upper d f side ≤ℤ upper d f x
    pub rise_bound : (f g : FormOf) (o : OutcomeOf T)
        → rise d f g o ≤ℤ (upper_after g o -ℤ lower d f o.pre)
    -- a number is its own bound
    pub constant_lower : (n : ℤ) (x : FactOf T) → lower d (constant_form n) x ≡ n
    pub constant_upper : (n : ℤ) (x : FactOf T) → upper d (constant_form n) x ≡ n
    pub constant_after : (n : ℤ) (o : OutcomeOf T) → upper_after (constant_form n) o ≡ n
    -- a number that is added is added to each bound
    pub shift_lower : (f : FormOf) (n : ℤ) (x : FactOf T) → lower d (shift f n) x ≡ lower d f x +ℤ n
    pub shift_upper : (f : FormOf) (n : ℤ) (x : FactOf T) → upper d (shift f n) x ≡ upper d f x +ℤ n
    pub shift_after : (f : FormOf) (n : ℤ) (o : OutcomeOf T)
        → upper_after (shift f n) o ≡ upper_after f o +ℤ n
    pub shift_rise : (f g : FormOf) (m n : ℤ) (o : OutcomeOf T)
        → rise d (shift f m) (shift g n) o ≡ (rise d f g o +ℤ n) -ℤ m
    -- a level above its low end adds nothing negative
    pub level_lower : (t : ℤ) (w : FormOf) (low : ℤ) (f : FormOf) (x : FactOf T) → pos 0 ≤ℤ t
        → low ≤ℤ lower d w x → lower d f x ≤ℤ lower d (level t w low f) x
    -- a level rises by at most so many times its own form's rise, and its inner form's
    pub level_rise : (t : ℤ) (w : FormOf) (low : ℤ) (f g : FormOf) (o : OutcomeOf T) → pos 0 ≤ℤ t
        → rise d (level t w low f) (level t w low g) o ≤ℤ ((t *ℤ rise d w w o) +ℤ rise d f g o)
    -- so it rises by no more than its inner form where its own doesn't grow
    pub level_keeps : (t : ℤ) (w : FormOf) (low : ℤ) (f g : FormOf) (o : OutcomeOf T) → pos 0 ≤ℤ t
        → rise d w w o ≤ℤ pos 0
        → rise d (level t w low f) (level t w low g) o ≤ℤ rise d f g o
    -- and by the weight less where its own surely falls
    pub level_falls : (t : ℤ) (w : FormOf) (low : ℤ) (f g : FormOf) (o : OutcomeOf T) → pos 0 ≤ℤ t
        → rise d w w o ≤ℤ negsuc 0
        → rise d (level t w low f) (level t w low g) o ≤ℤ (rise d f g o -ℤ t)
