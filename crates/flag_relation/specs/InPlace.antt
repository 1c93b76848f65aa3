-- What a call that refines a fact in place does to it.
use Rattle.std.specs.Prelude.{◌≡◌, Bool, true, false, length, Option, Some, None}
use Rattle.flag_relation.specs.Values.{Values}
use Rattle.flag_relation.specs.Facts.{FactOf, values, with_values}

-- the value, where the call says that a state is left
abbrev pub left : {T : Type 0} → Bool → T → Option T
left true t = Some t
left false t = None

-- the answer tells whether values are left; those are then the fact's, and all else stays
pub record Refines {T : Type 0}
    (answer : Bool) (old new : FactOf T) (kept : Option (Values T)) : Type 0 where
  pub value : left answer (values new) ≡ kept
  pub others : new ≡ with_values old (values new)
  pub count : length new.cells ≡ length old.cells

-- what is left of the fact's values is what the function makes of them
abbrev pub RefinedBy : {T : Type 0} → Bool → FactOf T → FactOf T
    → (Values T → Option (Values T)) → Type 0
RefinedBy answer old new f = Refines answer old new (f (values old))
