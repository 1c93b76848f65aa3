-- Options that are made one from another.
use Rattle.std.specs.Prelude.{Option, option_and_then}

-- what f gives of the value, if there is one: std's word with the option first
abbrev pub bind : {A B : Type 0} → Option A → (A → Option B) → Option B
bind o f = option_and_then f o
