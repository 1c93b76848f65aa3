-- How far the numbers go that rows compute before they are reduced: well beyond sums of residues.
use Rattle.std.specs.Prelude.{ℕ, ◌^◌}

-- moduli are below it, and numbers lie within it on both sides of 0
abbrev pub row_limit : ℕ
row_limit = 2 ^ 40

-- differences of two such numbers lie within it
abbrev pub difference_limit : ℕ
difference_limit = 2 ^ 41
