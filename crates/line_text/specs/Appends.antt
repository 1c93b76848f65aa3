-- How a text grows.
use Rattle.std.specs.Prelude.{◌≡◌, ℕ, List, ◌++◌, Result, Ok, Err}

-- A piece was appended to a text; or, after an error, nothing was.
abbrev pub Appends : {V E : Type 0} → Result V E → List ℕ → List ℕ → List ℕ → Type 0
Appends (Ok v) before piece after = after ≡ before ++ piece
Appends (Err e) before piece after = after ≡ before
