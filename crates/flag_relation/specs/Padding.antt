-- An array whose last places are unused.
use Rattle.std.specs.Prelude.{◌≡◌, ℕ, ◌-◌, ◌≤◌, List, ◌++◌, length, take, replicate}
use Rattle.std.proofs.Common.{ap, ◌∙◌}

-- the list, with what stands in an unused place behind it
abbrev pub padded : {T : Type 0} → T → ℕ → List T → List T
padded pad size items = items ++ replicate (size - length items) pad

-- so many places are used
pub record IsPadded {T : Type 0} (pad : T) (size : ℕ) (items : List T) (len : ℕ) : Type 0 where
  pub room : len ≤ size
  pub used : length (take len items) ≡ len
  pub rest : take len items ++ replicate (size - len) pad ≡ items

-- the used places give the array back
pub padded_back : {T : Type 0} (pad : T) (size : ℕ) (items : List T) (len : ℕ)
    → IsPadded pad size items len → padded pad size (take len items) ≡ items
padded_back {T} pad size items len h =
    ap (λ (n : ℕ). take len items ++ replicate (size - n) pad) h.used ∙ h.rest
