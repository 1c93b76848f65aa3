-- Tables of names: each code has the name at its place.
use Rattle.std.specs.Prelude.{ℕ, ◌+◌, Bool, true, false, ◌&&◌, not, List, [], ◌∷◌, Option, Some, None, option_map, is_some, if◌then◌else◌}
use Rattle.std.specs.Str.{bytes_eq}

-- the code of a name: the place of the first that is equal
abbrev pub code_of : List (List ℕ) → List ℕ → Option ℕ
code_of [] text = None
code_of (name ∷ names) text =
    if bytes_eq name text then Some 0 else option_map (λ code. code + 1) (code_of names text)

-- is it a name?
abbrev pub is_name : List ℕ → Bool
is_name [] = false
is_name (c ∷ cs) = true

-- no name is empty, and no two are equal
abbrev pub are_names : List (List ℕ) → Bool
are_names [] = true
are_names (name ∷ names) = is_name name && (not (is_some (code_of names name)) && are_names names)
