-- Each name of a table has the code at whose place it stands.
use Rattle.std.proofs.Common.{◌≡◌, ◌∙◌, ℕ, zero, suc, ◌+◌, Bool, true, false, ◌&&◌, not, cond, List, [], ◌∷◌, Option, Some, None, option_map, is_some, slice_get, refl, sym, ap, arith}
use Rattle.std.proofs.lemmas.Option.{same_Some}
use Rattle.std.proofs.lemmas.Slice.Eq.{bytes_eq-Decides}
use Rattle.std.specs.Str.{bytes_eq}
use Rattle.field_asm.specs.Names.{code_of, is_name, are_names}

-- in a table each name has the code at whose place it stands
pub name_codes : (names : List (List ℕ)) (i : ℕ) (name : List ℕ) → are_names names ≡ true → slice_get names i ≡ Some name → code_of names name ≡ Some i
name_codes [] i name is e = cc
name_codes (n ∷ ns) zero name is e = rw (sym (same_Some n name e), (bytes_eq-Decides n n).1 refl) refl
name_codes (n ∷ ns) (suc i) name is e = by (is_name n) (code_of ns n) refl is (λ rest. name_codes ns i name rest e)
  where
    clash : code_of ns name ≡ None → code_of ns name ≡ Some i → ⊥
    clash a b = cc

    behind : (b : Bool) → bytes_eq n name ≡ b → code_of ns n ≡ None → code_of ns name ≡ Some i → cond b (Some 0) (option_map (λ code. code + 1) (code_of ns name)) ≡ Some (suc i)
    behind true h none there = absurd (clash (sym (ap (code_of ns) ((bytes_eq-Decides n name).0 h)) ∙ none) there)
    behind false h none there = rw there (ap Some (omega arith))

    by : (b : Bool) (o : Option ℕ) → code_of ns n ≡ o → (b && (not (is_some o) && are_names ns)) ≡ true → (are_names ns ≡ true → code_of ns name ≡ Some i) → code_of (n ∷ ns) name ≡ Some (suc i)
    by true None f g there = behind (bytes_eq n name) refl f (there g)
    by true (Some k) f g there = cc
    by false o f g there = cc
