-- What the limits of a form say of its numbers.
use Rattle.std.specs.Prelude.{◌≡◌, ◌≤◌, ◌^◌, ◌+◌, ℕ, ℤ, pos, true, ◌&&◌, nat_le, List, [], ◌∷◌, length, unsigned_abs}
use Rattle.std.proofs.Common.{arith}
use Rattle.std.proofs.lemmas.Int.{ints}
use Rattle.std.proofs.lemmas.Bool.{and_parts}
use Rattle.flag_relation.specs.declared.var.Var.{Var}
use Rattle.flag_relation.specs.Forms.{var_number, is_within, is_coefficient, are_terms, is_form}
use Rattle.rank_form.specs.Rates.{AreSmall}

coefficient_small : (z : ℤ) → is_coefficient z ≡ true → unsigned_abs z ≤ 2 ^ 43
coefficient_small z h = grind (arith, ints, and_parts)

terms_small : (n : ℕ) (ts : List (Var × ℤ)) → are_terms n ts ≡ true → AreSmall (2 ^ 43) ts
unfolding are_terms
terms_small n [] h = tt
terms_small n (t ∷ ts) h =
    let p = and_parts (nat_le n (var_number t.0) && is_coefficient t.1) (are_terms (var_number t.0 + 1) ts) h in
    (coefficient_small t.1 (and_parts (nat_le n (var_number t.0)) (is_coefficient t.1) p.0).1, terms_small (var_number t.0 + 1) ts p.1)

constant_small : (z : ℤ) → is_within (pos (2 ^ 77)) z ≡ true → unsigned_abs z ≤ 2 ^ 77
constant_small z h = grind (arith, ints, and_parts)

pub form_small : (c : ℤ) (ts : List (Var × ℤ)) → is_form c ts ≡ true → (unsigned_abs c ≤ 2 ^ 77) × AreSmall (2 ^ 43) ts
form_small c ts h =
    let p = and_parts (nat_le (length ts) 8 && is_within (pos (2 ^ 77)) c) (are_terms 0 ts) h in
    (constant_small c (and_parts (nat_le (length ts) 8) (is_within (pos (2 ^ 77)) c) p.0).1, terms_small 0 ts p.1)

pub form_ascends : (c : ℤ) (ts : List (Var × ℤ)) → is_form c ts ≡ true → are_terms 0 ts ≡ true
form_ascends c ts h = (and_parts (nat_le (length ts) 8 && is_within (pos (2 ^ 77)) c) (are_terms 0 ts) h).1
