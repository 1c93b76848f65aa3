-- Marks of which none is seen.
use Rattle.std.specs.Prelude.{ℕ, zero, suc, List, [], ◌∷◌, ◌++◌, take, drop}
use Rattle.std.proofs.Common.{refl}
use Rattle.strong_components.specs.declared.search.Mark.{Mark}
use Rattle.strong_components.specs.Numbers.{Fresh}

pub fresh_take : (n : ℕ) (xs : List Mark) → Fresh xs → Fresh (take n xs)
fresh_take zero xs h v = refl
fresh_take (suc n) [] h v = refl
fresh_take (suc n) (x ∷ xs) h zero = h zero
fresh_take (suc n) (x ∷ xs) h (suc v) = fresh_take n xs (λ w. h (suc w)) v

pub fresh_append : (xs ys : List Mark) → Fresh xs → Fresh ys → Fresh (xs ++ ys)
fresh_append [] ys h k v = k v
fresh_append (x ∷ xs) ys h k zero = h zero
fresh_append (x ∷ xs) ys h k (suc v) = fresh_append xs ys (λ w. h (suc w)) k v

pub fresh_drop : (n : ℕ) (xs : List Mark) → Fresh xs → Fresh (drop n xs)
fresh_drop zero xs h v = h v
fresh_drop (suc n) [] h v = refl
fresh_drop (suc n) (x ∷ xs) h v = fresh_drop n xs (λ w. h (suc w)) v
