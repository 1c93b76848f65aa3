-- The node of a number.
use Rattle.std.proofs.Common.{◌≡◌, ℕ, zero, suc, ◌<◌, List, [], ◌∷◌, ◌++◌, length, slice_get, get_or, drop, Some, refl, arith}
use Rattle.std.proofs.lemmas.Option.{slice_get-get_or}
use Rattle.std.specs.List.{AllByRecursion}
use Rattle.cert_format.specs.Certificates.{CertificateOf, node_at, no_node}

-- a node of the list is there
pub node_there : {T : Type 0} (c : CertificateOf T) (j : ℕ) → j < length c.nodes → slice_get c.nodes j ≡ Some (node_at c j)
node_there c j h = slice_get-get_or c.nodes j no_node h

-- what holds of each holds of the one at a place
pub one_of : {A : Type 0} (P : A → Type 0) (xs : List A) (z : A) (i : ℕ) → AllByRecursion P xs → i < length xs → P (get_or xs i z)
one_of P [] z i h k = absurd (omega (arith))
one_of P (x ∷ xs) z zero h k = h.0
one_of P (x ∷ xs) z (suc i) h k = one_of P xs z i h.1 (omega (arith))

-- what is left from a place on begins with the element there
pub drop_there : {A : Type 0} (xs : List A) (z : A) (i : ℕ) → i < length xs → drop i xs ≡ get_or xs i z ∷ drop (suc i) xs
drop_there [] z i h = absurd (omega (arith))
drop_there (x ∷ xs) z zero h = refl
drop_there (x ∷ xs) z (suc i) h = drop_there xs z i (omega (arith))

pub drop_end : {A : Type 0} (xs : List A) (i : ℕ) → i ≡ length xs → drop i xs ≡ []
drop_end [] zero h = refl
drop_end [] (suc i) h = refl
drop_end (x ∷ xs) zero h = absurd (omega (arith, h))
drop_end (x ∷ xs) (suc i) h = drop_end xs i (omega (arith, h))

-- what holds of each of a list and of one more
pub all_push : {A : Type 0} (P : A → Type 0) (xs : List A) (x : A) → AllByRecursion P xs → P x → AllByRecursion P (xs ++ x ∷ [])
all_push P [] x h p = (p, tt)
all_push P (y ∷ xs) x h p = (h.0, all_push P xs x h.1 p)

pub all_parts : {A : Type 0} (P : A → Type 0) (xs : List A) (x : A) → AllByRecursion P (xs ++ x ∷ []) → AllByRecursion P xs × P x
all_parts P [] x h = (tt, h.0)
all_parts P (y ∷ xs) x h = let more = all_parts P xs x h.1 in ((h.0, more.0), more.1)
