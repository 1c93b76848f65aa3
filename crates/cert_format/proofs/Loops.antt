-- Reading one after the other, as a loop does.
use Rattle.std.proofs.Common.{◌≡◌, ℕ, ℤ, suc, ◌-◌, ◌+◌, ◌≤◌, ◌<◌, List, [], ◌∷◌, ◌++◌, Result, Ok, Err, refl, sym, ap, ◌∙◌, append_assoc, arith}
use Rattle.std.proofs.lemmas.List.{append-nil}
use Rattle.cert_format.specs.declared.fault.Fault.{Fault}
use Rattle.cert_format.specs.declared.fault.ReadError.{ReadError}
use Rattle.cert_format.specs.declared.fault.ReadError.TheVariants as errors
use Rattle.cert_format.specs.Reading.{◌>>=◌, Fails, many_at}
use Rattle.flag_relation.specs.declared.var.Var.{Var}
use Rattle.flag_relation.specs.Forms.{var_number}
use Rattle.cert_format.specs.Fields.{cell_at, cells_at, term_at, terms_at}

-- what was read before, and what is still read
abbrev pub with_front : {X : Type 0} → List X → Result (List X × List ℕ) Fault → Result (List X × List ℕ) Fault
with_front front read = read >>= λ x. Ok (front ++ x.0, x.1)

pub regroup : {X : Type 0} (front : List X) (n : X) (read : Result (List X × List ℕ) Fault) → with_front front (read >>= λ x. Ok (n ∷ x.0, x.1)) ≡ with_front (front ++ n ∷ []) read
regroup {X} front n (Ok x) = ap (λ (ns : List X). Ok (ns, x.1)) (simp append_assoc)
regroup front n (Err e) = refl

pub goes_on : {X : Type 0} (one : List ℕ → Result (X × List ℕ) Fault) (front : List X) (count i : ℕ) (bytes : List ℕ) (n : X) (after : List ℕ) (total : Result (List X × List ℕ) Fault) → i < count → one bytes ≡ Ok (n, after)
    → with_front front (many_at one (count - i) bytes) ≡ total → with_front (front ++ n ∷ []) (many_at one (count - (i + 1)) after) ≡ total
unfolding many_at
goes_on one front count i bytes n after total lt h so_far =
    let k : count - i ≡ suc (count - (i + 1)) = omega arith in
    let step : with_front front (many_at one (count - i) bytes) ≡ with_front (front ++ n ∷ []) (many_at one (count - (i + 1)) after) = rw (k, h) (regroup front n (many_at one (count - (i + 1)) after)) in
    sym step ∙ so_far

pub ends : {X : Type 0} (one : List ℕ → Result (X × List ℕ) Fault) (e : ReadError) (front : List X) (count i : ℕ) (bytes : List ℕ) (total : Result (List X × List ℕ) Fault) → i < count → Fails e (one bytes)
    → with_front front (many_at one (count - i) bytes) ≡ total → Fails e total
unfolding many_at
ends one errors.Memory front count i bytes total lt h so_far = tt
ends one (errors.At f) front count i bytes total lt h so_far =
    let k : count - i ≡ suc (count - (i + 1)) = omega arith in
    let step : with_front front (many_at one (count - i) bytes) ≡ Err f = rw (k, h) refl in
    sym so_far ∙ step

pub is_done : {X : Type 0} (one : List ℕ → Result (X × List ℕ) Fault) (front : List X) (count i : ℕ) (bytes : List ℕ) (total : Result (List X × List ℕ) Fault) → count ≤ i → with_front front (many_at one (count - i) bytes) ≡ total → total ≡ Ok (front, bytes)
unfolding many_at
is_done {X} one front count i bytes total le so_far =
    let k : count - i ≡ 0 = omega arith in
    let step : with_front front (many_at one (count - i) bytes) ≡ Ok (front, bytes) = rw k (ap (λ (ns : List X). Ok (ns, bytes)) (append-nil front)) in
    sym so_far ∙ step

-- ---- cells that ascend

pub cells_go_on : (front : List ℕ) (count i from : ℕ) (bytes : List ℕ) (n : ℕ) (after : List ℕ) (total : Result (List ℕ × List ℕ) Fault) → i < count → cell_at from bytes ≡ Ok (n, after)
    → with_front front (cells_at from (count - i) bytes) ≡ total → with_front (front ++ n ∷ []) (cells_at (n + 1) (count - (i + 1)) after) ≡ total
unfolding cells_at
cells_go_on front count i from bytes n after total lt h so_far =
    let k : count - i ≡ suc (count - (i + 1)) = omega arith in
    let step : with_front front (cells_at from (count - i) bytes) ≡ with_front (front ++ n ∷ []) (cells_at (n + 1) (count - (i + 1)) after) = rw (k, h) (regroup front n (cells_at (n + 1) (count - (i + 1)) after)) in
    sym step ∙ so_far

pub cells_end : (e : ReadError) (front : List ℕ) (count i from : ℕ) (bytes : List ℕ) (total : Result (List ℕ × List ℕ) Fault) → i < count → Fails e (cell_at from bytes)
    → with_front front (cells_at from (count - i) bytes) ≡ total → Fails e total
unfolding cells_at
cells_end errors.Memory front count i from bytes total lt h so_far = tt
cells_end (errors.At f) front count i from bytes total lt h so_far =
    let k : count - i ≡ suc (count - (i + 1)) = omega arith in
    let step : with_front front (cells_at from (count - i) bytes) ≡ Err f = rw (k, h) refl in
    sym so_far ∙ step

pub cells_done : (front : List ℕ) (count i from : ℕ) (bytes : List ℕ) (total : Result (List ℕ × List ℕ) Fault) → count ≤ i → with_front front (cells_at from (count - i) bytes) ≡ total → total ≡ Ok (front, bytes)
unfolding cells_at
cells_done front count i from bytes total le so_far =
    let k : count - i ≡ 0 = omega arith in
    let step : with_front front (cells_at from (count - i) bytes) ≡ Ok (front, bytes) = rw k (ap (λ (ns : List ℕ). Ok (ns, bytes)) (append-nil front)) in
    sym so_far ∙ step

-- ---- terms whose variables ascend

pub terms_go_on : (cells : ℕ) (front : List (Var × ℤ)) (count i from : ℕ) (bytes : List ℕ) (n : Var × ℤ) (after : List ℕ) (total : Result (List (Var × ℤ) × List ℕ) Fault) → i < count → term_at cells from bytes ≡ Ok (n, after)
    → with_front front (terms_at cells from (count - i) bytes) ≡ total → with_front (front ++ n ∷ []) (terms_at cells (var_number n.0 + 1) (count - (i + 1)) after) ≡ total
unfolding terms_at
terms_go_on cells front count i from bytes n after total lt h so_far =
    let k : count - i ≡ suc (count - (i + 1)) = omega arith in
    let step : with_front front (terms_at cells from (count - i) bytes) ≡ with_front (front ++ n ∷ []) (terms_at cells (var_number n.0 + 1) (count - (i + 1)) after) = rw (k, h) (regroup front n (terms_at cells (var_number n.0 + 1) (count - (i + 1)) after)) in
    sym step ∙ so_far

pub terms_end : (cells : ℕ) (e : ReadError) (front : List (Var × ℤ)) (count i from : ℕ) (bytes : List ℕ) (total : Result (List (Var × ℤ) × List ℕ) Fault) → i < count → Fails e (term_at cells from bytes)
    → with_front front (terms_at cells from (count - i) bytes) ≡ total → Fails e total
unfolding terms_at
terms_end cells errors.Memory front count i from bytes total lt h so_far = tt
terms_end cells (errors.At f) front count i from bytes total lt h so_far =
    let k : count - i ≡ suc (count - (i + 1)) = omega arith in
    let step : with_front front (terms_at cells from (count - i) bytes) ≡ Err f = rw (k, h) refl in
    sym so_far ∙ step

pub terms_done : (cells : ℕ) (front : List (Var × ℤ)) (count i from : ℕ) (bytes : List ℕ) (total : Result (List (Var × ℤ) × List ℕ) Fault) → count ≤ i → with_front front (terms_at cells from (count - i) bytes) ≡ total → total ≡ Ok (front, bytes)
unfolding terms_at
terms_done cells front count i from bytes total le so_far =
    let k : count - i ≡ 0 = omega arith in
    let step : with_front front (terms_at cells from (count - i) bytes) ≡ Ok (front, bytes) = rw k (ap (λ (ns : List (Var × ℤ)). Ok (ns, bytes)) (append-nil front)) in
    sym so_far ∙ step
