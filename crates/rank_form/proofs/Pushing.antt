-- Terms that are pushed in order.
use Rattle.std.specs.Prelude.{◌≡◌, ℕ, zero, suc, ◌+◌, ◌-◌, ◌<◌, ℤ, pos, cond, Bool, true, false, List, [], ◌∷◌, ◌++◌, length, take}
use Rattle.std.specs.Ordering.{int_eq}
use Rattle.std.proofs.Common.{refl, arith, sym, ◌∙◌, ap, set, get_or}
use Rattle.std.proofs.lemmas.Int.{ints}
use Rattle.flag_relation.specs.declared.var.Var.{Var}
use Rattle.rank_form.specs.Weights.{var_at, term_of, terms_from}
use Rattle.rank_form.specs.Rates.{rate_at}
use Rattle.rank_form.proofs.Merging.{number_var}

take_set : {A : Type 0} (xs : List A) (k : ℕ) (x : A) → k < length xs → take (suc k) (set xs k x) ≡ take k xs ++ (x ∷ [])
take_set [] k x h = absurd (omega arith)
take_set (y ∷ ys) zero x h = refl
take_set (y ∷ ys) (suc k) x h = ap (λ zs. y ∷ zs) (take_set ys k x (omega arith))

append_assoc : {A : Type 0} (xs ys zs : List A) → (xs ++ ys) ++ zs ≡ xs ++ (ys ++ zs)
append_assoc [] ys zs = refl
append_assoc (x ∷ xs) ys zs = ap (λ us. x ∷ us) (append_assoc xs ys zs)

append_nil : {A : Type 0} (xs : List A) → xs ++ [] ≡ xs
append_nil [] = refl
append_nil (x ∷ xs) = ap (λ us. x ∷ us) (append_nil xs)

pub eq_zero : (c : ℤ) → c ≡ pos 0 → int_eq c (pos 0) ≡ true
eq_zero c h = grind (arith, ints)

ne_zero : (c : ℤ) → (c ≡ pos 0 → ⊥) → int_eq c (pos 0) ≡ false
ne_zero c h = grind (arith, ints)

pub term_none : (v : Var) (c : ℤ) (ts : List (Var × ℤ)) → c ≡ pos 0 → ts ≡ ts ++ term_of v c
term_none v c ts h = sym (append_nil ts) ∙ ap (λ (b : Bool). ts ++ cond b [] ((v, c) ∷ [])) (sym (eq_zero c h))

pub term_one : (v : Var) (c : ℤ) (items : List (Var × ℤ)) (m : ℕ) → (c ≡ pos 0 → ⊥) → m < length items → take (m + 1) (set items m (v, c)) ≡ take m items ++ term_of v c
term_one v c items m h p =
    let e : m + 1 ≡ suc m = omega arith in
    ap (λ (j : ℕ). take j (set items m (v, c))) e ∙ take_set items m (v, c) p ∙ ap (λ (b : Bool). take m items ++ cond b [] ((v, c) ∷ [])) (sym (ne_zero c h))

from_step : (g : Var → ℤ) (k n : ℕ) → k < n → terms_from g k (n - k) ≡ term_of (var_at k) (g (var_at k)) ++ terms_from g (k + 1) (n - (k + 1))
unfolding terms_from
from_step g k n h =
    let e : n - k ≡ suc (n - (k + 1)) = omega arith in
    let f : k + 1 ≡ suc k = omega arith in
    ap (terms_from g k) e ∙ ap (λ (j : ℕ). term_of (var_at k) (g (var_at k)) ++ terms_from g j (n - (k + 1))) (sym f)

pub push_next : (rs : List ℤ) (k n : ℕ) (ts us : List (Var × ℤ)) → k < n → us ≡ ts ++ term_of (var_at k) (get_or rs k (pos 0))
    → us ++ terms_from (rate_at rs) (k + 1) (n - (k + 1)) ≡ ts ++ terms_from (rate_at rs) k (n - k)
push_next rs k n ts us h e =
    let next = terms_from (rate_at rs) (k + 1) (n - (k + 1)) in
    let same : get_or rs k (pos 0) ≡ rate_at rs (var_at k) = ap (λ (j : ℕ). get_or rs j (pos 0)) (sym (number_var k)) in
    ap (λ vs. vs ++ next) (e ∙ ap (λ c. ts ++ term_of (var_at k) c) same) ∙ append_assoc ts (term_of (var_at k) (rate_at rs (var_at k))) next ∙ ap (λ vs. ts ++ vs) (sym (from_step (rate_at rs) k n h))

pub none_left : (g : Var → ℤ) (k n : ℕ) (ts : List (Var × ℤ)) → k ≡ n → ts ++ terms_from g k (n - k) ≡ terms_from g 0 n → ts ≡ terms_from g 0 n
unfolding terms_from
none_left g k n ts e h =
    let z : n - k ≡ zero = omega arith in
    sym (append_nil ts) ∙ ap (λ us. ts ++ us) (sym (ap (terms_from g k) z)) ∙ h
