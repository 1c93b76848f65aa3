-- The terms of a form in order, from coefficients in a list.
use Rattle.std.specs.Prelude.{◌≡◌, ℕ, zero, suc, ◌+◌, ◌<◌, ◌≤◌, nat_le, ℤ, pos, neg_ℤ, ◌+ℤ◌, ◌*ℤ◌, cond, Bool, true, false, ◌&&◌, List, [], ◌∷◌, ◌++◌, length, replicate, Option, Some, None, if◌then◌else◌}
use Rattle.std.specs.Option.{IsSome}
use Rattle.std.proofs.lemmas.Option.{none-some}
use Rattle.std.proofs.Common.{rules, refl, arith, sym, ◌∙◌, ap, subst}
use Rattle.std.proofs.Math.Path.{ap₂}
use Rattle.std.proofs.lemmas.Int.{ints}
use Rattle.viper_word.specs.declared.reg.Reg.TheVariants.{A, X, Y}
use Rattle.flag_relation.specs.declared.var.Var.{Var}
use Rattle.flag_relation.specs.declared.var.Var.TheVariants.{Reg, Cell}
use Rattle.flag_relation.specs.Forms.{FormOf, var_number, are_terms, form_of}
use Rattle.rank_form.specs.declared.rates.TheConstants.{VARIABLES}
use Rattle.rank_form.specs.Weights.{weigh, is_at, rate, var_at, term_of, terms_from, past}
use Rattle.rank_form.specs.Bounds.{place, linked}
use Rattle.rank_form.specs.Levels.{direction, level, in_limits}
use Rattle.rank_form.specs.Rates.{no_links, rate_at, put, spread}
use Rattle.rank_form.proofs.Merging.{number_var, past_head, past_tail}
use Rattle.rank_form.proofs.Pushing.{eq_zero}
use Rattle.rank_form.proofs.Products.{times_zero}
use Rattle.rank_form.proofs.Rating.{put_at, spread_zeros, spread_length}
use Rattle.std.proofs.lemmas.List.{length-replicate}
use Rattle.rank_form.proofs.Summing.{test_other}

from_agree : (g h : Var → ℤ) (k m : ℕ) → ((i : ℕ) → i < k + m → g (var_at i) ≡ h (var_at i)) → terms_from g k m ≡ terms_from h k m
unfolding terms_from
from_agree g h k zero e = refl
from_agree g h k (suc m) e = ap₂ ◌++◌ (ap (term_of (var_at k)) (e k (omega arith))) (from_agree g h (suc k) m (λ i p. e i (omega arith)))

term_zero : (v : Var) (c : ℤ) (ts : List (Var × ℤ)) → c ≡ pos 0 → term_of v c ++ ts ≡ ts
term_zero v c ts h = ap (λ (b : Bool). cond b [] ((v, c) ∷ []) ++ ts) (eq_zero c h)

from_none : (g : Var → ℤ) (k m : ℕ) → ((i : ℕ) → k ≤ i → g (var_at i) ≡ pos 0) → terms_from g k m ≡ []
unfolding terms_from
from_none g k zero e = refl
from_none g k (suc m) e = term_zero (var_at k) (g (var_at k)) (terms_from g (suc k) m) (e k (omega arith)) ∙ from_none g (suc k) m (λ i p. e i (omega arith))

from_more : (g : Var → ℤ) (k m n : ℕ) → m ≤ n → ((i : ℕ) → k + m ≤ i → g (var_at i) ≡ pos 0) → terms_from g k n ≡ terms_from g k m
unfolding terms_from
from_more g k zero n h e = from_none g k n (λ i p. e i (omega arith))
from_more g k (suc m) zero h e = absurd (omega arith)
from_more g k (suc m) (suc n) h e = ap (λ us. term_of (var_at k) (g (var_at k)) ++ us) (from_more g (suc k) m n (omega arith) (λ i p. e i (omega arith)))

pub rate_beyond : (ts : List (Var × ℤ)) (i : ℕ) → past ts ≤ i → rate ts (var_at i) ≡ pos 0
unfolding weigh
rate_beyond [] i h = refl
rate_beyond (t ∷ ts) i h =
    let lt : var_number t.0 < var_number (var_at i) = subst (λ (j : ℕ). var_number t.0 < j) (sym (number_var i)) (past_head t ts i h) in
    omega (arith, ints, ap (λ (b : Bool). t.1 *ℤ cond b (pos 1) (pos 0)) (test_other (var_number t.0) (var_number (var_at i)) lt), times_zero t.1, rate_beyond ts i (past_tail t ts i h))

-- what a list of coefficients gives is the terms in order
pub ordered_is : (rs : List ℤ) (ts : List (Var × ℤ)) (n : ℕ) → past ts ≤ n → ((v : Var) → var_number v < n → rate_at rs v ≡ rate ts v) → terms_from (rate_at rs) 0 n ≡ terms_from (rate ts) 0 (past ts)
ordered_is rs ts n h e =
    from_agree (rate_at rs) (rate ts) 0 n (λ i p. e (var_at i) (subst (λ (j : ℕ). j < n) (sym (number_var i)) (omega arith)))
    ∙ from_more (rate ts) 0 (past ts) n h (λ i p. rate_beyond ts i (omega arith))

unlinked : (v : Var) → (place no_links v).var ≡ v
unlinked (Reg A) = refl
unlinked (Reg X) = refl
unlinked (Reg Y) = refl
unlinked (Cell i) = refl

pub linked_none : (ts : List (Var × ℤ)) → linked no_links ts ≡ ts
linked_none [] = refl
linked_none (t ∷ ts) = ap₂ (λ (v : Var) (us : List (Var × ℤ)). (v, t.1) ∷ us) (unlinked t.0) (linked_none ts)

-- ---- levels

past_cons : (t : Var × ℤ) (ts : List (Var × ℤ)) (n : ℕ) → var_number t.0 < n → past ts ≤ n → past (t ∷ ts) ≤ n
unfolding past
past_cons t ts n h k = grind arith

head_rate : (v u : Var) (c : ℤ) (ts : List (Var × ℤ)) → rate ((v, c) ∷ ts) u ≡ (c *ℤ is_at u v) +ℤ rate ts u
unfolding weigh
head_rate v u c ts = refl

sum_turned : (a b c : ℤ) → a ≡ b → a +ℤ c ≡ c +ℤ b
sum_turned a b c h = omega (arith, ints)

level_terms : (v : Var) (c : ℤ) (ts : List (Var × ℤ)) → var_number v < VARIABLES → past ts ≤ VARIABLES
    → terms_from (rate_at (put (spread ts (replicate VARIABLES (pos 0))) v c)) 0 VARIABLES ≡ terms_from (rate ((v, c) ∷ ts)) 0 (past ((v, c) ∷ ts))
level_terms v c ts h k =
    let rs = spread ts (replicate VARIABLES (pos 0)) in
    let long : length rs ≡ VARIABLES = spread_length ts (replicate VARIABLES (pos 0)) ∙ length-replicate VARIABLES (pos 0) in
    ordered_is (put rs v c) ((v, c) ∷ ts) VARIABLES (past_cons (v, c) ts VARIABLES h k)
    (λ u p. put_at rs v u c (subst (λ (n : ℕ). var_number u < n) (sym long) p) ∙ sum_turned (rate_at rs u) (rate ts u) (c *ℤ is_at u v) (spread_zeros ts VARIABLES u p) ∙ sym (head_rate v u c ts))

pub level_code : (t : ℤ) (v : Var) (down : Bool) (low : ℤ) (f : FormOf) (k c : ℤ) (rs : List ℤ)
    → k ≡ f.constant +ℤ neg_ℤ (t *ℤ low) → c ≡ t *ℤ cond down (pos 1) (neg_ℤ (pos 1)) → rs ≡ put (spread f.terms (replicate VARIABLES (pos 0))) v c
    → var_number v < VARIABLES → past f.terms ≤ VARIABLES → form_of k (terms_from (rate_at rs) 0 VARIABLES) ≡ in_limits (level t (direction v down) low f)
unfolding level
level_code t v down low f k c rs e p q h r =
    let s = cond down (pos 1) (neg_ℤ (pos 1)) in
    let number : k ≡ ((t *ℤ pos 0) +ℤ f.constant) +ℤ neg_ℤ (t *ℤ low) = omega (arith, ints, e, times_zero t) in
    let terms : terms_from (rate_at rs) 0 VARIABLES ≡ terms_from (rate ((v, t *ℤ s) ∷ f.terms)) 0 (past ((v, t *ℤ s) ∷ f.terms)) =
    ap (λ us. terms_from (rate_at us) 0 VARIABLES) q ∙ level_terms v c f.terms h r ∙ ap (λ z. terms_from (rate ((v, z) ∷ f.terms)) 0 (past ((v, z) ∷ f.terms))) p in
    ap₂ form_of number terms

zero_le : (n : ℕ) → nat_le 0 n ≡ true
zero_le n = grind arith

pub direction_form : (v : Var) (down : Bool) → form_of (pos 0) ((v, cond down (pos 1) (neg_ℤ (pos 1))) ∷ []) ≡ Some (direction v down)
unfolding are_terms
direction_form v true = ap (λ (b : Bool). (if (true && true) && ((b && true) && true) then Some (direction v true) else None)) (zero_le (var_number v))
direction_form v false = ap (λ (b : Bool). (if (true && true) && ((b && true) && true) then Some (direction v false) else None)) (zero_le (var_number v))

pub some_is : {T : Type 0} (o : Option T) (x : T) → o ≡ Some x → IsSome o
some_is None x e = absurd (none-some x e)
some_is (Some y) x e = search rules
