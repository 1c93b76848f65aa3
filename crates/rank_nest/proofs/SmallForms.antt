-- Small forms are within the limits of forms.
use Rattle.std.specs.Prelude.{◌≡◌, ℕ, zero, suc, ◌+◌, ◌^◌, ◌<◌, ◌≤◌, nat_le, ℤ, pos, unsigned_abs, Bool, true, false, ◌&&◌, cond, if◌then◌else◌, List, [], ◌∷◌, ◌++◌, length, Some, None}
use Rattle.std.specs.List.{list_all}
use Rattle.std.specs.Ordering.{int_eq}
use Rattle.std.proofs.Common.{refl, arith, ap, subst, ⊎_elim}
use Rattle.std.proofs.lemmas.Int.{ints}
use Rattle.std.proofs.lemmas.Bool.{and_parts, and_from, false≢true}
use Rattle.flag_relation.specs.declared.var.Var.{Var}
use Rattle.flag_relation.specs.Forms.{FormOf, is_within, are_terms, is_form, form_of}
use Rattle.rank_form.specs.Weights.{rate, var_at, terms_from, past, merged}
use Rattle.rank_form.specs.Levels.{shift, stacked, level}
use Rattle.rank_form.proofs.Fitting.{from_terms}
use Rattle.rank_nest.specs.declared.limits.TheConstants.{MOST_COEFFICIENT, MOST_CONSTANT}
use Rattle.rank_nest.specs.Forms.{is_small, if_small}

abbrev are_small : List (Var × ℤ) → Bool
are_small ts = list_all (λ t. is_within MOST_COEFFICIENT t.1) ts

constant_wider : (z : ℤ) → is_within MOST_CONSTANT z ≡ true → is_within (pos (2 ^ 77)) z ≡ true
constant_wider z h = grind (arith, ints, and_parts, and_from)

coefficient_small : (z : ℤ) → is_within MOST_COEFFICIENT z ≡ true → unsigned_abs z ≤ 2 ^ 43
coefficient_small z h = grind (arith, ints, and_parts)

zero_small : (z : ℤ) → int_eq z (pos 0) ≡ true → unsigned_abs z ≤ 2 ^ 43
zero_small z h = grind (arith, ints)

-- each coefficient is small where those that are terms are
each_small : (g : Var → ℤ) (k m : ℕ) → are_small (terms_from g k m) ≡ true → (i : ℕ) → k ≤ i → i < k + m → unsigned_abs (g (var_at i)) ≤ 2 ^ 43
unfolding terms_from
each_small g k zero h i le lt = absurd (omega arith)
each_small g k (suc m) h i le lt = by (int_eq (g (var_at k)) (pos 0)) refl h (λ r. each_small g (suc k) m r i)
  where
    first : (j : ℕ) → unsigned_abs (g (var_at k)) ≤ 2 ^ 43 → (suc k ≤ j → j < suc k + m → unsigned_abs (g (var_at j)) ≤ 2 ^ 43) → k ≤ j → j < k + suc m → unsigned_abs (g (var_at j)) ≤ 2 ^ 43
    first j here rest a b =
        ⊎_elim (λ (e : k ≡ j). subst (λ (n : ℕ). unsigned_abs (g (var_at n)) ≤ 2 ^ 43) e here) (λ (more : suc k ≤ j). rest more (omega arith)) (grind arith)

    by : (b : Bool) → int_eq (g (var_at k)) (pos 0) ≡ b → are_small (cond b [] ((var_at k, g (var_at k)) ∷ []) ++ terms_from g (suc k) m) ≡ true
        → (are_small (terms_from g (suc k) m) ≡ true → suc k ≤ i → i < suc k + m → unsigned_abs (g (var_at i)) ≤ 2 ^ 43) → unsigned_abs (g (var_at i)) ≤ 2 ^ 43
    by true e s rest = first i (zero_small (g (var_at k)) e) (rest s) le lt
    by false e s rest =
        let p = and_parts (is_within MOST_COEFFICIENT (g (var_at k))) (are_small (terms_from g (suc k) m)) s in
        first i (coefficient_small (g (var_at k)) p.0) (rest p.1) le lt

-- what smallness says
small_parts : (f : FormOf) → is_small f ≡ true → (nat_le (length f.terms) 8 ≡ true) × (is_within MOST_CONSTANT f.constant ≡ true) × (are_small f.terms ≡ true)
unfolding is_small
small_parts f h =
    let p = and_parts (nat_le (length f.terms) 8 && is_within MOST_CONSTANT f.constant) (are_small f.terms) h in
    let q = and_parts (nat_le (length f.terms) 8) (is_within MOST_CONSTANT f.constant) p.0 in
    (q.0, q.1, p.1)

makes : (f : FormOf) → is_small f ≡ true → are_terms 0 f.terms ≡ true → is_form f.constant f.terms ≡ true
makes f h t =
    let p = small_parts f h in
    and_from _ _ (and_from _ _ p.0 (constant_wider f.constant p.1)) t

pub level_form : (t : ℤ) (w : FormOf) (low : ℤ) (f : FormOf) → is_small (level t w low f) ≡ true → is_form (level t w low f).constant (level t w low f).terms ≡ true
unfolding level
level_form t w low f h =
    let g = stacked t w low f in
    let p = small_parts (merged g) h in
    makes (merged g) h (from_terms (rate g.terms) 0 (past g.terms) (each_small (rate g.terms) 0 (past g.terms) p.2))

pub shift_form : (f : FormOf) (n : ℤ) → is_form f.constant f.terms ≡ true → is_small (shift f n) ≡ true → is_form (shift f n).constant (shift f n).terms ≡ true
shift_form f n e h = makes (shift f n) h (and_parts (nat_le (length f.terms) 8 && is_within (pos (2 ^ 77)) f.constant) (are_terms 0 f.terms) e).1

-- ---- a form that is tested twice

tested : (f : FormOf) (b c : Bool) → is_small f ≡ c → (c ≡ true → b ≡ true) → if_small (if b then Some f else None) ≡ cond c (Some f) None
tested f true c e h = ap (λ (x : Bool). cond x (Some f) None) e
tested f false true e h = absurd (false≢true (h refl))
tested f false false e h = refl

pub tested_twice : (f : FormOf) → (is_small f ≡ true → is_form f.constant f.terms ≡ true) → if_small (form_of f.constant f.terms) ≡ cond (is_small f) (Some f) None
tested_twice f h = tested f (is_form f.constant f.terms) (is_small f) refl h
