-- The cells of a plan, as a certificate has them.
use Rattle.std.proofs.Common.{◌≡◌, ℕ, zero, suc, ◌+◌, ◌<◌, ◌≤◌, ◌^◌, Bool, true, false, cond, ◌&&◌, ◌||◌, ◌==◌, List, [], ◌∷◌, take, Some, None, is_some, refl, sym, ap, subst, ◌∙◌, ⊎_elim, arith}
use Rattle.std.specs.List.{AllByRecursion, list_any}
use Rattle.std.specs.Option.{option_map_or}
use Rattle.std.proofs.lemmas.Bool.{false≢true, eqb-true, cases_Bool}
use Rattle.memory_plan.specs.Plans.{PlanLines, in_code, range_at}
use Rattle.viper_word.specs.Fields.{Fields, fields_of}
use Rattle.flow_recover.specs.Cells.{names_memory, named_by, is_cell, passing, cells_of}
use Rattle.cert_format.specs.Limits.{AreCells}
use Rattle.cert_checker.specs.Conditions.{is_data}

weaker : (from : ℕ) (cs : List ℕ) → AreCells (suc from) cs → AreCells from cs
weaker from [] h = tt
weaker from (c ∷ cs) h = let low = h.0 in (omega arith, h.1, h.2)

one_more : (p : ℕ → Bool) (at n k : ℕ) (b : Bool) (rest : List ℕ) → at < 2 ^ 20 → ((j : ℕ) → AreCells (suc at) (take j rest)) → AreCells at (take k (cond b (at ∷ rest) rest))
one_more p at n zero true rest l h = tt
one_more p at n (suc k) true rest l h =
    let next : suc at ≡ at + 1 = omega arith in
    (omega arith, l, subst (λ m. AreCells m (take k rest)) next (h k))
one_more p at n k false rest l h = weaker at (take k rest) (h k)

cells_in : (p : ℕ → Bool) (at n k : ℕ) → at + n ≤ 2 ^ 20 → AreCells at (take k (passing p at n))
unfolding passing
cells_in p at zero zero l = tt
cells_in p at zero (suc k) l = tt
cells_in p at (suc n) k l = one_more p at n k (p at) (passing p (suc at) n) (omega arith) (λ j. cells_in p (suc at) n j (omega arith))

-- they ascend, and are addresses
pub cells_ascend : (plan : PlanLines) → AreCells 0 (cells_of plan)
cells_ascend plan = cells_in (is_cell plan) 0 (2 ^ 20) 32 (omega arith)

one_pass : (P : ℕ → Type 0) (at k : ℕ) (b : Bool) (rest : List ℕ) → (b ≡ true → P at) → ((j : ℕ) → AllByRecursion P (take j rest)) → AllByRecursion P (take k (cond b (at ∷ rest) rest))
one_pass P at zero true rest f h = tt
one_pass P at (suc k) true rest f h = (f refl, h k)
one_pass P at k false rest f h = h k

all_pass : (P : ℕ → Type 0) (p : ℕ → Bool) → ((a : ℕ) → p a ≡ true → P a) → (at n k : ℕ) → AllByRecursion P (take k (passing p at n))
unfolding passing
all_pass P p f at zero zero = tt
all_pass P p f at zero (suc k) = tt
all_pass P p f at (suc n) k = one_pass P at k (p at) (passing p (suc at) n) (f at) (λ j. all_pass P p f (suc at) n j)

named_data : (plan : PlanLines) (at field : ℕ) (b c d : Bool) → is_some (range_at plan.«data» field) ≡ d
    → option_map_or (λ a. a == at) (cond (b && (c && d)) (Some field) None) false ≡ true → is_data plan at ≡ true
named_data plan at field true true true e h = ap (λ a. is_some (range_at plan.«data» a)) (sym (eqb-true field at h)) ∙ e
named_data plan at field true true false e h = absurd (false≢true h)
named_data plan at field true false d e h = absurd (false≢true h)
named_data plan at field false c d e h = absurd (false≢true h)

any_data : (plan : PlanLines) (at : ℕ) (es : List (ℕ × ℕ)) → list_any (λ e. option_map_or (λ a. a == at) (named_by plan e) false) es ≡ true → is_data plan at ≡ true
any_data plan at [] h = absurd (false≢true h)
any_data plan at (e ∷ es) h =
    ⊎_elim
    (λ (t : option_map_or (λ a. a == at) (named_by plan e) false ≡ true).
    let i : Fields = fields_of e.1 in
    named_data plan at i.field (in_code plan e.0) (names_memory i) (is_some (range_at plan.«data» i.field)) refl t)
    (λ (f : option_map_or (λ a. a == at) (named_by plan e) false ≡ false).
    any_data plan at es (sym (ap (λ b. b || list_any (λ x. option_map_or (λ a. a == at) (named_by plan x) false) es) f) ∙ h))
    (cases_Bool (option_map_or (λ a. a == at) (named_by plan e) false))

-- each is a word of data
pub cells_data : (plan : PlanLines) → AllByRecursion (λ at. is_data plan at ≡ true) (cells_of plan)
cells_data plan = all_pass (λ at. is_data plan at ≡ true) (is_cell plan) (λ a h. any_data plan a plan.image h) 0 (2 ^ 20) 32
