-- The terms of ranks: in order, of variables over the cells, and none is 0.
use Rattle.std.proofs.Common.{◌≡◌, ℕ, zero, suc, ◌+◌, ◌/◌, ◌<◌, ◌≤◌, Bool, true, false, cond, nat_lt, List, [], ◌∷◌, ◌++◌, refl, sym, subst, ◌∙◌, arith}
use Rattle.std.specs.Prelude.{ℤ, pos}
use Rattle.std.specs.Ordering.{int_eq}
use Rattle.std.specs.List.{AllByRecursion, Contains}
use Rattle.std.proofs.lemmas.Bool.{false≢true}
use Rattle.std.proofs.lemmas.Bool.Decides.{Decides-int_eq}
use Rattle.flag_relation.specs.declared.var.Var.{Var}
use Rattle.flag_relation.specs.Forms.{FormOf, var_number}
use Rattle.rank_form.specs.Weights.{var_at, terms_from, past, rate, scaled_terms}
use Rattle.rank_form.specs.Levels.{constant_form, shift, level}
use Rattle.strong_components.specs.declared.edge.Edge.{Edge}
use Rattle.strong_components.specs.Components.{part_at}
use Rattle.rank_shape.specs.declared.moves.Moves.{Moves}
use Rattle.rank_shape.specs.Nests.{inside, remaining}
use Rattle.rank_numbers.specs.Forms.{Forms}
use Rattle.rank_numbers.specs.Levels.{LevelOf}
use Rattle.rank_numbers.specs.Numbers.{HasNumbers, of_parts, PartNumbers, single, leveled}
use Rattle.rank_nest.specs.Candidates.{candidates, candidate_form}

-- the variables ascend from the number on, those of so many cells, and no coefficient is 0
abbrev pub AreOrdered : ℕ → ℕ → List (Var × ℤ) → Type 0
AreOrdered count from [] = Unit {0}
AreOrdered count from (t ∷ terms) = (from ≤ var_number t.0) × (var_number t.0 < 3 + count) × (t.1 ≡ pos 0 → ⊥) × AreOrdered count (var_number t.0 + 1) terms

abbrev pub IsOver : ℕ → Var × ℤ → Type 0
IsOver count t = var_number t.0 < 3 + count

at_number : (k : ℕ) → var_number (var_at k) ≡ k
at_number zero = refl
at_number (suc zero) = refl
at_number (suc (suc zero)) = refl
at_number (suc (suc (suc i))) = omega arith

weaker : (count i j : ℕ) (ts : List (Var × ℤ)) → i ≤ j → AreOrdered count j ts → AreOrdered count i ts
weaker count i j [] l h = tt
weaker count i j (t ∷ ts) l h = let low = h.0 in (omega arith, h.1, h.2, h.3)

one_term : (count k : ℕ) (c : ℤ) (b : Bool) (rest : List (Var × ℤ)) → int_eq c (pos 0) ≡ b → k < 3 + count → AreOrdered count (suc k) rest
    → AreOrdered count k (cond b [] ((var_at k, c) ∷ []) ++ rest)
one_term count k c true rest e l h = weaker count k (suc k) rest (omega arith) h
one_term count k c false rest e l h =
    let n = at_number k in
    (omega arith, omega arith, λ z. false≢true (sym e ∙ (Decides-int_eq c (pos 0)).1 z), weaker count (var_number (var_at k) + 1) (suc k) rest (omega arith) h)

from_ordered : (g : Var → ℤ) (count k m : ℕ) → k + m ≤ 3 + count → AreOrdered count k (terms_from g k m)
unfolding terms_from
from_ordered g count k zero l = tt
from_ordered g count k (suc m) l = one_term count k (g (var_at k)) (int_eq (g (var_at k)) (pos 0)) (terms_from g (suc k) m) refl (omega arith) (from_ordered g count (suc k) m (omega arith))

past_over : (count : ℕ) (ts : List (Var × ℤ)) → AllByRecursion (IsOver count) ts → past ts ≤ 3 + count
unfolding past
past_over count [] h = omega arith
past_over count (t ∷ ts) h =
    let rest = past_over count ts h.1 in
    let first = h.0 in
    by (nat_lt (var_number t.0) (past ts)) rest (omega arith)
  where
    by : (b : Bool) → past ts ≤ 3 + count → var_number t.0 + 1 ≤ 3 + count → cond b (past ts) (var_number t.0 + 1) ≤ 3 + count
    by true r f = r
    by false r f = f

over_of : (count i : ℕ) (ts : List (Var × ℤ)) → AreOrdered count i ts → AllByRecursion (IsOver count) ts
over_of count i [] h = tt
over_of count i (t ∷ ts) h = (h.1, over_of count (var_number t.0 + 1) ts h.3)

both_over : (count : ℕ) (ss ts : List (Var × ℤ)) → AllByRecursion (IsOver count) ss → AllByRecursion (IsOver count) ts → AllByRecursion (IsOver count) (ss ++ ts)
both_over count [] ts h k = k
both_over count (s ∷ ss) ts h k = (h.0, both_over count ss ts h.1 k)

level_ordered : (count c : ℕ) (t low : ℤ) (f : FormOf) → c < candidates count → AreOrdered count 0 f.terms → AreOrdered count 0 (level t (candidate_form c) low f).terms
unfolding level
level_ordered count c t low f l h =
    let ts = scaled_terms t (candidate_form c).terms ++ f.terms in
    let number = at_number (c / 2) in
    let small : var_number (var_at (c / 2)) < 3 + count = omega arith in
    let under = past_over count ts (both_over count (scaled_terms t (candidate_form c).terms) f.terms (small, tt) (over_of count 0 f.terms h)) in
    from_ordered (rate ts) count 0 (past ts) (omega (arith, under))

module _ (o : Forms FormOf) (m : Moves) (count : ℕ) (few : m.count ≡ candidates count) (one : o.one ≡ constant_form (pos 1))
    (lift : (t : ℤ) (c : ℕ) (low : ℤ) (f : FormOf) → o.level t c low f ≡ level t (candidate_form c) low f) (move : (f : FormOf) (n : ℤ) → o.shift f n ≡ shift f n) where
  mutual
    pub graph_ordered : (keys : List ℕ) (edges : List Edge) (form : ℕ → FormOf) (total : ℤ) (ls : List LevelOf) → HasNumbers FormOf o m keys edges form total ls
        → (k : ℕ) → Contains keys k → AreOrdered count 0 (form k).terms
    graph_ordered keys edges form total _ (of_parts parts local greatest offset levels comps len have is small lim) k within =
        let part = comps.covered within.0 k within.1 in
        let inside_part : Contains (part_at parts part.0) k = subst (Contains (part_at parts part.0)) within.2 part.2 in
        let mine = part_ordered (part_at parts part.0) (inside (part_at parts part.0) edges) local (greatest part.0) _ (have part.0 part.1) k inside_part in
        subst (λ (f : FormOf). AreOrdered count 0 f.terms) (sym (is.forms part.0 k part.1 inside_part ∙ move (local k) (offset part.0))) mine

    part_ordered : (part : List ℕ) (edges : List Edge) (form : ℕ → FormOf) (greatest : ℤ) (ls : List LevelOf) → PartNumbers FormOf o m part edges form greatest ls
        → (k : ℕ) → Contains part k → AreOrdered count 0 (form k).terms
    part_ordered part edges form _ _ (single none ones) k within = subst (λ (f : FormOf). AreOrdered count 0 f.terms) (sym (ones k within ∙ one)) tt
    part_ordered part edges form greatest _ (leveled c weight low inner levels have is small great lim) k within =
        let under = is.first.fits.in_count in
        let mine = graph_ordered part (remaining m c edges) inner weight levels have k within in
        subst (λ (f : FormOf). AreOrdered count 0 f.terms) (sym (is.forms k within ∙ lift weight c low (inner k))) (level_ordered count c weight low (inner k) (omega (arith, few, under)) mine)
