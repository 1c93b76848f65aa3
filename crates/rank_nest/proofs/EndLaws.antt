-- What is told of edges and levels.
use Rattle.std.specs.Prelude.{◌≡◌, ℕ, zero, suc, ◌+◌, ◌<◌, Bool, true, false, cond, ◌&&◌, ◌||◌, nat_eq, List, [], ◌∷◌, ◌++◌, map, length, get_or, take}
use Rattle.std.specs.List.{All, AllByRecursion, list_any}
use Rattle.std.specs.Ordering.{nat_cmp, ordering_then, is_eq}
use Rattle.std.specs.declared.cmp.Ordering.{Ordering}
use Rattle.std.specs.declared.cmp.Ordering.TheVariants.{Less, Equal, Greater}
use Rattle.std.proofs.Common.{refl, arith, sym, ap, subst, ◌∙◌, ⊎_elim}
use Rattle.std.proofs.lemmas.Bool.{and_parts, and_from, eqb-true, eq-eqb, cases_Bool, false≢true, or_right}
use Rattle.std.proofs.lemmas.List.Elements.{recursion_from_All}
use Rattle.std.proofs.Math.Path.{ap₂}
use Rattle.std.proofs.lemmas.Bool.Decides.{nat_tests}
use Rattle.std.proofs.lemmas.List.{length-map, map-append, take_more}
use Rattle.strong_components.specs.declared.edge.Edge.{Edge}
use Rattle.rank_numbers.specs.declared.level.Level.{Level}
use Rattle.rank_numbers.specs.Levels.{level_of, levels_of}
use Rattle.rank_nest.specs.declared.telling.Ends.{Ends}
use Rattle.rank_nest.specs.Told.{IsTellable, ends_cmp, same_ends, ends_of, AreEnds}
use Rattle.viper_word.proofs.Booleans.{or_swap}

eq_nat : (x n : ℕ) → is_eq (nat_cmp x n) ≡ nat_eq n x
eq_nat x n = grind (arith, nat_tests)

eq_then : (o p : Ordering) → is_eq (ordering_then o p) ≡ (is_eq o && is_eq p)
eq_then Less p = refl
eq_then Equal p = refl
eq_then Greater p = refl

pub eq_ends : (q p : Ends) → is_eq (ends_cmp q p) ≡ same_ends p q
eq_ends q p = eq_then (nat_cmp q.from p.from) (nat_cmp q.to p.to) ∙ ap₂ ◌&&◌ (eq_nat q.from p.from) (eq_nat q.to p.to)

pub any_ends : (ends : List Ends) (p : Ends) → list_any (same_ends p) ends ≡ list_any (λ k. is_eq (ends_cmp p k)) ends
any_ends [] p = refl
any_ends (e ∷ es) p = ap₂ ◌||◌ (turned ∙ sym (eq_ends p e)) (any_ends es p)
  where
    turned : same_ends p e ≡ same_ends e p
    turned = ap₂ ◌&&◌ (swap p.from e.from) (swap p.to e.to)
      where
        swap : (x n : ℕ) → nat_eq x n ≡ nat_eq n x
        swap x n = grind (arith, nat_tests)

any_push : {A : Type 0} (t : A → Bool) (xs : List A) (x : A) → list_any t (xs ++ x ∷ []) ≡ (t x || list_any t xs)
any_push t [] x = refl
any_push t (y ∷ ys) x = ap (λ b. t y || b) (any_push t ys x) ∙ or_swap (t y) (t x) (list_any t ys)

or_cond : (b c : Bool) → cond b true c ≡ (b || c)
or_cond true c = refl
or_cond false c = refl

pub ends_more : (edges : List Edge) (i : ℕ) (e : Edge) (p : Ends) (old : Bool) → i < length edges → old ≡ list_any (same_ends p) (map ends_of (take i edges))
    → cond (is_eq (ends_cmp (ends_of (get_or edges i e)) p)) true old ≡ list_any (same_ends p) (map ends_of (take (i + 1) edges))
ends_more edges i e p old h o =
    let q = ends_of (get_or edges i e) in
    or_cond (is_eq (ends_cmp q p)) old ∙ ap₂ ◌||◌ (eq_ends q p) o ∙ sym (any_push (same_ends p) (map ends_of (take i edges)) q)
    ∙ sym (ap (list_any (same_ends p)) (ap (map ends_of) (take_more edges i e h) ∙ map-append ends_of (take i edges) (get_or edges i e ∷ [])))

-- ---- levels

map_get : {A B : Type 0} (f : A → B) (xs : List A) (i : ℕ) (x : A) (y : B) → i < length xs → get_or (map f xs) i y ≡ f (get_or xs i x)
map_get f [] i x y h = absurd (omega arith)
map_get f (z ∷ zs) zero x y h = refl
map_get f (z ∷ zs) (suc i) x y h = map_get f zs i x y (omega arith)

pub tellable_get : (levels : List Level) (i : ℕ) (l : Level) → All IsTellable (levels_of levels) → i < length levels → l ≡ get_or levels i l → IsTellable (level_of l)
tellable_get levels i l all h is =
    let long : length (levels_of levels) ≡ length levels = length-map levels level_of in
    let one = all i (level_of l) (omega arith) in
    subst (λ (k : Level). IsTellable (level_of k)) (sym is) (subst IsTellable (map_get level_of levels i l (level_of l) h) one)

pub told_more : {A B C : Type 0} (f : B → C) (g : A → C) (out : List B) (ins : List A) (i : ℕ) (b : B) (a : A) → i < length ins → a ≡ get_or ins i a → f b ≡ g a
    → map f out ≡ map g (take i ins) → map f (out ++ b ∷ []) ≡ map g (take (i + 1) ins)
told_more f g out ins i b a h is one o =
    map-append f out (b ∷ []) ∙ ap₂ (λ l x. l ++ x ∷ []) o (one ∙ ap g is) ∙ sym (map-append g (take i ins) (get_or ins i a ∷ []))
    ∙ ap (map g) (sym (take_more ins i a h))

-- ---- keys of ends

same_itself : (p : Ends) → same_ends p p ≡ true
same_itself p = and_from (nat_eq p.from p.from) (nat_eq p.to p.to) (eq-eqb p.from p.from refl) (eq-eqb p.to p.to refl)

self_any : (ends : List Ends) (i : ℕ) (z : Ends) → i < length ends → list_any (same_ends (get_or ends i z)) ends ≡ true
self_any [] i z h = absurd (omega arith)
self_any (e ∷ es) zero z h = ap (λ b. b || list_any (same_ends e) es) (same_itself e)
self_any (e ∷ es) (suc i) z h = or_right (same_ends (get_or es i z) e) (list_any (same_ends (get_or es i z)) es) (self_any es i z (omega arith))

any_below : (n : ℕ) (edges : List Edge) (p : Ends) → AllByRecursion (λ e. (e.from < n) × (e.to < n)) edges → list_any (same_ends p) (map ends_of edges) ≡ true → (p.from < n) × (p.to < n)
any_below n [] p h a = absurd (false≢true a)
any_below n (e ∷ es) p h a =
    ⊎_elim
    (λ (t : same_ends p (ends_of e) ≡ true).
    let q = and_parts (nat_eq p.from e.from) (nat_eq p.to e.to) t in
    let x = eqb-true p.from e.from q.0 in
    let y = eqb-true p.to e.to q.1 in
    (subst (λ k. k < n) (sym x) h.0.0, subst (λ k. k < n) (sym y) h.0.1))
    (λ (f : same_ends p (ends_of e) ≡ false). any_below n es p h.1 (sym (ap (λ b. b || list_any (same_ends p) (map ends_of es)) f) ∙ a))
    (cases_Bool (same_ends p (ends_of e)))

pub ends_below : (n : ℕ) (edges : List Edge) (ends : List Ends) (i : ℕ) (z : Ends) → AreEnds edges ends → All (λ e. (e.from < n) × (e.to < n)) edges → i < length ends
    → ((get_or ends i z).from < n) × ((get_or ends i z).to < n)
ends_below n edges ends i z are all h =
    any_below n edges (get_or ends i z) (recursion_from_All (λ e. (e.from < n) × (e.to < n)) edges all) (sym (are.same (get_or ends i z)) ∙ self_any ends i z h)
