-- What is found word by word is, in ascending order, what there is.
use Rattle.std.proofs.Common.{◌≡◌, ℕ, zero, suc, ◌+◌, ◌<◌, ◌≤◌, ◌^◌, ◌==◌, Bool, true, false, ◌||◌, cond, Option, None, Some, List, [], ◌∷◌, length, drop, refl, sym, ap, subst, ◌∙◌, ⊎_elim, arith}
use Rattle.std.proofs.lemmas.Bool.{false≢true, eq-eqb, or_cases, or_right, eqb-true}
use Rattle.std.proofs.lemmas.Cmp.{ranked}
use Rattle.std.specs.List.{AllByRecursion, list_any}
use Rattle.std.specs.List.Sorted.{IsStrictlySortedBy}
use Rattle.std.specs.Option.{option_map_or}
use Rattle.std.specs.BTreeSet.{insert_key}
use Rattle.std.specs.Ordering.{nat_cmp, match_ordering}
use Rattle.std.specs.declared.cmp.Ordering.{Ordering}
use Rattle.std.specs.declared.cmp.Ordering.TheVariants.{Less, Equal, Greater}
use Rattle.std.proofs.lemmas.List.{at_drop_all}
use Rattle.std.proofs.lemmas.Option.{cond_some}
use Rattle.viper_word.specs.Fields.{fields_of}
use Rattle.viper_word.specs.declared.word.Word.{Word}
use Rattle.viper_word.proofs.Booleans.{or_swap}
use Rattle.memory_plan.specs.Images.{entries}
use Rattle.memory_plan.specs.Plans.{PlanLines}
use Rattle.flow_recover.specs.Cells.{named_by, is_cell, passing, AreCells, with_named}

-- is the number one of them?
abbrev pub is_one : ℕ → List ℕ → Bool
is_one q ks = list_any (λ c. c == q) ks

or_again : (a b : Bool) → (a || b) ≡ (a || (a || b))
or_again true b = refl
or_again false b = refl

or_move : (a b c : Bool) → ((a || b) || c) ≡ (b || (a || c))
or_move true true c = refl
or_move true false c = refl
or_move false b c = refl

or_none : (a : Bool) → a ≡ (a || false)
or_none true = refl
or_none false = refl

-- ---- the words, one after the other

-- what is found with the words still to be looked at
abbrev pub found_from : PlanLines → List ℕ → List (ℕ × ℕ) → List ℕ
found_from plan ks [] = ks
found_from plan ks (e ∷ es) =
    found_from plan (with_named plan e ks) es

insert_by : (x k q : ℕ) (xs : List ℕ) (o : Ordering) → nat_cmp k x ≡ o
    → is_one q (insert_key nat_cmp xs k) ≡ ((k == q) || is_one q xs)
    → is_one q (match_ordering o (k ∷ x ∷ xs) (x ∷ xs) (x ∷ insert_key nat_cmp xs k)) ≡ ((k == q) || ((x == q) || is_one q xs))
insert_by x k q xs Less e rest = refl
insert_by x k q xs Equal e rest =
    let same = ranked k x Equal (sym e) in
    subst (λ (y : ℕ). ((x == q) || is_one q xs) ≡ ((y == q) || ((x == q) || is_one q xs))) (sym same) (or_again (x == q) (is_one q xs))
insert_by x k q xs Greater e rest = ap (λ b. (x == q) || b) rest ∙ or_swap (x == q) (k == q) (is_one q xs)

insert_is_one : (ks : List ℕ) (k q : ℕ) → is_one q (insert_key nat_cmp ks k) ≡ ((k == q) || is_one q ks)
insert_is_one [] k q = refl
insert_is_one (x ∷ xs) k q = insert_by x k q xs (nat_cmp k x) refl (insert_is_one xs k q)

-- the word leads to that cell
abbrev leads_to : PlanLines → ℕ → ℕ × ℕ → Bool
leads_to plan q e = option_map_or (λ a. a == q) (named_by plan e) false

found_by : (plan : PlanLines) (ks : List ℕ) (es : List (ℕ × ℕ)) (q : ℕ) (o : Option ℕ)
    → ((ls : List ℕ) → is_one q (found_from plan ls es) ≡ (is_one q ls || list_any (leads_to plan q) es))
    → is_one q (found_from plan (option_map_or (insert_key nat_cmp ks) o ks) es) ≡ (is_one q ks || (option_map_or (λ a. a == q) o false || list_any (leads_to plan q) es))
found_by plan ks es q None rest = rest ks
found_by plan ks es q (Some a) rest =
    rest (insert_key nat_cmp ks a)
    ∙ ap (λ b. b || list_any (leads_to plan q) es) (insert_is_one ks a q)
    ∙ or_move (a == q) (is_one q ks) (list_any (leads_to plan q) es)

found_is_one : (plan : PlanLines) (ks : List ℕ) (es : List (ℕ × ℕ)) (q : ℕ)
    → is_one q (found_from plan ks es) ≡ (is_one q ks || list_any (leads_to plan q) es)
found_is_one plan ks [] q = or_none (is_one q ks)
found_is_one plan ks (e ∷ es) q = found_by plan ks es q (named_by plan e) (λ ls. found_is_one plan ls es q)

pub found_all : (plan : PlanLines) (ks : List ℕ) → ks ≡ found_from plan [] plan.image → AreCells plan ks
found_all plan ks e = record { has = λ q. ap (is_one q) e ∙ found_is_one plan [] plan.image q }

-- ---- ascending numbers are those that pass

pub record Within (at n k : ℕ) : Type 0 where
  pub low : at ≤ k
  pub high : k < at + n

all_of : (P : ℕ → Type 0) (ks : List ℕ) → ((q : ℕ) → is_one q ks ≡ true → P q) → AllByRecursion P ks
all_of P [] h = tt
all_of P (k ∷ ks) h = (h k (ap (λ b. b || is_one k ks) (eq-eqb k k refl)), all_of P ks (λ q e. h q (or_right (k == q) (is_one q ks) e)))

less_below : (x y : ℕ) → nat_cmp x y ≡ Less → x < y
less_below x y e = ranked x y Less (sym e)

-- numbers that are above the first one
all_above : (k at n : ℕ) (ks : List ℕ) → at ≤ k → AllByRecursion (λ y. nat_cmp k y ≡ Less) ks → AllByRecursion (Within at (suc n)) ks → AllByRecursion (Within (suc at) n) ks
all_above k at n [] l s w = tt
all_above k at n (y ∷ ys) l s w =
    let b = less_below k y s.0 in
    let h = w.0.high in
    (record { low = omega arith; high = omega arith }, all_above k at n ys l s.1 w.1)

apart_from : (y at : ℕ) → (y == at) ≡ false → y ≡ at → ⊥
apart_from y at e i = false≢true (sym e ∙ eq-eqb y at i)

none_here : (at n y : ℕ) (ys : List ℕ) (b : Bool) → (y == at) ≡ b → (b || is_one at ys) ≡ false → Within at (suc n) y
    → (is_one at ys ≡ false → AllByRecursion (Within (suc at) n) ys) → AllByRecursion (Within (suc at) n) (y ∷ ys)
none_here at n y ys true e h w rest = absurd (false≢true (sym h))
none_here at n y ys false e h w rest =
    let low = w.low in
    let high = w.high in
    let apart = apart_from y at e in
    (record { low = omega arith; high = omega arith }, rest h)

none_at : (at n : ℕ) (ks : List ℕ) → is_one at ks ≡ false → AllByRecursion (Within at (suc n)) ks → AllByRecursion (Within (suc at) n) ks
none_at at n [] m w = tt
none_at at n (y ∷ ys) m w = none_here at n y ys (y == at) refl m w.0 (λ h. none_at at n ys h w.1)

not_here : (k at y : ℕ) (ys : List ℕ) (b : Bool) → (y == at) ≡ b → at ≤ k → k < y → is_one at ys ≡ false → (b || is_one at ys) ≡ false
not_here k at y ys true e l m rest =
    let same = eqb-true y at e in
    absurd (omega arith)
not_here k at y ys false e l m rest = rest

is_least : (k at : ℕ) (ks : List ℕ) → at ≤ k → AllByRecursion (λ y. nat_cmp k y ≡ Less) ks → is_one at ks ≡ false
is_least k at [] l s = refl
is_least k at (y ∷ ys) l s = not_here k at y ys (y == at) refl l (less_below k y s.0) (is_least k at ys l s.1)

later : (k at q : ℕ) (ks : List ℕ) (b : Bool) → (k == q) ≡ b → k ≡ at → suc at ≤ q → is_one q ks ≡ (b || is_one q ks)
later k at q ks true e same l =
    let other = eqb-true k q e in
    absurd (omega arith)
later k at q ks false e same l = refl

-- where the first number passes
first_here : (p : ℕ → Bool) (at n k : ℕ) (ks : List ℕ) (b : Bool) → (k == at) ≡ b → (b || is_one at ks) ≡ true
    → AllByRecursion (λ y. nat_cmp k y ≡ Less) ks → AllByRecursion (Within at (suc n)) (k ∷ ks)
    → ((q : ℕ) → at ≤ q → is_one q (k ∷ ks) ≡ p q)
    → (AllByRecursion (Within (suc at) n) ks → ((q : ℕ) → suc at ≤ q → is_one q ks ≡ p q) → ks ≡ passing p (suc at) n)
    → k ∷ ks ≡ at ∷ passing p (suc at) n
first_here p at n k ks false e h s w m rest = absurd (false≢true (sym (is_least k at ks w.0.low s) ∙ h))
first_here p at n k ks true e h s w m rest =
    let same = eqb-true k at e in
    let tail = rest (all_above k at n ks w.0.low s w.1) (λ q l. later k at q ks (k == q) refl same l ∙ m q (omega arith)) in
    λ i. same i ∷ tail i

passing_first : (p : ℕ → Bool) (at n : ℕ) (ks : List ℕ) → IsStrictlySortedBy nat_cmp ks → AllByRecursion (Within at (suc n)) ks
    → ((q : ℕ) → at ≤ q → is_one q ks ≡ p q) → is_one at ks ≡ true
    → ((ls : List ℕ) → IsStrictlySortedBy nat_cmp ls → AllByRecursion (Within (suc at) n) ls → ((q : ℕ) → suc at ≤ q → is_one q ls ≡ p q) → ls ≡ passing p (suc at) n)
    → ks ≡ at ∷ passing p (suc at) n
unfolding IsStrictlySortedBy
passing_first p at n [] s w m h rest = absurd (false≢true h)
passing_first p at n (k ∷ ks) s w m h rest = first_here p at n k ks (k == at) refl h s.0 w m (λ v r. rest ks s.1 v r)

passing_by : (p : ℕ → Bool) (at n : ℕ) (ks : List ℕ) (b : Bool) → p at ≡ b → IsStrictlySortedBy nat_cmp ks → AllByRecursion (Within at (suc n)) ks
    → ((q : ℕ) → at ≤ q → is_one q ks ≡ p q)
    → ((ls : List ℕ) → IsStrictlySortedBy nat_cmp ls → AllByRecursion (Within (suc at) n) ls → ((q : ℕ) → suc at ≤ q → is_one q ls ≡ p q) → ls ≡ passing p (suc at) n)
    → ks ≡ cond b (at ∷ passing p (suc at) n) (passing p (suc at) n)
passing_by p at n ks true e s w m rest = passing_first p at n ks s w m (m at (omega arith) ∙ e) rest
passing_by p at n ks false e s w m rest = rest ks s (none_at at n ks (m at (omega arith) ∙ e) w) (λ q l. m q (omega arith))

pub passing_is : (p : ℕ → Bool) (at n : ℕ) (ks : List ℕ) → IsStrictlySortedBy nat_cmp ks → AllByRecursion (Within at n) ks
    → ((q : ℕ) → at ≤ q → is_one q ks ≡ p q) → ks ≡ passing p at n
unfolding passing
passing_is p at zero [] s w m = refl
passing_is p at zero (k ∷ ks) s w m =
    let low = w.0.low in
    let high = w.0.high in
    absurd (omega arith)
passing_is p at (suc n) ks s w m = passing_by p at n ks (p at) refl s w m (λ ls t v r. passing_is p (suc at) n ls t v r)

-- a cell is an address
named_small : (plan : PlanLines) (e : ℕ × ℕ) (q : ℕ) → option_map_or (λ a. a == q) (named_by plan e) false ≡ true → q < 2 ^ 20
unfolding fields_of
named_small plan e q h = by (named_by plan e) refl h
  where
    by : (o : Option ℕ) → named_by plan e ≡ o → option_map_or (λ a. a == q) o false ≡ true → q < 2 ^ 20
    by None i h = absurd (false≢true h)
    by (Some a) i h =
        let field = (cond_some _ (fields_of e.1).field a i).1 in
        let same = eqb-true a q h in
        omega arith

cell_small : (plan : PlanLines) (es : List (ℕ × ℕ)) (q : ℕ) → list_any (λ e. option_map_or (λ a. a == q) (named_by plan e) false) es ≡ true → q < 2 ^ 20
cell_small plan [] q h = absurd (false≢true h)
cell_small plan (e ∷ es) q h =
    ⊎_elim (λ (a : option_map_or (λ a. a == q) (named_by plan e) false ≡ true). named_small plan e q a)
    (λ (b : list_any (λ e. option_map_or (λ a. a == q) (named_by plan e) false) es ≡ true). cell_small plan es q b)
    (or_cases (option_map_or (λ a. a == q) (named_by plan e) false) (list_any (λ e. option_map_or (λ a. a == q) (named_by plan e) false) es) h)

pub cells_are : (plan : PlanLines) (ks : List ℕ) → AreCells plan ks → IsStrictlySortedBy nat_cmp ks → ks ≡ passing (is_cell plan) 0 (2 ^ 20)
cells_are plan ks h s =
    passing_is (is_cell plan) 0 (2 ^ 20) ks s (all_of (Within 0 (2 ^ 20)) ks (λ q e. let b = cell_small plan plan.image q (sym (h.has q) ∙ e) in record { low = omega arith; high = omega arith })) (λ q l. h.has q)

-- where no word is left
pub found_end : (plan : PlanLines) (ks : List ℕ) (ws : List (ℕ × Word)) (i : ℕ) → length ws ≤ i → found_from plan ks (entries (drop i ws)) ≡ ks
found_end plan ks ws i h = at_drop_all (λ (vs : List (ℕ × Word)). found_from plan ks (entries vs)) ws i h
