-- The number of a key of a solution, as it compares with the key of another number.
use Rattle.std.proofs.Common.{◌≡◌, ℕ, zero, suc, ◌<◌, ◌≤◌, ◌⊎◌, true, false, List, [], ◌∷◌, length, get_or, refl, sym, ap, ◌∙◌, ⊎_elim, arith}
use Rattle.std.specs.List.{AllByRecursion}
use Rattle.std.specs.List.Sorted.{IsStrictlySortedBy}
use Rattle.std.specs.Ordering.{is_lt, ordering_reverse}
use Rattle.std.specs.declared.cmp.Ordering.TheVariants.{Less}
use Rattle.std.proofs.lemmas.Bool.{true≢false}
use Rattle.flow_recover.specs.declared.key.Key.{Key}
use Rattle.flow_recover.specs.Keys.{key_cmp}
use Rattle.flow_recover.proofs.KeyLemmas.{key_cmp-itself}
use Rattle.fix_solver.specs.Solved.{NodeOf, facts_of}
use Rattle.fix_solver.specs.Tables.{keys_of, place}
use Rattle.fix_solver.proofs.NumberLemmas.{key_at}
use Rattle.fix_solver.proofs.OrderedFacts.{key_cmp_total}

one_after : (k : Key) (ks : List Key) (j : ℕ) (x : Key) → AllByRecursion (λ l. key_cmp k l ≡ Less) ks → j < length ks → key_cmp k (get_or ks j x) ≡ Less
one_after k [] j x h l = absurd (omega arith)
one_after k (y ∷ ys) zero x h l = h.0
one_after k (y ∷ ys) (suc j) x h l = one_after k ys j x h.1 (omega arith)

-- of keys that ascend, each is less than each later one
later : (ks : List Key) (i j : ℕ) (x y : Key) → IsStrictlySortedBy key_cmp ks → i < j → j < length ks → key_cmp (get_or ks i x) (get_or ks j y) ≡ Less
unfolding IsStrictlySortedBy
later [] i j x y h l b = absurd (omega arith)
later (k ∷ ks) zero zero x y h l b = absurd (omega arith)
later (k ∷ ks) zero (suc j) x y h l b = one_after k ks j y h.0 (omega arith)
later (k ∷ ks) (suc i) zero x y h l b = absurd (omega arith)
later (k ∷ ks) (suc i) (suc j) x y h l b = later ks i j x y h.1 (omega arith) (omega arith)

keys_read : {F : Type 0} (ns : List (NodeOf F)) (i : ℕ) (l : Key) → i < length ns → ((e : NodeOf F) → l ≡ (get_or ns i e).key) → get_or (keys_of (facts_of ns)) i l ≡ l
keys_read [] i l b at = absurd (omega arith)
keys_read (n ∷ ns) zero l b at = sym (at n)
keys_read (n ∷ ns) (suc i) l b at = keys_read ns i l (omega arith) at

keys_length : {F : Type 0} (ns : List (NodeOf F)) → length (keys_of (facts_of ns)) ≡ length ns
keys_length [] = refl
keys_length (n ∷ ns) = ap suc (keys_length ns)

order : (i p : ℕ) → (p < i) ⊎ (i ≤ p)
order i p = grind arith

module _ {F : Type 0} (ns : List (NodeOf F)) (k l : Key) (i : ℕ) (up : IsStrictlySortedBy key_cmp (keys_of (facts_of ns))) (there : place (facts_of ns) k < length ns)
    (low : i < length ns) (at : (e : NodeOf F) → l ≡ (get_or ns i e).key) where
  abbrev ks : List Key
  ks = keys_of (facts_of ns)

  here : get_or ks (place (facts_of ns) k) k ≡ k
  here = let long = keys_length ns in key_at ks k k (omega (arith, long, there))

  is_key : get_or ks i l ≡ l
  is_key = keys_read ns i l low at

  long : length ks ≡ length ns
  long = keys_length ns

  -- a key that is less than the one at a number has a number below it
  pub below : is_lt (key_cmp k l) ≡ true → place (facts_of ns) k < i
  below h =
      ⊎_elim (λ (b : place (facts_of ns) k < i). b)
      (λ (a : i ≤ place (facts_of ns) k). absurd (⊎_elim
      (λ (e : i ≡ place (facts_of ns) k). same e)
      (λ (b : i < place (facts_of ns) k). after b)
      (split a)))
      (order i (place (facts_of ns) k))
    where
      split : i ≤ place (facts_of ns) k → (i ≡ place (facts_of ns) k) ⊎ (i < place (facts_of ns) k)
      split a = grind arith

      same : i ≡ place (facts_of ns) k → ⊥
      same e =
          let one : l ≡ k = at_one e in
          true≢false (sym h ∙ ap is_lt (ap (key_cmp k) one ∙ key_cmp-itself k))
        where
          at_one : i ≡ place (facts_of ns) k → l ≡ k
          at_one e = sym is_key ∙ ap (λ (j : ℕ). get_or ks j l) e ∙ key_at ks k l (let m = long in omega (arith, m, there))

      after : i < place (facts_of ns) k → ⊥
      after b =
          let m = long in
          let less : key_cmp l k ≡ Less = sym (λ j. key_cmp (is_key j) (here j)) ∙ later ks i (place (facts_of ns) k) l k up b (omega (arith, m, there)) in
          true≢false (sym h ∙ ap is_lt (key_cmp_total.antisymm k l ∙ ap ordering_reverse less))

  -- and no other has
  pub above : is_lt (key_cmp k l) ≡ false → i ≤ place (facts_of ns) k
  above h =
      ⊎_elim
      (λ (b : place (facts_of ns) k < i).
      let m = long in
      let less : key_cmp k l ≡ Less = sym (λ j. key_cmp (here j) (is_key j)) ∙ later ks (place (facts_of ns) k) i k l up b (omega (arith, m, low)) in
      absurd (true≢false (sym (ap is_lt less) ∙ h)))
      (λ (a : i ≤ place (facts_of ns) k). a)
      (order i (place (facts_of ns) k))
