-- A table by the numbers of its keys.
use Rattle.std.proofs.Common.{◌≡◌, ℕ, suc, ◌+◌, ◌<◌, false, ◌||◌, Option, None, Some, MatchOption, IsSomeAnd, List, [], ◌∷◌, ◌++◌, length, set, get_or, refl, sym, ap, subst, ◌∙◌, arith}
use Rattle.std.proofs.lemmas.Bool.{true≢false}
use Rattle.std.proofs.lemmas.List.{length-map}
use Rattle.std.proofs.Math.Seq.{map-set_same}
use Rattle.std.proofs.lemmas.Map.Keys.{IsDistinct-push}
use Rattle.std.specs.List.{list_any, IsDistinct}
use Rattle.flow_recover.specs.declared.key.Key.{Key}
use Rattle.flow_recover.specs.Keys.{same_key}
use Rattle.flow_recover.proofs.KeyLemmas.{same_key-true, same_key_equiv}
use Rattle.fix_solver.specs.declared.at.At.{At}
use Rattle.fix_solver.specs.Rules.{Rules}
use Rattle.fix_solver.specs.Tables.{IsNumber, IsPlace, IsTable, keys_of, fact_at, place, joined, given}
use Rattle.fix_solver.proofs.Given.{by_bool, if_true, if_false, of_cond}

module _ {F : Type 0} where
  pub here_below : (es : List (At F)) (k : Key) → place es k < length es → IsSomeAnd (fact_at es k) (λ f. Unit {0})
  here_below [] k h = absurd (omega arith)
  here_below (x ∷ xs) k h =
      of_cond (λ o. IsSomeAnd o (λ f. Unit {0})) (same_key k x.key) (Some x.fact) (fact_at xs k) (λ t. tt)
      (λ t. let e = if_false (same_key k x.key) 0 (suc (place xs k)) t in here_below xs k (omega arith))

  absent_fact : (es : List (At F)) (k : Key) → list_any (same_key k) (keys_of es) ≡ false → fact_at es k ≡ None
  absent_fact [] k h = refl
  absent_fact (x ∷ xs) k h =
      by_bool (same_key k x.key) (λ t. absurd (true≢false (sym (ap (λ b. b || list_any (same_key k) (keys_of xs)) t) ∙ h)))
      (λ t. if_false (same_key k x.key) _ _ t ∙ absent_fact xs k (sym (ap (λ b. b || list_any (same_key k) (keys_of xs)) t) ∙ h))

  -- what a look-up of the number of a key tells
  pub found : (es : List (At F)) (k : Key) (r : Option ℕ) → MatchOption r (list_any (same_key k) (keys_of es) ≡ false) (IsNumber (keys_of es) k) → MatchOption r (fact_at es k ≡ None) (IsPlace es k)
  found es k None h = absent_fact es k h
  found es k (Some i) h =
      let at = h.number in
      let below : i < length es = subst (λ n. i < n) (length-map es (λ (x : At F). x.key)) h.below in
      record { here = here_below es k (omega arith); number = at; below = below }

  -- the fact at the number of a key is the one at the key
  pub at_place : (es : List (At F)) (k : Key) (d : At F) → IsSomeAnd (fact_at es k) (λ f. Unit {0}) → ((get_or es (place es k) d).key ≡ k) × (fact_at es k ≡ Some (get_or es (place es k) d).fact)
  at_place [] k d h = absurd h
  at_place (x ∷ xs) k d h =
      of_cond (λ n. ((get_or (x ∷ xs) n d).key ≡ k) × (fact_at (x ∷ xs) k ≡ Some (get_or (x ∷ xs) n d).fact)) (same_key k x.key) 0 (suc (place xs k))
      (λ t. (sym (same_key-true k x.key t), if_true (same_key k x.key) _ _ t))
      (λ t. let rest = at_place xs k d (subst (λ o. IsSomeAnd o (λ f. Unit {0})) (if_false (same_key k x.key) _ _ t) h) in
      (rest.0, if_false (same_key k x.key) _ _ t ∙ rest.1))

  pub absent_key : (es : List (At F)) (k : Key) → fact_at es k ≡ None → list_any (same_key k) (keys_of es) ≡ false
  absent_key [] k h = refl
  absent_key (x ∷ xs) k h =
      by_bool (same_key k x.key)
      (λ t. let bad : Some x.fact ≡ None = sym (if_true (same_key k x.key) _ _ t) ∙ h in absurd cc)
      (λ t. ap (λ b. b || list_any (same_key k) (keys_of xs)) t ∙ absent_key xs k (sym (if_false (same_key k x.key) _ _ t) ∙ h))

  pub keys_of-push : (es : List (At F)) (k : Key) (f : F) → keys_of (es ++ record { key = k; fact = f } ∷ []) ≡ keys_of es ++ k ∷ []
  keys_of-push [] k f = refl
  keys_of-push (x ∷ xs) k f = ap (λ l. x.key ∷ l) (keys_of-push xs k f)

  -- a new key is distinct from those that were there
  pub distinct-push : (numbers : List Key) (es : List (At F)) (n : ℕ) (k : Key) → IsTable numbers es n → fact_at es k ≡ None → IsDistinct same_key (keys_of es ++ k ∷ [])
  distinct-push numbers es n k t h = IsDistinct-push same_key_equiv (keys_of es) k (subst (IsDistinct same_key) t.keys t.distinct) (absent_key es k h)

  pub table-push : (numbers : List Key) (es : List (At F)) (n : ℕ) (k : Key) (f : F) → IsTable numbers es n → length es < 65536 → (all : List Key) → all ≡ numbers ++ k ∷ [] → IsDistinct same_key all → (m : ℕ) → m ≡ n + 1 → (len : length (es ++ record { key = k; fact = f } ∷ []) ≡ length es + 1) → IsTable all (es ++ record { key = k; fact = f } ∷ []) m
  table-push numbers es n k f t room all is distinct m e len =
      let rows = t.rows in
      record {
        keys = is ∙ ap (λ l. l ++ k ∷ []) t.keys ∙ sym (keys_of-push es k f);
        distinct = distinct;
        rows = omega arith;
        few = omega arith;
      }

  -- a fact that is changed in its place
  pub table-set : (numbers : List Key) (es : List (At F)) (n i : ℕ) (d : At F) (f : F) → IsTable numbers es n → (len : length (set es i (record { key = (get_or es i d).key; fact = f })) ≡ length es) → IsTable numbers (set es i (record { key = (get_or es i d).key; fact = f })) n
  table-set numbers es n i d f t len =
      let rows = t.rows in
      let few = t.few in
      record {
        keys = t.keys ∙ sym (map-set_same (λ (e : At F). e.key) es i (record { key = (get_or es i d).key; fact = f }) d refl);
        distinct = t.distinct;
        rows = omega arith;
        few = omega arith;
      }

-- to give a fact to a key that is there is to join it in its place
pub set-given : {F : Type 0} (r : Rules F) (es : List (At F)) (k : Key) (g : F) (d : At F) → IsSomeAnd (fact_at es k) (λ f. Unit {0}) → set es (place es k) (record { key = (get_or es (place es k) d).key; fact = joined r (get_or es (place es k) d).fact g }) ≡ given r es (record { key = k; fact = g })
set-given r [] k g d h = absurd h
set-given r (x ∷ xs) k g d h =
    of_cond (λ n. set (x ∷ xs) n (record { key = (get_or (x ∷ xs) n d).key; fact = joined r (get_or (x ∷ xs) n d).fact g }) ≡ given r (x ∷ xs) (record { key = k; fact = g })) (same_key k x.key) 0 (suc (place xs k))
    (λ t. sym (if_true (same_key k x.key) _ _ t))
    (λ t. ap (λ l. x ∷ l) (set-given r xs k g d (subst (λ o. IsSomeAnd o (λ f. Unit {0})) (if_false (same_key k x.key) _ _ t) h)) ∙ sym (if_false (same_key k x.key) _ _ t))
