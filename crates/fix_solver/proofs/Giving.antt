-- What giving a fact to a table leaves.
use Rattle.std.proofs.Common.{◌≡◌, ℕ, suc, ◌+◌, ◌<◌, ◌≤◌, Bool, true, false, not, ◌||◌, Option, None, Some, IfSome, IsSomeAnd, List, [], ◌∷◌, ◌++◌, length, get_or, refl, sym, ap, subst, ◌∙◌, inl, inr, arith, length-append}
use Rattle.std.proofs.lemmas.Bool.{not-false, not-true}
use Rattle.std.proofs.lemmas.List.{get_or_append_left}
use Rattle.flow_recover.specs.declared.key.Key.{Key}
use Rattle.flow_recover.specs.Keys.{same_key}
use Rattle.flow_recover.proofs.KeyLemmas.{same_key-itself}
use Rattle.fix_solver.specs.declared.at.At.{At}
use Rattle.fix_solver.specs.Pending.{is_pending}
use Rattle.fix_solver.specs.Rules.{Rules, RulesLaws, Fits}
use Rattle.fix_solver.specs.Tables.{TableOf, IsPlace, fact_at, place, given, heights}
use Rattle.fix_solver.specs.Work.{IsGiven}
use Rattle.fix_solver.proofs.Given.{by_bool, if_true, if_false, of_cond, place-given, given-absent, given-included, heights_given, AllFit}

module _ {F : Type 0} (r : Rules F) where
  pub length-given : (es : List (At F)) (e : At F) → IsSomeAnd (fact_at es e.key) (λ f. Unit {0}) → length (given r es e) ≡ length es
  length-given [] e h = absurd h
  length-given (x ∷ xs) e h =
      of_cond (λ l. length l ≡ suc (length xs)) (same_key e.key x.key) _ _ (λ t. refl)
      (λ t. ap suc (length-given xs e (subst (λ o. IsSomeAnd o (λ f. Unit {0})) (if_false (same_key e.key x.key) _ _ t) h)))

  place-push : (es : List (At F)) (k : Key) (f : F) → fact_at es k ≡ None → place (es ++ record { key = k; fact = f } ∷ []) k ≡ length es
  place-push [] k f h = if_true (same_key k k) 0 _ (same_key-itself k)
  place-push (x ∷ xs) k f h =
      by_bool (same_key k x.key)
      (λ t. let bad : Some x.fact ≡ None = sym (if_true (same_key k x.key) _ _ t) ∙ h in absurd cc)
      (λ t. if_false (same_key k x.key) _ _ t ∙ ap suc (place-push xs k f (sym (if_false (same_key k x.key) _ _ t) ∙ h)))

  -- a known key
  pub given_joined : (laws : RulesLaws r) (t u : TableOf F) (p q : List Key) (k : Key) (g : F) (i : ℕ) (changed : Bool)
      → AllFit r laws t.known → Fits r g → IsPlace t.known k i → u.known ≡ given r t.known (record { key = k; fact = g }) → u.succ ≡ t.succ
      → IfSome (fact_at t.known k) (λ f. changed ≡ not (r.includes f g))
      → (changed ≡ true → ((l : Key) → is_pending q l ≡ (same_key k l || is_pending p l)) × (length q ≤ length p + 1))
      → (changed ≡ false → q ≡ p)
      → IsGiven r t p (record { key = k; fact = g }) u q i
  given_joined laws t u p q k g i changed fit fits at known succ is puts keeps = by (fact_at t.known k) refl at.here is
    where
      e : At F
      e = record { key = k; fact = g }

      by : (o : Option F) → fact_at t.known k ≡ o → IsSomeAnd o (λ f. Unit {0}) → IfSome o (λ f. changed ≡ not (r.includes f g)) → IsGiven r t p (record { key = k; fact = g }) u q i
      by None s h c = absurd h
      by (Some f) s h c = record {
        known = known;
        succ = λ j b. ap (λ l. get_or l j []) succ;
        number = at.number ∙ sym (place-given r t.known (record { key = k; fact = g }) k (λ f. Unit {0}) at.here) ∙ ap (λ l. place l k) (sym known);
        puts = by_bool changed (λ b. inr (puts b).0)
            (λ b. let same : u.known ≡ t.known = known ∙ given-included r t.known (record { key = k; fact = g }) f s (not-false (r.includes f g) (sym c ∙ b)) in
            inl ((λ j. record { known = same j; succ = succ j }), keeps b));
        paid = by_bool changed
            (λ b. let falls = heights_given r laws t.known (record { key = k; fact = g }) f fit fits s (not-true (r.includes f g) (sym c ∙ b)) in
            let room = (puts b).1 in
            let len : length u.known ≡ length t.known = ap length known ∙ length-given t.known (record { key = k; fact = g }) at.here in
            let lower : heights r u.known < heights r t.known = subst (λ l. heights r l < heights r t.known) (sym known) falls in
            inr (len, omega arith))
            (λ b. let same : u.known ≡ t.known = known ∙ given-included r t.known (record { key = k; fact = g }) f s (not-false (r.includes f g) (sym c ∙ b)) in
            let heights_same = ap (heights r) same in
            let left = ap length (keeps b) in
            inr (ap length same, omega arith));
      }

  -- a new key
  pub given_added : (t u : TableOf F) (p q : List Key) (k : Key) (g : F)
      → fact_at t.known k ≡ None → u ≡ record { known = t.known ++ record { key = k; fact = g } ∷ []; succ = t.succ ++ [] ∷ [] }
      → length t.succ ≡ length t.known → ((l : Key) → is_pending q l ≡ (same_key k l || is_pending p l))
      → IsGiven r t p (record { key = k; fact = g }) u q (length t.known)
  given_added t u p q k g absent is rows puts =
      let known : u.known ≡ t.known ++ record { key = k; fact = g } ∷ [] = ap (λ (v : TableOf F). v.known) is in
      let succ : u.succ ≡ t.succ ++ [] ∷ [] = ap (λ (v : TableOf F). v.succ) is in
      let one : List (At F) = record { key = k; fact = g } ∷ [] in
      let len : length u.known ≡ length t.known + 1 = ap length known ∙ omega (arith, length-append t.known one) in
      record {
        known = known ∙ sym (given-absent r t.known (record { key = k; fact = g }) absent);
        succ = λ i b. let in_rows : i < length t.succ = omega arith in ap (λ l. get_or l i []) succ ∙ get_or_append_left t.succ ([] ∷ []) [] i in_rows;
        puts = inr puts;
        paid = inl (omega arith);
        number = sym (place-push t.known k g absent) ∙ ap (λ l. place l k) (sym known);
      }
