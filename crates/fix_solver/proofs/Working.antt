-- The steps of the search keep what holds of the table, and what it means in the end.
use Rattle.std.proofs.Common.{◌≡◌, ℕ, ◌<◌, Bool, true, false, ◌||◌, Option, None, Some, IfSome, IsSomeAnd, List, [], ◌∷◌, ◌++◌, length, map, get_or, refl, sym, ap, subst, ◌∙◌}
use Rattle.std.proofs.lemmas.Bool.{true≢false, or_parts}
use Rattle.std.specs.List.{AllByRecursion}
use Rattle.abs_step.specs.declared.outcome.Cond.{Cond}
use Rattle.flow_recover.specs.declared.key.Key.{Key}
use Rattle.flow_recover.specs.Keys.{same_key}
use Rattle.flow_recover.proofs.KeyLemmas.{same_key-true, same_key-itself, same_key-symm}
use Rattle.fix_solver.specs.declared.at.At.{At}
use Rattle.fix_solver.specs.Rules.{Rules, RulesLaws, Below, Fits, Included}
use Rattle.fix_solver.specs.Solutions.{IsCandidate, IsLeastSolution, IsEverywhere, FailsEverywhere}
use Rattle.fix_solver.specs.Tables.{TableOf, keys_of, fact_at, place, given}
use Rattle.fix_solver.specs.declared.fault.SolveFault.{SolveFault}
use Rattle.fix_solver.specs.declared.fault.SolveFault.TheVariants.{Undischarged, Nodes, Memory}
use Rattle.fix_solver.specs.Faults.{IsTrueFault}
use Rattle.fix_solver.specs.Work.{IsFull, IsWork, IsForced}
use Rattle.fix_solver.proofs.Given.{by_bool, if_true, of_cond, fact_at-given_same, fact_at-given_other, place-given, place-below, all_through, all_larger_included, fit_given, grows, least_given, fit_at}

module _ {F : Type 0} (r : Rules F) (laws : RulesLaws r) where
  -- what follows from a fact of the table stands in every candidate
  pub outcomes_forced : (t : TableOf F) (p : Key → Bool) → IsWork r t p → (k : Key) (f : F) → fact_at t.known k ≡ Some f → (n : Key → Option F) → IsCandidate r n → AllByRecursion (Included r n) (r.outcomes k f)
  outcomes_forced t p w k f e n c =
      let fits : Fits r f = subst (λ o. IfSome o (λ g. Fits r g)) e (fit_at r laws t.known w.fit k) in
      by (n k) (subst (λ o. IfSome o (λ g. IsSomeAnd (n k) (λ h. Below r g h))) e (w.least n c k)) fits (c.outcomes k)
    where
      by : (o : Option F) → IsSomeAnd o (λ h. Below r f h) → Fits r f → IfSome o (λ g. AllByRecursion (Included r n) (r.outcomes k g)) → AllByRecursion (Included r n) (r.outcomes k f)
      by None s q i = absurd s
      by (Some g) s q i = all_larger_included r laws n (r.outcomes k f) (r.outcomes k g) (laws.outcomes_grow k f g q s) i

  -- numbers of keys that are there stay
  pub places-given : (es : List (At F)) (e : At F) (os : List (At F)) → AllByRecursion (Included r (fact_at es)) os → map (λ o. place (given r es e) o.key) os ≡ map (λ o. place es o.key) os
  places-given es e [] h = refl
  places-given es e (o ∷ os) h = λ i. place-given r es e o.key (λ f. Below r o.fact f) h.0 i ∷ places-given es e os h.1 i

  -- a fact that every candidate has may be given, if its key is pending from then on
  pub work-given : (t : TableOf F) (p q : Key → Bool) (e : At F) (succ : List (List ℕ)) → IsWork r t p → Fits r e.fact → IsForced r e → ((i : ℕ) → i < length t.known → get_or succ i [] ≡ get_or t.succ i []) → ((k : Key) → q k ≡ (same_key e.key k || p k)) → IsWork r (record { known = given r t.known e; succ = succ }) q
  work-given t p q e succ w fits forced same puts = record {
    fit = fit_given r laws t.known e w.fit fits;
    listed = λ k h. listed k (sym (puts k) ∙ h);
    least = λ n c. least_given r laws t.known e n (w.least n c) (forced n c);
    done = λ k f closed at.
        let parts = or_parts (same_key e.key k) (p k) (sym (puts k) ∙ closed) in
        let apart : same_key k e.key ≡ false = same_key-symm k e.key ∙ parts.0 in
        let was : fact_at t.known k ≡ Some f = sym (fact_at-given_other r t.known e k apart) ∙ at in
        let d = w.done k f parts.1 was in
        let there : IsSomeAnd (fact_at t.known k) (λ g. Unit {0}) = subst (λ o. IsSomeAnd o (λ g. Unit {0})) (sym was) tt in
        let number = place-given r t.known e k (λ g. Unit {0}) there in
        record {
          no_fault = d.no_fault;
          included = all_through r laws (fact_at t.known) (fact_at (given r t.known e)) (grows r laws t.known e w.fit fits) (r.outcomes k f) d.included;
          succ = ap (λ i. get_or succ i []) number ∙ same (place t.known k) (place-below r t.known k (λ g. Unit {0}) there) ∙ d.succ ∙ sym (places-given t.known e (r.outcomes k f) d.included);
        };
  }
    where
      stays : (o m : Option F) → IsSomeAnd o (λ f. Unit {0}) → IfSome o (λ f. IsSomeAnd m (λ g. Below r f g)) → IsSomeAnd m (λ f. Unit {0})
      stays None m s u = absurd s
      stays (Some f) None s u = absurd u
      stays (Some f) (Some g) s u = tt

      listed : (k : Key) → (same_key e.key k || p k) ≡ true → IsSomeAnd (fact_at (given r t.known e) k) (λ f. Unit {0})
      listed k h =
          by_bool (same_key e.key k)
          (λ s. subst (λ l. IsSomeAnd (fact_at (given r t.known e) l) (λ f. Unit {0})) (same_key-true e.key k s) (subst (λ o. IsSomeAnd o (λ f. Unit {0})) (sym (fact_at-given_same r t.known e)) tt))
          (λ s. stays (fact_at t.known k) (fact_at (given r t.known e) k) (w.listed k (sym (ap (λ b. b || p k) s) ∙ h)) (grows r laws t.known e w.fit fits k))

  -- a condition that fails at a fact of the table fails in every candidate
  pub fails_everywhere : (t : TableOf F) (p : Key → Bool) → IsWork r t p → (k : Key) (f : F) (c : Cond) → fact_at t.known k ≡ Some f → r.fault k f ≡ Some c → FailsEverywhere r k c
  fails_everywhere t p w k f c e h n cand =
      let fits : Fits r f = subst (λ o. IfSome o (λ g. Fits r g)) e (fit_at r laws t.known w.fit k) in
      by (n k) (subst (λ o. IfSome o (λ g. IsSomeAnd (n k) (λ j. Below r g j))) e (w.least n cand k)) fits
    where
      by : (o : Option F) → IsSomeAnd o (λ g. Below r f g) → Fits r f → IsSomeAnd o (λ g. r.keeps k g c ≡ false)
      by None s q = absurd s
      by (Some g) s q =
          let breaks : r.keeps k f c ≡ false = subst (λ o. IfSome o (λ d. r.keeps k f d ≡ false)) h (laws.fault_breaks k f) in
          by_bool (r.keeps k g c) (λ u. absurd (true≢false (sym (laws.keeps_falls k f g c q s u) ∙ breaks))) (λ u. u)

  -- what every candidate includes stands in every candidate
  pub forced_everywhere : (e : At F) → IsForced r e → IsEverywhere r e.key
  forced_everywhere e h n c = by (n e.key) (h n c)
    where
      by : (o : Option F) → IsSomeAnd o (λ f. Below r e.fact f) → IsSomeAnd o (λ f. Unit {0})
      by None s = absurd s
      by (Some f) s = tt

  pub known_everywhere : (t : TableOf F) (p : Key → Bool) → IsWork r t p → (k : Key) → IsSomeAnd (fact_at t.known k) (λ f. Unit {0}) → IsEverywhere r k
  known_everywhere t p w k h n c = by (fact_at t.known k) (n k) h (w.least n c k)
    where
      by : (o m : Option F) → IsSomeAnd o (λ f. Unit {0}) → IfSome o (λ f. IsSomeAnd m (λ g. Below r f g)) → IsSomeAnd m (λ f. Unit {0})
      by None m s u = absurd s
      by (Some f) None s u = absurd u
      by (Some f) (Some g) s u = tt

  -- where nothing is pending, the table is the least solution
  pub least_solution : (t : TableOf F) (p : Key → Bool) → IsWork r t p → ((k : Key) → p k ≡ false) → AllByRecursion (Included r (fact_at t.known)) r.starts → IsLeastSolution r (fact_at t.known)
  least_solution t p w closed starts = record {
    solution = record {
      candidate = record {
        starts = starts;
        outcomes = λ k. each k (λ f. AllByRecursion (Included r (fact_at t.known)) (r.outcomes k f)) (λ f e. (w.done k f (closed k) e).included);
      };
      keeps = λ k. each k (λ f. (c : Cond) → r.keeps k f c ≡ true) (λ f e. laws.no_fault_keeps k f (w.done k f (closed k) e).no_fault);
    };
    least = w.least;
  }
    where
      each : (k : Key) (P : F → Type 0) → ((f : F) → fact_at t.known k ≡ Some f → P f) → IfSome (fact_at t.known k) P
      each k P h = by (fact_at t.known k) h
        where
          by : (o : Option F) → ((f : F) → o ≡ Some f → P f) → IfSome o P
          by None g = tt
          by (Some f) g = g f refl

  -- where there are too many keys, each of them stands in every candidate
  pub full_fault : (t : TableOf F) (p : Key → Bool) → IsWork r t p → (e : At F) → IsForced r e → (x : SolveFault) → IsFull t.known e.key x → IsTrueFault r x
  full_fault t p w e forced (Undischarged k c) h = absurd h
  full_fault t p w e forced (Nodes ks) h = record { count = h.0; distinct = h.1; everywhere = subst (AllByRecursion (λ k. IsEverywhere r k)) (sym h.2) (all t.known (λ k i. known_everywhere t p w k i)) }
    where
      all : (es : List (At F)) → ((k : Key) → IsSomeAnd (fact_at es k) (λ f. Unit {0}) → IsEverywhere r k) → AllByRecursion (λ k. IsEverywhere r k) (keys_of es ++ e.key ∷ [])
      all [] g = (forced_everywhere e forced, tt)
      all (x ∷ xs) g = (
        g x.key (subst (λ o. IsSomeAnd o (λ f. Unit {0})) (sym (if_true (same_key x.key x.key) _ _ (same_key-itself x.key))) tt),
        all xs (λ k h. g k (of_cond (λ o. IsSomeAnd o (λ f. Unit {0})) (same_key k x.key) _ _ (λ t. tt) (λ t. h))),
      )
  full_fault t p w e forced Memory h = tt
