-- From the table to the answer.
use Rattle.std.proofs.Common.{◌≡◌, ℕ, zero, suc, ◌<◌, Bool, Option, None, Some, IfSome, IsSomeAnd, List, [], ◌∷◌, length, map, get_or, refl, sym, ap, subst, ◌∙◌}
use Rattle.std.proofs.lemmas.List.{length-map}
use Rattle.std.specs.List.{AllByRecursion, IsDistinct}
use Rattle.std.proofs.lemmas.Map.Keys.{IsDistinct-from_sorted}
use Rattle.flow_recover.specs.declared.key.Key.{Key}
use Rattle.flow_recover.specs.Keys.{same_key, key_cmp}
use Rattle.flow_recover.proofs.KeyLemmas.{is_eq-key_cmp}
use Rattle.fix_solver.specs.declared.at.At.{At}
use Rattle.fix_solver.specs.Order.{IsSetOf, ArePlaces, AreRows}
use Rattle.fix_solver.specs.Pending.{is_pending}
use Rattle.fix_solver.specs.Rules.{Rules, RulesLaws, Below, Fits, Included}
use Rattle.fix_solver.specs.Solutions.{IsLeastSolution}
use Rattle.fix_solver.specs.Solved.{NodeOf, IsInOrder, IsSolved, facts_of, rows_of}
use Rattle.fix_solver.specs.Tables.{TableOf, fact_at, place, place_of, keys_of}
use Rattle.fix_solver.specs.Work.{IsWork}
use Rattle.fix_solver.proofs.Given.{place-below_here, fit_at}
use Rattle.fix_solver.proofs.OrderedFacts.{all_from, fact_at-member}
use Rattle.fix_solver.proofs.Starting.{none_pending}
use Rattle.fix_solver.proofs.TableLemmas.{here_below}

some_there : {F : Type 0} (P : F → Type 0) (o : Option F) → IsSomeAnd o P → IsSomeAnd o (λ f. Unit {0})
some_there P None h = h
some_there P (Some f) h = tt

facts_get : {F : Type 0} (ns : List (NodeOf F)) (i : ℕ) (n : NodeOf F) → n ≡ get_or ns i n → record { key = n.key; fact = n.fact } ≡ get_or (facts_of ns) i (record { key = n.key; fact = n.fact })
facts_get [] i n e = refl
facts_get (m ∷ ms) zero n e = ap (λ (l : NodeOf _). record { key = l.key; fact = l.fact }) e
facts_get (m ∷ ms) (suc i) n e = facts_get ms i n e

module _ {F : Type 0} (r : Rules F) where
  -- the numbers of known keys are below their count
  numbers_below : (es os : List (At F)) → AllByRecursion (Included r (fact_at es)) os → AllByRecursion (λ i. i < length es) (map (λ e. place es e.key) os)
  numbers_below es [] h = tt
  numbers_below es (o ∷ os) h = (place-below_here es o.key (some_there (λ f. Below r o.fact f) (fact_at es o.key) h.0), numbers_below es os h.1)

  -- where nothing is pending, each row has numbers of known keys
  pub done_rows : (t : TableOf F) → IsWork r t (is_pending []) → (k : Key) → place t.known k < length t.known → AllByRecursion (λ i. i < length t.known) (get_or t.succ (place t.known k) [])
  done_rows t w k b = by (fact_at t.known k) refl (here_below t.known k b)
    where
      by : (o : Option F) → fact_at t.known k ≡ o → IsSomeAnd o (λ f. Unit {0}) → AllByRecursion (λ i. i < length t.known) (get_or t.succ (place t.known k) [])
      by None e h = absurd h
      by (Some f) e h =
          let d = w.done k f (none_pending k) e in
          subst (AllByRecursion (λ i. i < length t.known)) (sym d.succ) (numbers_below t.known (r.outcomes k f) d.included)

  -- a row in the new order
  moved_row : (es fs os : List (At F)) (places : List ℕ) → ((k : Key) → fact_at fs k ≡ fact_at es k) → ArePlaces (keys_of es) (keys_of fs) places → AllByRecursion (Included r (fact_at es)) os
      → map (λ i. get_or places i 0) (map (λ e. place es e.key) os) ≡ map (λ e. place fs e.key) os
  moved_row es fs [] places same are h = refl
  moved_row es fs (o ∷ os) places same are h =
      let here = subst (λ m. IsSomeAnd m (λ f. Unit {0})) (sym (same o.key)) (some_there (λ f. Below r o.fact f) (fact_at es o.key) h.0) in
      let below : place_of (keys_of fs) o.key < length (keys_of fs) = rw length-map (place-below_here fs o.key here) in
      λ j. are.at o.key below j ∷ moved_row es fs os places same are h.1 j

  pub solved_from : (laws : RulesLaws r) (t : TableOf F) (ns : List (NodeOf F)) → IsWork r t (is_pending []) → IsLeastSolution r (fact_at t.known) → IsInOrder t ns → IsSolved r ns
  solved_from laws t ns w least o = record {
    few = o.few;
    ascending = o.ascending;
    fit = fitting ns members;
    least = subst (IsLeastSolution r) (λ i k. sym (o.facts k) i) least;
    succ = rows ns members o.rows;
  }
    where
      distinct : IsDistinct same_key (keys_of (facts_of ns))
      distinct = subst (λ (e : Key → Key → Bool). IsDistinct e (keys_of (facts_of ns))) (λ i a b. is_eq-key_cmp a b i) (IsDistinct-from_sorted key_cmp (keys_of (facts_of ns)) o.ascending)

      members : AllByRecursion (λ n. fact_at t.known n.key ≡ Some n.fact) ns
      members = all_from (λ n. fact_at t.known n.key ≡ Some n.fact) ns (λ i n b e.
          let within : i < length (facts_of ns) = rw length-map b in
          sym (o.facts n.key) ∙ fact_at-member (facts_of ns) i (record { key = n.key; fact = n.fact }) distinct within (facts_get ns i n e))

      fitting : (ms : List (NodeOf F)) → AllByRecursion (λ n. fact_at t.known n.key ≡ Some n.fact) ms → AllByRecursion (λ n. Fits r n.fact) ms
      fitting [] m = tt
      fitting (n ∷ ms) m = (subst (λ p. IfSome p (λ f. Fits r f)) m.0 (fit_at r laws t.known w.fit n.key), fitting ms m.1)

      rows : (ms : List (NodeOf F)) → AllByRecursion (λ n. fact_at t.known n.key ≡ Some n.fact) ms → AreRows (keys_of t.known) o.places t.succ (keys_of (facts_of ms)) (rows_of ms)
          → AllByRecursion (λ n. IsSetOf n.succ (map (λ e. place (facts_of ns) e.key) (r.outcomes n.key n.fact))) ms
      rows [] m h = tt
      rows (n ∷ ms) m h =
          let d = w.done n.key n.fact (none_pending n.key) m.0 in
          let row = ap (map (λ i. get_or o.places i 0)) d.succ ∙ moved_row t.known (facts_of ns) (r.outcomes n.key n.fact) o.places o.facts o.moves d.included in
          (subst (IsSetOf n.succ) row h.0, rows ms m.1 h.1)
