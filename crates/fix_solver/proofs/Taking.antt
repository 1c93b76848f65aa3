-- A key is taken, and what follows from its fact is given to the table, one after the other.
use Rattle.std.proofs.Common.{◌≡◌, ℕ, zero, suc, ◌<◌, true, false, ◌||◌, Option, None, Some, IsSome, MatchOption, IfSome, IsSomeAnd, List, [], ◌∷◌, ◌++◌, length, map, set, take, get_or, slice_get, refl, sym, ap, subst, ◌∙◌, ◌⊎◌, inl, inr, ⊎_elim, arith}
use Rattle.std.proofs.lemmas.Bool.{false≢true, true≢false, or_right}
use Rattle.std.proofs.lemmas.List.{map-append, get_or-set_other, get_or-set_same}
use Rattle.std.specs.List.{AllByRecursion}
use Rattle.flow_recover.specs.declared.key.Key.{Key}
use Rattle.flow_recover.specs.Keys.{same_key}
use Rattle.flow_recover.proofs.KeyLemmas.{same_key-true, same_key-itself, same_key-symm}
use Rattle.fix_solver.specs.declared.at.At.{At}
use Rattle.fix_solver.specs.Pending.{is_pending}
use Rattle.fix_solver.specs.Rules.{Rules, RulesLaws, Below, Fits, Included, MapBelow}
use Rattle.fix_solver.specs.Solutions.{IsCandidate}
use Rattle.fix_solver.specs.Tables.{TableOf, IsPlace, fact_at, place}
use Rattle.fix_solver.specs.Work.{IsDone, IsWork, IsForced, IsGiven, IsPaid}
use Rattle.fix_solver.proofs.Given.{by_bool, if_true, if_false, fact_at-given_other, place-given, place-below, all_through, included_given, fit_at, grows}
use Rattle.fix_solver.proofs.TableLemmas.{at_place}
use Rattle.fix_solver.proofs.Working.{outcomes_forced, places-given, work-given}
use Rattle.viper_word.proofs.Booleans.{or_swap}

-- what holds of all elements holds of one
pub all_at : {A : Type 0} (P : A → Type 0) (xs : List A) (i : ℕ) (x : A) → AllByRecursion P xs → slice_get xs i ≡ Some x → P x
all_at P [] i x h e = absurd cc
all_at P (y ∷ ys) zero x h e = let same : y ≡ x = cc in subst P same h.0
all_at P (y ∷ ys) (suc i) x h e = all_at P ys i x h.1 e

pub all_take : {A : Type 0} (P : A → Type 0) (xs : List A) (i : ℕ) (x : A) → AllByRecursion P (take i xs) → P x → slice_get xs i ≡ Some x → AllByRecursion P (take (suc i) xs)
all_take P [] i x h p e = absurd cc
all_take P (y ∷ ys) zero x h p e = let same : x ≡ y = cc in (subst P same p, tt)
all_take P (y ∷ ys) (suc i) x h p e = (h.0, all_take P ys i x h.1 p e)

pub take-more : {A : Type 0} (xs : List A) (i : ℕ) (x : A) → slice_get xs i ≡ Some x → take (suc i) xs ≡ take i xs ++ x ∷ []
take-more [] i x e = absurd cc
take-more (y ∷ ys) zero x e = let same : y ≡ x = cc in λ j. same j ∷ []
take-more (y ∷ ys) (suc i) x e = ap (λ l. y ∷ l) (take-more ys i x e)

pub take-all : {A : Type 0} (xs : List A) → take (length xs) xs ≡ xs
take-all [] = refl
take-all (x ∷ xs) = ap (λ l. x ∷ l) (take-all xs)

-- a known key has a number, and the fact at that number is the key's
pub known_number : {F : Type 0} (es : List (At F)) (k : Key) → IsSomeAnd (fact_at es k) (λ f. Unit {0}) → (o : Option ℕ) → MatchOption o (fact_at es k ≡ None) (IsPlace es k) → IsSome o
known_number es k h None e = absurd (subst (λ m. IsSomeAnd m (λ f. Unit {0})) e h)
known_number es k h (Some i) e = refl

pub known_place : {F : Type 0} (es : List (At F)) (k : Key) (o : Option ℕ) (i : ℕ) → o ≡ Some i → MatchOption o (fact_at es k ≡ None) (IsPlace es k) → IsPlace es k i
known_place es k o i e h = subst (λ m. MatchOption m (fact_at es k ≡ None) (IsPlace es k)) e h

pub known_fact : {F : Type 0} (es : List (At F)) (k : Key) (i : ℕ) (f : F) → IsPlace es k i → ((d : At F) → f ≡ (get_or es i d).fact) → fact_at es k ≡ Some f
known_fact es k i f p h =
    let d : At _ = record { key = k; fact = f } in
    (at_place es k d p.here).1 ∙ ap (λ n. Some (get_or es n d).fact) (sym p.number) ∙ ap (λ g. Some g) (sym (h d))

module _ {F : Type 0} (r : Rules F) where
  pub map_trans : (laws : RulesLaws r) (l m n : Key → Option F) → MapBelow r l m → MapBelow r m n → MapBelow r l n
  map_trans laws l m n h i k = by (l k) (m k) (n k) (h k) (i k)
    where
      by : (o p q : Option F) → IfSome o (λ f. IsSomeAnd p (λ g. Below r f g)) → IfSome p (λ f. IsSomeAnd q (λ g. Below r f g)) → IfSome o (λ f. IsSomeAnd q (λ g. Below r f g))
      by None p q s t = tt
      by (Some f) None q s t = absurd s
      by (Some f) (Some g) None s t = absurd t
      by (Some f) (Some g) (Some h) s t = laws.trans f g h s t

  pub map_itself : (laws : RulesLaws r) (l : Key → Option F) → MapBelow r l l
  map_itself laws l k = by (l k)
    where
      by : (o : Option F) → IfSome o (λ f. IsSomeAnd o (λ g. Below r f g))
      by None = tt
      by (Some f) = laws.refl f

  pub paid_trans : (s t u : TableOf F) (p q v : List Key) → IsPaid r s p t q → IsPaid r t q u v → IsPaid r s p u v
  paid_trans s t u p q v h i =
      ⊎_elim (λ a. ⊎_elim (λ b. inl (omega arith)) (λ b. let e = b.0 in inl (omega arith)) i)
      (λ a. let e = a.0 in let le = a.1 in ⊎_elim (λ b. inl (omega arith)) (λ b. let f = b.0 in let lf = b.1 in inr (omega arith, omega arith)) i) h

  -- the key k was taken with its fact, from which os follow, and the first j of them are given
  pub record IsTaking (k : Key) (s : TableOf F) (p : List Key) (t : TableOf F) (q : List Key) (os : List (At F)) (i j : ℕ) (succ : List ℕ) : Type 0 where
    pub fact : F
    pub no_fault : r.fault k fact ≡ None
    pub outcomes : os ≡ r.outcomes k fact
    pub fit : AllByRecursion (λ e. Fits r e.fact) os
    pub forced : (n : Key → Option F) → IsCandidate r n → AllByRecursion (Included r n) os
    pub work : IsWork r t (λ l. same_key k l || is_pending q l)
    pub grows : MapBelow r (fact_at s.known) (fact_at t.known)
    pub paid : IsPaid r s p t q
    pub still : (is_pending q k ≡ true) ⊎ (fact_at t.known k ≡ Some fact)
    pub done : AllByRecursion (Included r (fact_at t.known)) (take j os)
    pub numbers : succ ≡ map (λ e. place t.known e.key) (take j os)
    pub number : i ≡ place t.known k

  module _ (laws : RulesLaws r) where
    pub taking_first : (k : Key) (s : TableOf F) (p : List Key) (os : List (At F)) (i : ℕ) (f : F) → IsWork r s (λ l. same_key k l || is_pending p l) → fact_at s.known k ≡ Some f → r.fault k f ≡ None → os ≡ r.outcomes k f → i ≡ place s.known k → IsTaking k s p s p os i 0 []
    taking_first k s p os i f w at clear is number =
        let fits : Fits r f = subst (λ o. IfSome o (λ g. Fits r g)) at (fit_at r laws s.known w.fit k) in
        record {
          fact = f;
          no_fault = clear;
          outcomes = is;
          fit = subst (AllByRecursion (λ e. Fits r e.fact)) (sym is) (laws.outcomes_fit k f fits);
          forced = λ n c. subst (AllByRecursion (Included r n)) (sym is) (outcomes_forced r laws s (λ l. same_key k l || is_pending p l) w k f at n c);
          work = w;
          grows = map_itself laws (fact_at s.known);
          paid = inr (refl, omega arith);
          still = inr at;
          done = tt;
          numbers = refl;
          number = number;
        }

    pub taking_more : (k : Key) (s : TableOf F) (p : List Key) (t : TableOf F) (q : List Key) (os : List (At F)) (i j : ℕ) (succ : List ℕ) (e : At F) (u : TableOf F) (v : List Key) (n : ℕ)
        → IsTaking k s p t q os i j succ → slice_get os j ≡ Some e → IsGiven r t q e u v n → IsTaking k s p u v os i (suc j) (succ ++ n ∷ [])
    taking_more k s p t q os i j succ e u v n h at gives =
        let fits : Fits r e.fact = all_at (λ o. Fits r o.fact) os j e h.fit at in
        let forced : IsForced r e = λ m c. all_at (Included r m) os j e (h.forced m c) at in
        let grown : MapBelow r (fact_at t.known) (fact_at u.known) = subst (λ l. MapBelow r (fact_at t.known) (fact_at l)) (sym gives.known) (grows r laws t.known e h.work.fit fits) in
        let here = there (fact_at t.known k) (fact_at u.known k) (h.work.listed k (ap (λ b. b || is_pending q k) (same_key-itself k))) (grown k) in
        record {
          fact = h.fact;
          no_fault = h.no_fault;
          outcomes = h.outcomes;
          fit = h.fit;
          forced = h.forced;
          work = ⊎_elim
              (λ a. subst (λ l. IsWork r l (λ m. same_key k m || is_pending v m)) (sym a.0) (subst (λ l. IsWork r t (λ m. same_key k m || is_pending l m)) (sym a.1) h.work))
              (λ b. let made = work-given r laws t (λ l. same_key k l || is_pending q l) (λ l. same_key k l || is_pending v l) e u.succ h.work fits forced gives.succ (λ l. ap (λ c. same_key k l || c) (b l) ∙ or_swap (same_key k l) (same_key e.key l) (is_pending q l)) in
              subst (λ l. IsWork r (record { known = l; succ = u.succ }) (λ m. same_key k m || is_pending v m)) (sym gives.known) made)
              gives.puts;
          grows = map_trans laws (fact_at s.known) (fact_at t.known) (fact_at u.known) h.grows grown;
          paid = paid_trans s t u p q v h.paid gives.paid;
          still = ⊎_elim
              (λ a. subst (λ l. (is_pending v k ≡ true) ⊎ (fact_at l.known k ≡ Some h.fact)) (sym a.0) (subst (λ l. (is_pending l k ≡ true) ⊎ (fact_at t.known k ≡ Some h.fact)) (sym a.1) h.still))
              (λ b. ⊎_elim (λ x. inl (b k ∙ or_right (same_key e.key k) (is_pending q k) x))
              (λ y. by_bool (same_key e.key k) (λ z. inl (b k ∙ ap (λ c. c || is_pending q k) z))
              (λ z. inr (ap (λ l. fact_at l k) gives.known ∙ fact_at-given_other r t.known e k (same_key-symm k e.key ∙ z) ∙ y)))
              h.still)
              gives.puts;
          done = all_take (Included r (fact_at u.known)) os j e (all_through r laws (fact_at t.known) (fact_at u.known) grown (take j os) h.done) (subst (λ l. Included r (fact_at l) e) (sym gives.known) (included_given r laws t.known e h.work.fit fits)) at;
          numbers =
              let before : map (λ o. place t.known o.key) (take j os) ≡ map (λ o. place u.known o.key) (take j os) = sym (ap (λ l. map (λ o. place l o.key) (take j os)) gives.known ∙ places-given r laws t.known e (take j os) h.done) in
              ap (λ l. l ++ n ∷ []) (h.numbers ∙ before) ∙ ap (λ m. map (λ o. place u.known o.key) (take j os) ++ m ∷ []) gives.number
              ∙ sym (ap (map (λ o. place u.known o.key)) (take-more os j e at) ∙ map-append (λ (o : At F). place u.known o.key) (take j os) (e ∷ []));
          number = h.number ∙ sym (place-given r t.known e k (λ f. Unit {0}) (h.work.listed k (ap (λ b. b || is_pending q k) (same_key-itself k)))) ∙ ap (λ l. place l k) (sym gives.known);
        }
      where
        there : (o m : Option F) → IsSomeAnd o (λ f. Unit {0}) → IfSome o (λ f. IsSomeAnd m (λ g. Below r f g)) → IsSomeAnd m (λ f. Unit {0})
        there None m a b = absurd a
        there (Some f) None a b = absurd b
        there (Some f) (Some g) a b = tt

    place-apart : (es : List (At F)) (k l : Key) → IsSomeAnd (fact_at es k) (λ f. Unit {0}) → IsSomeAnd (fact_at es l) (λ f. Unit {0}) → same_key k l ≡ false → place es k ≡ place es l → ⊥
    place-apart [] k l a b n e = a
    place-apart (x ∷ xs) k l a b n e =
        by_bool (same_key k x.key)
        (λ s. by_bool (same_key l x.key)
        (λ t. false≢true (sym n ∙ ap (same_key k) (same_key-true l x.key t) ∙ s))
        (λ t. let one = if_true (same_key k x.key) 0 (suc (place xs k)) s in let two = if_false (same_key l x.key) 0 (suc (place xs l)) t in absurd (omega arith)))
        (λ s. by_bool (same_key l x.key)
        (λ t. let one = if_false (same_key k x.key) 0 (suc (place xs k)) s in let two = if_true (same_key l x.key) 0 (suc (place xs l)) t in absurd (omega arith))
        (λ t. let one = if_false (same_key k x.key) 0 (suc (place xs k)) s in let two = if_false (same_key l x.key) 0 (suc (place xs l)) t in
        let rest : place xs k ≡ place xs l = omega arith in
        place-apart xs k l (subst (λ o. IsSomeAnd o (λ f. Unit {0})) (if_false (same_key k x.key) _ _ s) a) (subst (λ o. IsSomeAnd o (λ f. Unit {0})) (if_false (same_key l x.key) _ _ t) b) n rest))

    -- all are given: the key is done, unless it is pending again
    pub taking_done : (k : Key) (s : TableOf F) (p : List Key) (t : TableOf F) (q : List Key) (os : List (At F)) (i : ℕ) (succ : List ℕ)
        → IsTaking k s p t q os i (length os) succ → length t.succ ≡ length t.known → IsWork r (record { known = t.known; succ = set t.succ i succ }) (is_pending q)
    taking_done k s p t q os i succ h rows = record {
      fit = h.work.fit;
      least = h.work.least;
      listed = λ l c. h.work.listed l (or_right (same_key k l) (is_pending q l) c);
      done = λ l f idle at. by_bool (same_key k l)
          (λ same. let is : k ≡ l = same_key-true k l same in
          subst (λ m. IsDone r (record { known = t.known; succ = set t.succ i succ }) m f) is (own f (sym (ap (is_pending q) (sym is)) ∙ idle) (ap (fact_at t.known) is ∙ at)))
          (λ apart. let d = h.work.done l f (ap (λ b. b || is_pending q l) apart ∙ idle) at in record {
            no_fault = d.no_fault;
            included = d.included;
            succ = get_or-set_other t.succ i (place t.known l) succ [] (λ e. place-apart t.known k l here (subst (λ o. IsSomeAnd o (λ g. Unit {0})) (sym at) tt) apart (sym h.number ∙ sym e)) ∙ d.succ;
          });
    }
      where
        here : IsSomeAnd (fact_at t.known k) (λ f. Unit {0})
        here = h.work.listed k (ap (λ b. b || is_pending q k) (same_key-itself k))

        own : (f : F) → is_pending q k ≡ false → fact_at t.known k ≡ Some f → IsDone r (record { known = t.known; succ = set t.succ i succ }) k f
        own f idle at =
            ⊎_elim (λ pending. absurd (true≢false (sym pending ∙ idle)))
            (λ same. let some : Some h.fact ≡ Some f = sym same ∙ at in
            let is : h.fact ≡ f = cc in
            let all : take (length os) os ≡ r.outcomes k f = take-all os ∙ h.outcomes ∙ ap (r.outcomes k) is in
            let below : place t.known k < length t.succ = rw rows (place-below r t.known k (λ g. Unit {0}) here) in
            record {
              no_fault = subst (λ g. r.fault k g ≡ None) is h.no_fault;
              included = subst (AllByRecursion (Included r (fact_at t.known))) all h.done;
              succ = ap (λ n. get_or (set t.succ n succ) (place t.known k) []) h.number ∙ get_or-set_same t.succ (place t.known k) succ [] below ∙ h.numbers ∙ ap (map (λ e. place t.known e.key)) all;
            })
            h.still
