-- What one more fact does to a table.
use Rattle.std.proofs.Common.{◌≡◌, suc, ◌+◌, ◌<◌, Bool, true, false, cond, Option, None, Some, IfSome, IsSomeAnd, List, [], ◌∷◌, ◌++◌, length, refl, sym, ap, subst, ◌∙◌, ⊎_elim, arith}
use Rattle.std.proofs.lemmas.Bool.{false≢true, cases_Bool}
use Rattle.std.specs.List.{AllByRecursion}
use Rattle.flow_recover.specs.declared.key.Key.{Key}
use Rattle.flow_recover.specs.Keys.{same_key}
use Rattle.flow_recover.proofs.KeyLemmas.{same_key-true, same_key-itself}
use Rattle.fix_solver.specs.declared.at.At.{At}
use Rattle.fix_solver.specs.Rules.{Rules, RulesLaws, Below, Fits, Included, MapBelow, HasLarger, AllBelow}
use Rattle.fix_solver.specs.Tables.{fact_at, place, joined, given, heights}

-- cases on a test, with its equation
pub by_bool : {R : Type 0} (b : Bool) → (b ≡ true → R) → (b ≡ false → R) → R
by_bool b p q = ⊎_elim p q (cases_Bool b)

pub if_true : {A : Type 0} (b : Bool) (x y : A) → b ≡ true → cond b x y ≡ x
if_true b x y h = ap (λ c. cond c x y) h

pub if_false : {A : Type 0} (b : Bool) (x y : A) → b ≡ false → cond b x y ≡ y
if_false b x y h = ap (λ c. cond c x y) h

-- what holds of both sides of a choice holds of it
pub of_cond : {A : Type 0} (P : A → Type 0) (b : Bool) (x y : A) → (b ≡ true → P x) → (b ≡ false → P y) → P (cond b x y)
of_cond P true x y p q = p refl
of_cond P false x y p q = q refl

pub place-below_here : {F : Type 0} (es : List (At F)) (k : Key) → IsSomeAnd (fact_at es k) (λ f. Unit {0}) → place es k < length es
place-below_here [] k h = absurd h
place-below_here (x ∷ xs) k h =
    of_cond (λ n. n < suc (length xs)) (same_key k x.key) 0 (suc (place xs k)) (λ t. omega arith)
    (λ t. let below = place-below_here xs k (subst (λ o. IsSomeAnd o (λ f. Unit {0})) (if_false (same_key k x.key) _ _ t) h) in omega arith)

module _ {F : Type 0} (r : Rules F) where
  -- the fact that a key has after g is given to it
  abbrev pub merged : Option F → F → F
  merged None g = g
  merged (Some f) g = joined r f g

  pub fact_at-given_same : (es : List (At F)) (e : At F) → fact_at (given r es e) e.key ≡ Some (merged (fact_at es e.key) e.fact)
  fact_at-given_same [] e = if_true (same_key e.key e.key) (Some e.fact) None (same_key-itself e.key)
  fact_at-given_same (x ∷ xs) e =
      by_bool (same_key e.key x.key)
      (λ h. ap (λ l. fact_at l e.key) (if_true (same_key e.key x.key) _ _ h) ∙ if_true (same_key e.key x.key) _ _ h ∙ ap (λ o. Some (merged o e.fact)) (sym (if_true (same_key e.key x.key) _ _ h)))
      (λ h. ap (λ l. fact_at l e.key) (if_false (same_key e.key x.key) _ _ h) ∙ if_false (same_key e.key x.key) _ _ h ∙ fact_at-given_same xs e ∙ ap (λ o. Some (merged o e.fact)) (sym (if_false (same_key e.key x.key) _ _ h)))

  pub fact_at-given_other : (es : List (At F)) (e : At F) (k : Key) → same_key k e.key ≡ false → fact_at (given r es e) k ≡ fact_at es k
  fact_at-given_other [] e k n = if_false (same_key k e.key) (Some e.fact) None n
  fact_at-given_other (x ∷ xs) e k n =
      by_bool (same_key e.key x.key)
      (λ h. let apart : same_key k x.key ≡ false = subst (λ q. same_key k q ≡ false) (same_key-true e.key x.key h) n in
      ap (λ l. fact_at l k) (if_true (same_key e.key x.key) _ _ h) ∙ if_false (same_key k x.key) _ _ apart ∙ sym (if_false (same_key k x.key) _ _ apart))
      (λ h. ap (λ l. fact_at l k) (if_false (same_key e.key x.key) _ _ h) ∙ ap (cond (same_key k x.key) (Some x.fact)) (fact_at-given_other xs e k n))

  -- what holds of the fact given and of those that were there holds of each fact after it
  pub at_given : (P : Key → Option F → Type 0) (es : List (At F)) (e : At F) (k : Key) → P e.key (Some (merged (fact_at es e.key) e.fact)) → (same_key k e.key ≡ false → P k (fact_at es k)) → P k (fact_at (given r es e) k)
  at_given P es e k p q =
      by_bool (same_key k e.key)
      (λ h. subst (λ l. P l (fact_at (given r es e) l)) (sym (same_key-true k e.key h)) (subst (P e.key) (sym (fact_at-given_same es e)) p))
      (λ h. subst (P k) (sym (fact_at-given_other es e k h)) (q h))

  -- keys keep their numbers
  pub place-given : (es : List (At F)) (e : At F) (k : Key) → (P : F → Type 0) → IsSomeAnd (fact_at es k) P → place (given r es e) k ≡ place es k
  place-given [] e k P h = absurd h
  place-given (x ∷ xs) e k P h =
      by_bool (same_key e.key x.key)
      (λ t. ap (λ l. place l k) (if_true (same_key e.key x.key) _ _ t))
      (λ t. ap (λ l. place l k) (if_false (same_key e.key x.key) _ _ t) ∙ by_bool (same_key k x.key)
      (λ u. if_true (same_key k x.key) 0 _ u ∙ sym (if_true (same_key k x.key) 0 _ u))
      (λ u. ap (λ n. cond (same_key k x.key) 0 (suc n)) (place-given xs e k P (subst (λ o. IsSomeAnd o P) (if_false (same_key k x.key) _ _ u) h))))

  pub place-below : (es : List (At F)) (k : Key) (P : F → Type 0) → IsSomeAnd (fact_at es k) P → place es k < length es
  place-below [] k P h = absurd h
  place-below (x ∷ xs) k P h =
      of_cond (λ n. n < suc (length xs)) (same_key k x.key) 0 (suc (place xs k)) (λ t. omega arith)
      (λ t. let below = place-below xs k P (subst (λ o. IsSomeAnd o P) (if_false (same_key k x.key) _ _ t) h) in omega arith)

  pub given-absent : (es : List (At F)) (e : At F) → fact_at es e.key ≡ None → given r es e ≡ es ++ e ∷ []
  given-absent [] e h = refl
  given-absent (x ∷ xs) e h =
      by_bool (same_key e.key x.key)
      (λ t. let bad : Some x.fact ≡ None = sym (if_true (same_key e.key x.key) _ _ t) ∙ h in absurd cc)
      (λ t. if_false (same_key e.key x.key) _ _ t ∙ ap (λ l. x ∷ l) (given-absent xs e (sym (if_false (same_key e.key x.key) _ _ t) ∙ h)))

  pub given-included : (es : List (At F)) (e : At F) (f : F) → fact_at es e.key ≡ Some f → r.includes f e.fact ≡ true → given r es e ≡ es
  given-included [] e f h i = absurd cc
  given-included (x ∷ xs) e f h i =
      by_bool (same_key e.key x.key)
      (λ t. let same : Some x.fact ≡ Some f = sym (if_true (same_key e.key x.key) _ _ t) ∙ h in
      let is : x.fact ≡ f = cc in
      let inc : r.includes x.fact e.fact ≡ true = ap (λ g. r.includes g e.fact) is ∙ i in
      if_true (same_key e.key x.key) _ _ t ∙ (λ j. record { key = x.key; fact = if_true (r.includes x.fact e.fact) x.fact (r.join x.fact e.fact) inc j } ∷ xs))
      (λ t. if_false (same_key e.key x.key) _ _ t ∙ ap (λ l. x ∷ l) (given-included xs e f (sym (if_false (same_key e.key x.key) _ _ t) ∙ h) i))

  -- maps

  pub included_through : (laws : RulesLaws r) (m n : Key → Option F) → MapBelow r m n → (e : At F) → Included r m e → Included r n e
  included_through laws m n h e i = by (m e.key) (n e.key) (h e.key) i
    where
      by : (o p : Option F) → IfSome o (λ f. IsSomeAnd p (λ g. Below r f g)) → IsSomeAnd o (λ f. Below r e.fact f) → IsSomeAnd p (λ f. Below r e.fact f)
      by None p s t = absurd t
      by (Some f) None s t = absurd s
      by (Some f) (Some g) s t = laws.trans e.fact f g t s

  pub all_through : (laws : RulesLaws r) (m n : Key → Option F) → MapBelow r m n → (es : List (At F)) → AllByRecursion (Included r m) es → AllByRecursion (Included r n) es
  all_through laws m n h [] i = tt
  all_through laws m n h (e ∷ es) i = (included_through laws m n h e i.0, all_through laws m n h es i.1)

  pub larger_included : (laws : RulesLaws r) (m : Key → Option F) (e : At F) (xs : List (At F)) → HasLarger r e xs → AllByRecursion (Included r m) xs → Included r m e
  larger_included laws m e [] h i = absurd h
  larger_included laws m e (x ∷ xs) h i =
      ⊎_elim (λ p. by (m e.key) (subst (λ k. IsSomeAnd (m k) (λ f. Below r x.fact f)) p.0 i.0) p.1) (λ q. larger_included laws m e xs q i.1) h
    where
      by : (o : Option F) → IsSomeAnd o (λ f. Below r x.fact f) → Below r e.fact x.fact → IsSomeAnd o (λ f. Below r e.fact f)
      by None s t = absurd s
      by (Some f) s t = laws.trans e.fact x.fact f t s

  pub all_larger_included : (laws : RulesLaws r) (m : Key → Option F) (es xs : List (At F)) → AllBelow r es xs → AllByRecursion (Included r m) xs → AllByRecursion (Included r m) es
  all_larger_included laws m [] xs h i = tt
  all_larger_included laws m (e ∷ es) xs h i = (larger_included laws m e xs h.0 i, all_larger_included laws m es xs h.1 i)

  module _ (laws : RulesLaws r) where
    abbrev pub AllFit : List (At F) → Type 0
    AllFit es = AllByRecursion (λ e. Fits r e.fact) es

    pub fit_at : (es : List (At F)) → AllFit es → (k : Key) → IfSome (fact_at es k) (λ f. Fits r f)
    fit_at [] h k = tt
    fit_at (x ∷ xs) h k = of_cond (λ o. IfSome o (λ f. Fits r f)) (same_key k x.key) (Some x.fact) (fact_at xs k) (λ t. h.0) (λ t. fit_at xs h.1 k)

    pub joined_left : (f g : F) → Fits r f → Fits r g → Below r f (joined r f g)
    joined_left f g p q = of_cond (λ h. Below r f h) (r.includes f g) f (r.join f g) (λ t. laws.refl f) (λ t. laws.join_left f g p q)

    pub joined_right : (f g : F) → Fits r f → Fits r g → Below r g (joined r f g)
    joined_right f g p q = of_cond (λ h. Below r g h) (r.includes f g) f (r.join f g) (λ t. record { holds = t }) (λ t. laws.join_right f g p q)

    pub joined_least : (f g h : F) → Below r f h → Below r g h → Below r (joined r f g) h
    joined_least f g h p q = of_cond (λ j. Below r j h) (r.includes f g) f (r.join f g) (λ t. p) (λ t. laws.join_least f g h p q)

    pub joined_fits : (f g : F) → Fits r f → Fits r g → Fits r (joined r f g)
    joined_fits f g p q = of_cond (λ h. Fits r h) (r.includes f g) f (r.join f g) (λ t. p) (λ t. laws.join_fits f g p q)

    pub fit_given : (es : List (At F)) (e : At F) → AllFit es → Fits r e.fact → AllFit (given r es e)
    fit_given [] e h p = (p, tt)
    fit_given (x ∷ xs) e h p = of_cond AllFit (same_key e.key x.key) _ _ (λ t. (joined_fits x.fact e.fact h.0 p, h.1)) (λ t. (h.0, fit_given xs e h.1 p))

    -- no fact is lost
    pub grows : (es : List (At F)) (e : At F) → AllFit es → Fits r e.fact → MapBelow r (fact_at es) (fact_at (given r es e))
    grows es e h p k = at_given (λ l o. IfSome (fact_at es l) (λ f. IsSomeAnd o (λ g. Below r f g))) es e k (above (fact_at es e.key) (fit_at es h e.key)) (λ t. itself (fact_at es k))
      where
        above : (o : Option F) → IfSome o (λ f. Fits r f) → IfSome o (λ f. Below r f (merged o e.fact))
        above None s = tt
        above (Some f) s = joined_left f e.fact s p

        itself : (o : Option F) → IfSome o (λ f. IsSomeAnd o (λ g. Below r f g))
        itself None = tt
        itself (Some f) = laws.refl f

    -- the fact given is there
    pub included_given : (es : List (At F)) (e : At F) → AllFit es → Fits r e.fact → Included r (fact_at (given r es e)) e
    included_given es e h p = subst (λ o. IsSomeAnd o (λ f. Below r e.fact f)) (sym (fact_at-given_same es e)) (above (fact_at es e.key) (fit_at es h e.key))
      where
        above : (o : Option F) → IfSome o (λ f. Fits r f) → Below r e.fact (merged o e.fact)
        above None s = laws.refl e.fact
        above (Some f) s = joined_right f e.fact s p

    -- nothing else is
    pub least_given : (es : List (At F)) (e : At F) (n : Key → Option F) → MapBelow r (fact_at es) n → Included r n e → MapBelow r (fact_at (given r es e)) n
    least_given es e n h i k = at_given (λ l o. IfSome o (λ f. IsSomeAnd (n l) (λ g. Below r f g))) es e k (below (fact_at es e.key) (n e.key) (h e.key) i) (λ t. h k)
      where
        below : (o p : Option F) → IfSome o (λ f. IsSomeAnd p (λ g. Below r f g)) → IsSomeAnd p (λ f. Below r e.fact f) → IsSomeAnd p (λ g. Below r (merged o e.fact) g)
        below None p s t = t
        below (Some f) None s t = absurd t
        below (Some f) (Some g) s t = joined_least f e.fact g s t

    -- a fact that grows makes the heights fall
    pub heights_given : (es : List (At F)) (e : At F) (f : F) → AllFit es → Fits r e.fact → fact_at es e.key ≡ Some f → r.includes f e.fact ≡ false → heights r (given r es e) < heights r es
    heights_given [] e f h p s i = absurd cc
    heights_given (x ∷ xs) e f h p s i =
        of_cond (λ l. heights r l < r.height x.fact + heights r xs) (same_key e.key x.key) _ _
        (λ t. let same : Some x.fact ≡ Some f = sym (if_true (same_key e.key x.key) _ _ t) ∙ s in
        let is : f ≡ x.fact = cc in
        let not_in : r.includes x.fact e.fact ≡ false = subst (λ g. r.includes g e.fact ≡ false) is i in
        of_cond (λ g. r.height g + heights r xs < r.height x.fact + heights r xs) (r.includes x.fact e.fact) x.fact (r.join x.fact e.fact)
        (λ u. absurd (false≢true (sym not_in ∙ u)))
        (λ u. let left = laws.join_left x.fact e.fact h.0 p in
        let right = laws.join_right x.fact e.fact h.0 p in
        let falls = laws.height_falls x.fact (r.join x.fact e.fact) h.0 left
        (by_bool (r.includes x.fact (r.join x.fact e.fact)) (λ v. absurd (false≢true (sym not_in ∙ (laws.trans e.fact (r.join x.fact e.fact) x.fact right (record { holds = v })).holds))) (λ v. v)) in
        omega arith))
        (λ t. let falls = heights_given xs e f h.1 p (sym (if_false (same_key e.key x.key) _ _ t) ∙ s) i in omega arith)
