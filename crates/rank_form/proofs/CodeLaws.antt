-- What the code sums up is what the bounds say.
use Rattle.std.specs.Prelude.{◌≡◌, ℕ, zero, suc, ◌+◌, ◌<◌, ◌≤◌, nat_lt, nat_eq, nat_le, ℤ, pos, ◌+ℤ◌, ◌-ℤ◌, ◌*ℤ◌, neg_ℤ, cond, Bool, true, false, ◌&&◌, List, [], ◌∷◌, length, replicate, Option}
use Rattle.std.proofs.Common.{refl, arith, sym, ◌∙◌, ap, subst}
use Rattle.std.proofs.Math.Path.{ap₂}
use Rattle.std.proofs.lemmas.Int.{ints}
use Rattle.std.proofs.lemmas.Bool.{and_parts, lt-ltb, leb-true}
use Rattle.num_domain.specs.Domain.{Domain}
use Rattle.viper_word.specs.declared.reg.Reg.TheVariants.{A, X, Y}
use Rattle.flag_relation.specs.declared.link.Link.{Link}
use Rattle.flag_relation.specs.declared.var.Var.{Var}
use Rattle.flag_relation.specs.declared.var.Var.TheVariants.{Reg, Cell}
use Rattle.flag_relation.specs.Values.{Values, Regs}
use Rattle.flag_relation.specs.Facts.{FactOf}
use Rattle.flag_relation.specs.Forms.{FormOf, var_number, is_coefficient, are_terms}
use Rattle.abs_step.specs.declared.outcome.Post.{Post}
use Rattle.abs_step.specs.declared.outcome.Post.TheVariants.{Same, Plus, Within}
use Rattle.abs_step.specs.OutcomeLists.{OutcomeOf}
use Rattle.rank_form.specs.declared.rates.TheConstants.{FACT_VARIABLES}
use Rattle.rank_form.specs.Weights.{weigh, is_at, rate, negated, less, sum_below, sum_over}
use Rattle.rank_form.specs.Bounds.{place, linked, most, post_at, by_post, added, within, moved, span, upper, lower, remains, after, rise}
use Rattle.rank_form.specs.Rates.{rate_at, spread, is_in, most_in, gain, gains, net_most, net_upper}
use Rattle.rank_form.proofs.Products.{times_minus, times_zero, zero_times}
use Rattle.rank_form.proofs.Weighing.{weigh_append, weigh_negated, weigh_renamed}
use Rattle.rank_form.proofs.Summing.{sum_zero, sum_plus, sum_same, share}
use Rattle.rank_form.proofs.AfterLaws.{after_constant, after_weighs, within_zero}
use Rattle.rank_form.proofs.Rating.{spread_zeros, zero_rate}

-- ---- sums over the variables of a fact

below_within : (n : ℕ) (g h : ℕ → ℤ) → ((i : ℕ) → i < n → g i ≡ h i) → sum_below n g ≡ sum_below n h
unfolding sum_below
below_within zero g h p = refl
below_within (suc n) g h p = ap₂ ◌+ℤ◌ (below_within n g h (λ i q. p i (omega arith))) (p n (omega arith))

-- the variables of a fact with so many cells come first
sum_within : (n m : ℕ) (g h : Var → ℤ) → 3 + n ≤ m → ((v : Var) → var_number v < m → g v ≡ h v) → sum_over n g ≡ sum_over n h
sum_within n m g h q p =
    omega (
      arith,
      ints,
      p (Reg A) (omega arith),
      p (Reg X) (omega arith),
      p (Reg Y) (omega arith),
      below_within n (λ i. g (Cell i)) (λ i. h (Cell i)) (λ i r. p (Cell i) (omega arith)),
    )

past_test : (i n : ℕ) → n ≤ i → nat_lt i n ≡ false
past_test i n h = grind arith

other_test : (i j : ℕ) → j < i → nat_eq i j ≡ false
other_test i j h = grind arith

next : (i j : ℕ) → nat_eq i j ≡ true → j < i + 1
next i j h = grind arith

zero_cond : (b : Bool) → cond b (pos 0) (pos 0) ≡ pos 0
zero_cond true = refl
zero_cond false = refl

times_plus_zero : (c r : ℤ) → r ≡ pos 0 → (c *ℤ pos 1) +ℤ r ≡ c
times_plus_zero c r h = omega (arith, ints)

one_plus_zero : (a b : ℤ) → b ≡ pos 0 → a ≡ (pos 1 *ℤ a) +ℤ b
one_plus_zero a b h = omega (arith, ints)

zero_plus : (c r : ℤ) → (c *ℤ pos 0) +ℤ r ≡ r
zero_plus c r = omega (arith, ints, times_zero c)

none_plus : (a b : ℤ) → b ≡ (pos 0 *ℤ a) +ℤ b
none_plus a b = omega (arith, ints, zero_times a)

-- sums over the fact's own variables
sum_in : (n : ℕ) (g h : Var → ℤ) → ((v : Var) → is_in n v ≡ true → g v ≡ h v) → sum_over n g ≡ sum_over n h
sum_in n g h p =
    omega (
      arith,
      ints,
      p (Reg A) refl,
      p (Reg X) refl,
      p (Reg Y) refl,
      below_within n (λ i. g (Cell i)) (λ i. h (Cell i)) (λ i r. p (Cell i) (lt-ltb i n r)),
    )

module _ {T : Type 0} (d : Domain T) where
  -- the bound of coefficients in two lists
  net_is : (x : FactOf T) (plus minus : List ℤ) (ts : List (Var × ℤ)) → length x.cells ≤ 32
      → ((v : Var) → var_number v < FACT_VARIABLES → rate_at plus v -ℤ rate_at minus v ≡ rate ts v)
      → net_upper d x plus minus ≡ sum_over (length x.cells) (λ v. most (rate ts v) (span d x v))
  net_is x plus minus ts few e =
      sum_within (length x.cells) FACT_VARIABLES (net_most d x plus minus) (λ v. most (rate ts v) (span d x v)) (omega arith) (λ v h. ap (λ c. most c (span d x v)) (e v h))

  less_zero : (a b c : ℤ) → a ≡ c → b ≡ pos 0 → a -ℤ b ≡ c
  less_zero a b c p q = omega (arith, ints)

  zero_less : (a b c : ℤ) → a ≡ pos 0 → b ≡ c → a -ℤ b ≡ neg_ℤ c
  zero_less a b c p q = omega (arith, ints)

  both_less : (a b p q : ℤ) → a ≡ p → b ≡ q → a -ℤ b ≡ p +ℤ neg_ℤ q
  both_less a b p q h k = omega (arith, ints)

  -- what a variable weighs in the canonical form
  abbrev named : FactOf T → Var → Var → ℤ
  named x v u = is_at v (place x.links u).var

  linked_rate : (links : Regs (Option Link)) (ts : List (Var × ℤ)) (v : Var) → rate (linked links ts) v ≡ weigh (λ u. is_at v (place links u).var) ts
  linked_rate links ts v = weigh_renamed (is_at v) (λ u. (place links u).var) ts

  upper_sum : (f : FormOf) (x : FactOf T)
      → upper d f x ≡ (f.constant +ℤ weigh (λ v. (place x.links v).more) f.terms) +ℤ sum_over (length x.cells) (λ v. most (rate (linked x.links f.terms) v) (span d x v))
  unfolding upper
  upper_sum f x = refl

  pub upper_code : (f : FormOf) (x : FactOf T) → length x.cells ≤ 32
      → net_upper d x (spread (linked x.links f.terms) (replicate FACT_VARIABLES (pos 0))) (replicate FACT_VARIABLES (pos 0)) ≡ upper d f x -ℤ (f.constant +ℤ weigh (λ v. (place x.links v).more) f.terms)
  upper_code f x few =
      let zeros = replicate FACT_VARIABLES (pos 0) in
      let ts = linked x.links f.terms in
      omega (
        arith,
        ints,
        net_is x (spread ts zeros) zeros ts few (λ v h. less_zero (rate_at (spread ts zeros) v) (rate_at zeros v) (rate ts v) (spread_zeros ts FACT_VARIABLES v h) (zero_rate FACT_VARIABLES v)),
        upper_sum f x,
      )

  pub lower_code : (f : FormOf) (x : FactOf T) → length x.cells ≤ 32
      → net_upper d x (replicate FACT_VARIABLES (pos 0)) (spread (linked x.links f.terms) (replicate FACT_VARIABLES (pos 0))) ≡ (f.constant +ℤ weigh (λ v. (place x.links v).more) f.terms) -ℤ lower d f x
  lower_code f x few =
      let zeros = replicate FACT_VARIABLES (pos 0) in
      let ts = linked x.links f.terms in
      let us = linked x.links (negated f).terms in
      let turn = λ (v : Var). linked_rate x.links (negated f).terms v ∙ weigh_negated (named x v) f.terms ∙ ap neg_ℤ (sym (linked_rate x.links f.terms v)) in
      omega (
        arith,
        ints,
        net_is x zeros (spread ts zeros) us few (λ v h. zero_less (rate_at zeros v) (rate_at (spread ts zeros) v) (rate ts v) (zero_rate FACT_VARIABLES v) (spread_zeros ts FACT_VARIABLES v h) ∙ sym (turn v)),
        upper_sum (negated f) x,
        weigh_negated (λ v. (place x.links v).more) f.terms,
        times_minus f.constant,
      )

  -- ---- what terms become by their posts

  -- the most that is left of a term, where the fact has its variable
  abbrev left_in : FactOf T → Post → Var → ℤ → ℤ
  left_in x Same v c = pos 0
  left_in x (Plus u n) v c = pos 0
  left_in x Within v c = most_in d x v c

  unfoldable lefts : Values Post → FactOf T → List (Var × ℤ) → ℤ
  lefts posts x [] = pos 0
  lefts posts x (t ∷ ts) = left_in x (post_at posts t.0) t.0 t.1 +ℤ lefts posts x ts

  gain_is : (links : Regs (Option Link)) (x : FactOf T) (p : Post) (v : Var) (c : ℤ)
      → gain d links x p v c ≡ ((c *ℤ by_post (λ w. (place links w).more) p v) +ℤ (c *ℤ added p)) +ℤ left_in x p v c
  gain_is links x Same v c = omega (arith, ints, times_zero c)
  gain_is links x (Plus u n) v c = omega (arith, ints)
  gain_is links x Within v c = omega (arith, ints, times_zero c)

  gains_are : (links : Regs (Option Link)) (posts : Values Post) (x : FactOf T) (ts : List (Var × ℤ))
      → gains d links posts x ts ≡ (weigh (λ v. by_post (λ w. (place links w).more) (post_at posts v) v) ts +ℤ weigh (λ v. added (post_at posts v)) ts) +ℤ lefts posts x ts
  unfolding gains weigh lefts
  gains_are links posts x [] = refl
  gains_are links posts x (t ∷ ts) = omega (arith, ints, gain_is links x (post_at posts t.0) t.0 t.1, gains_are links posts x ts)

  -- terms in order have no further term of a variable that is passed
  rate_past : (k : ℕ) (ts : List (Var × ℤ)) (v : Var) → are_terms k ts ≡ true → var_number v < k → rate ts v ≡ pos 0
  unfolding weigh are_terms
  rate_past k [] v h p = refl
  rate_past k (t ∷ ts) v h p =
      let q = and_parts (nat_le k (var_number t.0) && is_coefficient t.1) (are_terms (var_number t.0 + 1) ts) h in
      let r = and_parts (nat_le k (var_number t.0)) (is_coefficient t.1) q.0 in
      let o = leb-true k (var_number t.0) r.0 in
      omega (arith, ints, ap (λ (b : Bool). t.1 *ℤ cond b (pos 1) (pos 0)) (other_test (var_number t.0) (var_number v) (omega arith)), times_zero t.1, rate_past (var_number t.0 + 1) ts v q.1 (omega arith))

  -- a sum over variables of something of their coefficients, by the terms
  unfoldable by_terms : ℕ → (Var → ℤ → ℤ) → List (Var × ℤ) → ℤ
  by_terms n G [] = pos 0
  by_terms n G (t ∷ ts) = cond (is_in n t.0) (G t.0 t.1) (pos 0) +ℤ by_terms n G ts

  split_by : (G : ℤ → ℤ) (c r : ℤ) (b : Bool) → G (pos 0) ≡ pos 0 → (b ≡ true → r ≡ pos 0)
      → G ((c *ℤ cond b (pos 1) (pos 0)) +ℤ r) ≡ (cond b (pos 1) (pos 0) *ℤ G c) +ℤ G r
  split_by G c r true z h = ap G (times_plus_zero c r (h refl)) ∙ one_plus_zero (G c) (G r) (ap G (h refl) ∙ z)
  split_by G c r false z h = ap G (zero_plus c r) ∙ none_plus (G c) (G r)

  sum_by_terms : (n k : ℕ) (G : Var → ℤ → ℤ) (ts : List (Var × ℤ)) → ((v : Var) → G v (pos 0) ≡ pos 0) → are_terms k ts ≡ true
      → sum_over n (λ v. G v (rate ts v)) ≡ by_terms n G ts
  unfolding weigh are_terms by_terms
  sum_by_terms n k G [] z h = sum_zero n (λ v. G v (pos 0)) z
  sum_by_terms n k G (t ∷ ts) z h =
      let q = and_parts (nat_le k (var_number t.0) && is_coefficient t.1) (are_terms (var_number t.0 + 1) ts) h in
      let inside = λ (v : Var). cond (is_in n v) (G v t.1) (pos 0) in
      let each = sum_same n (λ v. G v ((t.1 *ℤ is_at v t.0) +ℤ rate ts v)) (λ v. (is_at v t.0 *ℤ G v t.1) +ℤ G v (rate ts v))
      (λ v. split_by (G v) t.1 (rate ts v) (nat_eq (var_number t.0) (var_number v)) (z v) (λ e. rate_past (var_number t.0 + 1) ts v q.1 (next (var_number t.0) (var_number v) e))) in
      let one = sum_in n (λ v. is_at v t.0 *ℤ G v t.1) (λ v. is_at v t.0 *ℤ inside v) (λ v e. ap (λ b. is_at v t.0 *ℤ cond b (G v t.1) (pos 0)) (sym e)) in
      each ∙ sum_plus n (λ v. is_at v t.0 *ℤ G v t.1) (λ v. G v (rate ts v))
      ∙ ap₂ ◌+ℤ◌ (one ∙ share n t.0 inside (λ i p. ap (λ b. cond b (G (Cell i) t.1) (pos 0)) (past_test i n p))) (sum_by_terms n (var_number t.0 + 1) G ts z q.1)

  lefts_by : (posts : Values Post) (x : FactOf T) (p : Post) (v : Var) (c : ℤ)
      → left_in x p v c ≡ cond (is_in (length x.cells) v) (within c (span d x v) p) (pos 0)
  lefts_by posts x Same v c = sym (zero_cond (is_in (length x.cells) v))
  lefts_by posts x (Plus u n) v c = sym (zero_cond (is_in (length x.cells) v))
  lefts_by posts x Within v c = refl

  lefts_are : (posts : Values Post) (x : FactOf T) (ts : List (Var × ℤ))
      → lefts posts x ts ≡ by_terms (length x.cells) (λ v c. within c (span d x v) (post_at posts v)) ts
  unfolding lefts by_terms
  lefts_are posts x [] = refl
  lefts_are posts x (t ∷ ts) = ap₂ ◌+ℤ◌ (lefts_by posts x (post_at posts t.0) t.0 t.1) (lefts_are posts x ts)

  remains_are : (o : OutcomeOf T) (ts : List (Var × ℤ)) → length o.after.cells ≡ length o.pre.cells → are_terms 0 ts ≡ true → lefts o.posts o.after ts ≡ remains d o ts
  remains_are o ts e h =
      let G = λ (v : Var) (c : ℤ). within c (span d o.after v) (post_at o.posts v) in
      lefts_are o.posts o.after ts ∙ sym (sum_by_terms (length o.after.cells) 0 G ts (λ v. within_zero (span d o.after v) (post_at o.posts v)) h) ∙ ap (λ (n : ℕ). sum_over n (λ v. G v (rate ts v))) e

  -- what the terms of a form add to the constant, and the links to those that are left
  pub gains_code : (f : FormOf) (o : OutcomeOf T) (links : Regs (Option Link)) → length o.after.cells ≡ length o.pre.cells → are_terms 0 f.terms ≡ true
      → f.constant +ℤ gains d links o.posts o.after f.terms ≡ (after d f o).constant +ℤ weigh (λ v. (place links v).more) (after d f o).terms
  gains_code f o links e h =
      omega (
        arith,
        ints,
        gains_are links o.posts o.after f.terms,
        remains_are o f.terms e h,
        after_constant d o f,
        after_weighs d o (λ v. (place links v).more) f,
      )

  after_terms : (f : FormOf) (o : OutcomeOf T) → (after d f o).terms ≡ moved o.posts f.terms
  unfolding after
  after_terms f o = refl

  pub after_code : (f : FormOf) (o : OutcomeOf T) → length o.pre.cells ≤ 32
      → net_upper d o.pre (spread (linked o.pre.links (moved o.posts f.terms)) (replicate FACT_VARIABLES (pos 0))) (replicate FACT_VARIABLES (pos 0))
      ≡ upper d (after d f o) o.pre -ℤ ((after d f o).constant +ℤ weigh (λ v. (place o.pre.links v).more) (after d f o).terms)
  after_code f o few =
      subst (λ ts. net_upper d o.pre (spread (linked o.pre.links ts) (replicate FACT_VARIABLES (pos 0))) (replicate FACT_VARIABLES (pos 0)) ≡ upper d (after d f o) o.pre -ℤ ((after d f o).constant +ℤ weigh (λ v. (place o.pre.links v).more) (after d f o).terms))
      (after_terms f o) (upper_code (after d f o) o.pre few)

  pub rise_code : (f g : FormOf) (o : OutcomeOf T) → length o.pre.cells ≤ 32
      → net_upper d o.pre (spread (linked o.pre.links (moved o.posts g.terms)) (replicate FACT_VARIABLES (pos 0))) (spread (linked o.pre.links f.terms) (replicate FACT_VARIABLES (pos 0)))
      ≡ (rise d f g o +ℤ (f.constant +ℤ weigh (λ v. (place o.pre.links v).more) f.terms)) -ℤ ((after d g o).constant +ℤ weigh (λ v. (place o.pre.links v).more) (after d g o).terms)
  unfolding rise
  rise_code f g o few =
      let zeros = replicate FACT_VARIABLES (pos 0) in
      let links = o.pre.links in
      let more = λ (v : Var). (place links v).more in
      let a = after d g o in
      let ts = linked links a.terms in
      let us = linked links f.terms in
      let ws = linked links (less a f).terms in
      let turn = λ (v : Var).
      linked_rate links (less a f).terms v ∙ weigh_append (named o.pre v) a.terms (negated f).terms
      ∙ ap₂ ◌+ℤ◌ (sym (linked_rate links a.terms v)) (weigh_negated (named o.pre v) f.terms ∙ ap neg_ℤ (sym (linked_rate links f.terms v))) in
      let net = net_is o.pre (spread ts zeros) (spread us zeros) ws few
      (λ v h. both_less (rate_at (spread ts zeros) v) (rate_at (spread us zeros) v) (rate ts v) (rate us v) (spread_zeros ts FACT_VARIABLES v h) (spread_zeros us FACT_VARIABLES v h) ∙ sym (turn v)) in
      let total : net_upper d o.pre (spread ts zeros) (spread us zeros) ≡ (upper d (less a f) o.pre +ℤ (f.constant +ℤ weigh more f.terms)) -ℤ (a.constant +ℤ weigh more a.terms) = omega (
        arith,
        ints,
        net,
        upper_sum (less a f) o.pre,
        weigh_append more a.terms (negated f).terms,
        weigh_negated more f.terms,
        times_minus f.constant,
      ) in
      subst (λ (ks : List (Var × ℤ)). net_upper d o.pre (spread (linked links ks) zeros) (spread us zeros) ≡ (upper d (less a f) o.pre +ℤ (f.constant +ℤ weigh more f.terms)) -ℤ (a.constant +ℤ weigh more a.terms)) (after_terms g o) total

  -- how the parts of a rise add up
  pub rise_adds : (k g n t b m x c w r : ℤ) → t ≡ (k +ℤ g) +ℤ n → k +ℤ g ≡ c +ℤ w → n ≡ (r +ℤ (b +ℤ m)) -ℤ (c +ℤ w) → x ≡ t -ℤ (b +ℤ m) → x ≡ r
  rise_adds k g n t b m x c w r e f h i = omega (arith, ints)
