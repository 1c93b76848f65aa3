-- What stands in a list of coefficients once terms were added.
use Rattle.std.specs.Prelude.{◌≡◌, ℕ, zero, suc, ◌+◌, ◌*◌, ◌<◌, ◌≤◌, ℤ, pos, ◌+ℤ◌, ◌*ℤ◌, unsigned_abs, cond, nat_eq, Bool, false, List, [], ◌∷◌, length, replicate, Option}
use Rattle.std.proofs.Common.{refl, arith, sym, ◌∙◌, ap, subst, set, get_or, ◌⊎◌, inl, inr}
use Rattle.std.proofs.lemmas.Int.{ints}
use Rattle.std.proofs.lemmas.List.{get_or-set_other, get_or_past, length-set, length-replicate}
use Rattle.std.proofs.lemmas.Grind.{get_or-set_at}
use Rattle.std.proofs.lemmas.Bool.{eq-eqb}
use Rattle.flag_relation.specs.declared.link.Link.{Link}
use Rattle.flag_relation.specs.declared.var.Var.{Var}
use Rattle.flag_relation.specs.Values.{Values, Regs}
use Rattle.flag_relation.specs.Forms.{var_number}
use Rattle.abs_step.specs.declared.outcome.Post.{Post}
use Rattle.abs_step.specs.declared.outcome.Post.TheVariants.{Same, Plus, Within}
use Rattle.rank_form.specs.Weights.{weigh, is_at, rate}
use Rattle.rank_form.specs.Bounds.{linked, post_at, moved_by, moved}
use Rattle.rank_form.specs.Rates.{AreSmall, IsBelow, rate_at, put, spread}

same_or_not : (i j : ℕ) → (i ≡ j) ⊎ ((i ≡ j → ⊥) × (nat_eq i j ≡ false))
same_or_not i j = grind arith

times_one : (c : ℤ) → c *ℤ pos 1 ≡ c
times_one c = omega (arith, ints)

pub put_at : (rs : List ℤ) (u v : Var) (c : ℤ) → var_number v < length rs → rate_at (put rs u c) v ≡ rate_at rs v +ℤ (c *ℤ is_at v u)
put_at rs u v c h = elim (same_or_not (var_number u) (var_number v)) [
  | inl same ↦
      get_or-set_at rs (var_number u) (var_number v) (rate_at rs u +ℤ c) (pos 0) (sym same) (subst (λ (i : ℕ). i < length rs) (sym same) h)
      ∙ ap (λ (i : ℕ). get_or rs i (pos 0) +ℤ c) same ∙ ap (λ z. rate_at rs v +ℤ z) (sym (ap (λ (b : Bool). c *ℤ cond b (pos 1) (pos 0)) (eq-eqb (var_number u) (var_number v) same) ∙ times_one c))
  | inr other ↦
      get_or-set_other rs (var_number u) (var_number v) (rate_at rs u +ℤ c) (pos 0) (λ (e : var_number v ≡ var_number u). other.0 (sym e))
      ∙ omega (arith, ints, ap (λ (b : Bool). c *ℤ cond b (pos 1) (pos 0)) other.1)
]

pub spread_length : (ts : List (Var × ℤ)) (rs : List ℤ) → length (spread ts rs) ≡ length rs
unfolding spread
spread_length [] rs = refl
spread_length (t ∷ ts) rs = spread_length ts (put rs t.0 t.1) ∙ length-set rs (var_number t.0) _

pub spread_at : (ts : List (Var × ℤ)) (rs : List ℤ) (v : Var) → var_number v < length rs → rate_at (spread ts rs) v ≡ rate_at rs v +ℤ rate ts v
unfolding spread weigh
spread_at [] rs v h = omega (arith, ints)
spread_at (t ∷ ts) rs v h =
    let long = length-set rs (var_number t.0) (rate_at rs t.0 +ℤ t.1) in
    omega (arith, ints, spread_at ts (put rs t.0 t.1) v (omega (arith, long)), put_at rs t.0 v t.1 h)

zero_at : (n i : ℕ) → get_or (replicate n (pos 0)) i (pos 0) ≡ pos 0
zero_at zero i = refl
zero_at (suc n) zero = refl
zero_at (suc n) (suc i) = zero_at n i

pub zero_rate : (n : ℕ) (v : Var) → rate_at (replicate n (pos 0)) v ≡ pos 0
zero_rate n v = zero_at n (var_number v)

pub zeros_below : (n b : ℕ) → IsBelow b (replicate n (pos 0))
zeros_below n b i = subst (λ z. unsigned_abs z ≤ b) (sym (zero_at n i)) (omega arith)

pub spread_zeros : (ts : List (Var × ℤ)) (n : ℕ) (v : Var) → var_number v < n → rate_at (spread ts (replicate n (pos 0))) v ≡ rate ts v
spread_zeros ts n v h = spread_at ts (replicate n (pos 0)) v (subst (λ (m : ℕ). var_number v < m) (sym (length-replicate n (pos 0))) h) ∙ omega (arith, ints, zero_at n (var_number v))

put_past : (b k : ℕ) (rs : List ℤ) (j : ℕ) (c : ℤ) → IsBelow b rs → unsigned_abs c ≤ k → (j < length rs) ⊎ (length rs ≤ j) → unsigned_abs (get_or (set rs j (get_or rs j (pos 0) +ℤ c)) j (pos 0)) ≤ b + k
put_past b k rs j c h p (inl inside) = subst (λ z. unsigned_abs z ≤ b + k) (sym (get_or-set_at rs j j (get_or rs j (pos 0) +ℤ c) (pos 0) refl inside)) (omega (arith, ints, h j))
put_past b k rs j c h p (inr past) =
    subst (λ z. unsigned_abs z ≤ b + k) (sym (get_or_past (set rs j (get_or rs j (pos 0) +ℤ c)) j (pos 0) (omega (arith, length-set rs j (get_or rs j (pos 0) +ℤ c))))) (omega arith)

inside_or_past : (j n : ℕ) → (j < n) ⊎ (n ≤ j)
inside_or_past j n = grind arith

put_same : (b k : ℕ) (rs : List ℤ) (v : Var) (c : ℤ) → IsBelow b rs → unsigned_abs c ≤ k → (i : ℕ) → var_number v ≡ i → unsigned_abs (get_or (put rs v c) i (pos 0)) ≤ b + k
put_same b k rs v c h p i same =
    subst (λ (j : ℕ). unsigned_abs (get_or (put rs v c) j (pos 0)) ≤ b + k) same (put_past b k rs (var_number v) c h p (inside_or_past (var_number v) (length rs)))

put_below : (b k : ℕ) (rs : List ℤ) (v : Var) (c : ℤ) → IsBelow b rs → unsigned_abs c ≤ k → IsBelow (b + k) (put rs v c)
put_below b k rs v c h p i = elim (same_or_not (var_number v) i) [
  | inl same ↦ put_same b k rs v c h p i same
  | inr other ↦ subst (λ z. unsigned_abs z ≤ b + k) (sym (get_or-set_other rs (var_number v) i (rate_at rs v +ℤ c) (pos 0) (λ (e : i ≡ var_number v). other.0 (sym e)))) (omega (arith, h i))
]

pub spread_below : (b m : ℕ) (ts : List (Var × ℤ)) (rs : List ℤ) → AreSmall b ts → IsBelow m rs → IsBelow (m + length ts * b) (spread ts rs)
unfolding spread
spread_below b m [] rs s h i = omega (arith, h i)
spread_below b m (t ∷ ts) rs s h i = omega (arith, spread_below b (m + b) ts (put rs t.0 t.1) s.1 (put_below m b rs t.0 t.1 h s.0) i)

pub linked_small : (b : ℕ) (links : Regs (Option Link)) (ts : List (Var × ℤ)) → AreSmall b ts → AreSmall b (linked links ts)
linked_small b links [] h = tt
linked_small b links (t ∷ ts) h = (h.0, linked_small b links ts h.1)

pub linked_length : (links : Regs (Option Link)) (ts : List (Var × ℤ)) → length (linked links ts) ≡ length ts
linked_length links [] = refl
linked_length links (t ∷ ts) = ap suc (linked_length links ts)

moved_small_by : (b : ℕ) (p : Post) (v : Var) (c : ℤ) (ts : List (Var × ℤ)) → unsigned_abs c ≤ b → AreSmall b ts → AreSmall b (moved_by p v c ts)
moved_small_by b Same v c ts h k = (h, k)
moved_small_by b (Plus u n) v c ts h k = (h, k)
moved_small_by b Within v c ts h k = k

pub moved_small : (b : ℕ) (posts : Values Post) (ts : List (Var × ℤ)) → AreSmall b ts → AreSmall b (moved posts ts)
unfolding moved
moved_small b posts [] h = tt
moved_small b posts (t ∷ ts) h = moved_small_by b (post_at posts t.0) t.0 t.1 (moved posts ts) h.0 (moved_small b posts ts h.1)

moved_few_by : (p : Post) (v : Var) (c : ℤ) (ts : List (Var × ℤ)) → length (moved_by p v c ts) ≤ suc (length ts)
moved_few_by Same v c ts = omega arith
moved_few_by (Plus u n) v c ts = omega arith
moved_few_by Within v c ts = omega arith

pub moved_few : (posts : Values Post) (ts : List (Var × ℤ)) → length (moved posts ts) ≤ length ts
unfolding moved
moved_few posts [] = omega arith
moved_few posts (t ∷ ts) = omega (arith, moved_few_by (post_at posts t.0) t.0 t.1 (moved posts ts), moved_few posts ts)

-- what the code has once terms were added to no coefficients
pub start_below : (n b : ℕ) (zs : List ℤ) → zs ≡ replicate n (pos 0) → IsBelow b zs
start_below n b zs e = subst (λ (rs : List ℤ). IsBelow b rs) (sym e) (zeros_below n b)

pub below_more : (a b : ℕ) (rs : List ℤ) → a ≤ b → IsBelow a rs → IsBelow b rs
below_more a b rs h k i = omega (arith, h, k i)

eight_times : (n b : ℕ) → n ≤ 8 → 0 + n * b ≤ 8 * b
eight_times n b h = grind arith

pub spread_fits : (n b : ℕ) (ts : List (Var × ℤ)) → AreSmall b ts → length ts ≤ 8 → IsBelow (8 * b) (spread ts (replicate n (pos 0)))
spread_fits n b ts h few = below_more (0 + length ts * b) (8 * b) _ (eight_times (length ts) b few) (spread_below b 0 ts (replicate n (pos 0)) h (zeros_below n 0))

pub terms_fit : (n b : ℕ) (links : Regs (Option Link)) (ts : List (Var × ℤ)) (rs zs : List ℤ) → rs ≡ spread (linked links ts) zs → zs ≡ replicate n (pos 0) → AreSmall b ts → length ts ≤ 8 → IsBelow (8 * b) rs
terms_fit n b links ts rs zs e z h few =
    subst (λ (us : List ℤ). IsBelow (8 * b) us) (sym (e ∙ ap (spread (linked links ts)) z))
    (spread_fits n b (linked links ts) (linked_small b links ts h) (omega (arith, linked_length links ts, few)))

pub moved_fit : (n b : ℕ) (links : Regs (Option Link)) (posts : Values Post) (ts : List (Var × ℤ)) (rs zs : List ℤ) → rs ≡ spread (linked links (moved posts ts)) zs → zs ≡ replicate n (pos 0) → AreSmall b ts → length ts ≤ 8 → IsBelow (8 * b) rs
moved_fit n b links posts ts rs zs e z h few =
    terms_fit n b links (moved posts ts) rs zs e z (moved_small b posts ts h) (omega (arith, moved_few posts ts, few))
