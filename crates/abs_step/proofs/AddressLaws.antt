-- Tests and lists over spans of addresses.
use Rattle.std.specs.Prelude.{◌≡◌, ℕ, ◌+◌, ◌<◌, ◌≤◌, Bool, true, false, not, ◌&&◌, cond, List, [], ◌∷◌, length, Option, Some, None, IfSome, nat_eq}
use Rattle.std.specs.List.{list_any}
use Rattle.std.proofs.Common.{refl, arith, zero, suc, sym, subst, ⊎_elim}
use Rattle.std.proofs.Math.Nat.{eq-or-lt_of_le}
use Rattle.std.proofs.lemmas.Bool.{and_parts, and_from, false≢true, or_left, or_right, eqb-true}
use Rattle.viper_word.specs.Options.{bind}
use Rattle.abs_step.specs.Addresses.{any_from, passing, find_cell}
use Rattle.abs_step.specs.Writes.{hits}
use Rattle.viper_word.proofs.Booleans.{or_mono}

pub and_grows : (x y x' y' : Bool) → (x ≡ true → x' ≡ true) → (y ≡ true → y' ≡ true) → (x && y) ≡ true → (x' && y') ≡ true
and_grows x y x' y' f g h = let p = and_parts x y h in and_from x' y' (f p.0) (g p.1)

pub not_falls : (x y : Bool) → (x ≡ true → y ≡ true) → not y ≡ true → not x ≡ true
not_falls true true f h = h
not_falls true false f h = absurd (false≢true (f refl))
not_falls false y f h = refl

pub any_from_grows : (p q : ℕ → Bool) (at n : ℕ) → ((k : ℕ) → p k ≡ true → q k ≡ true) → any_from p at n ≡ true → any_from q at n ≡ true
unfolding any_from
any_from_grows p q at zero f h = h
any_from_grows p q at (suc n) f h = or_mono (p at) (any_from p (suc at) n) (q at) (any_from q (suc at) n) (f at) (any_from_grows p q (suc at) n f) h

pub any_from_at : (p : ℕ → Bool) (at n k : ℕ) → at ≤ k → k < at + n → p k ≡ true → any_from p at n ≡ true
unfolding any_from
any_from_at p at zero k h m t = absurd (omega arith)
any_from_at p at (suc n) k h m t =
    ⊎_elim (λ (e : at ≡ k). or_left (p at) (any_from p (suc at) n) (subst (λ (j : ℕ). p j ≡ true) (sym e) t))
    (λ (e : at < k). or_right (p at) (any_from p (suc at) n) (any_from_at p (suc at) n k (omega arith) (omega arith) t)) (eq-or-lt_of_le h)

-- where nothing of a larger set passes, nothing of a smaller one does
pub none_falls : (p q : ℕ → Bool) (at n : ℕ) → ((k : ℕ) → p k ≡ true → q k ≡ true) → not (any_from q at n) ≡ true → not (any_from p at n) ≡ true
none_falls p q at n f h = not_falls (any_from p at n) (any_from q at n) (any_from_grows p q at n f) h

-- more pass a larger test
pub passing_count : (p q : ℕ → Bool) (at n : ℕ) → ((k : ℕ) → p k ≡ true → q k ≡ true) → length (passing p at n) ≤ length (passing q at n)
unfolding passing
passing_count p q at zero f = omega arith
passing_count p q at (suc n) f = by_tests (p at) (q at) (f at) (passing_count p q (suc at) n f)
  where
    by_tests : (b b' : Bool) → (b ≡ true → b' ≡ true) → length (passing p (suc at) n) ≤ length (passing q (suc at) n) → length (cond b (at ∷ passing p (suc at) n) (passing p (suc at) n)) ≤ length (cond b' (at ∷ passing q (suc at) n) (passing q (suc at) n))
    by_tests true true e h = omega arith
    by_tests true false e h = absurd (false≢true (e refl))
    by_tests false true e h = omega arith
    by_tests false false e h = h

pub list_any_grows : {S : Type 0} (p q : S → Bool) (l : List S) → ((s : S) → p s ≡ true → q s ≡ true) → list_any p l ≡ true → list_any q l ≡ true
list_any_grows p q [] f h = h
list_any_grows p q (s ∷ l) f h = or_mono (p s) (list_any p l) (q s) (list_any q l) (f s) (list_any_grows p q l f) h

-- ---- cells that pass

pub hits_grow : (p q : ℕ → Bool) (cells : List ℕ) (i : ℕ) → ((k : ℕ) → p k ≡ true → q k ≡ true) → hits p cells i ≡ true → hits q cells i ≡ true
hits_grow p q [] i f h = h
hits_grow p q (c ∷ cs) zero f h = f c h
hits_grow p q (c ∷ cs) (suc i) f h = hits_grow p q cs i f h

-- the cell at an address that passes
pub found_hits : (p : ℕ → Bool) (cells : List ℕ) (n : ℕ) → p n ≡ true → IfSome (find_cell cells n) (λ i. (hits p cells i ≡ true) × (list_any p cells ≡ true))
found_hits p [] n t = tt
found_hits p (c ∷ cs) n t = by_test (nat_eq c n) refl (find_cell cs n) (found_hits p cs n t)
  where
    by_test : (b : Bool) → nat_eq c n ≡ b → (o : Option ℕ) → IfSome o (λ i. (hits p cs i ≡ true) × (list_any p cs ≡ true)) → IfSome (cond b (Some 0) (bind o (λ i. Some (suc i)))) (λ i. (hits p (c ∷ cs) i ≡ true) × (list_any p (c ∷ cs) ≡ true))
    by_test true e o h = let k = subst (λ (j : ℕ). p j ≡ true) (sym (eqb-true c n e)) t in (k, or_left (p c) (list_any p cs) k)
    by_test false e None h = tt
    by_test false e (Some i) h = (h.0, or_right (p c) (list_any p cs) h.1)
