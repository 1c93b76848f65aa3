-- What the first number that passes is.
use Rattle.std.specs.Prelude.{◌≡◌, ℕ, zero, suc, ◌+ℤ◌, ℤ, pos, ◌≤ℤ◌, ◌<ℤ◌, Bool, true, false, int_le, Some, IsSomeAnd, IfSome}
use Rattle.std.proofs.Common.{sym, subst, arith, ⊎_elim, ◌∙◌}
use Rattle.std.proofs.lemmas.Int.{ints}
use Rattle.std.proofs.lemmas.Bool.{cases_Bool, false≢true, cond_both}
use Rattle.viper_word.specs.Search.{find_from}
use Rattle.viper_word.proofs.Options.{all_some}
use Rattle.viper_word.proofs.Integers.{le_true, le_false}

pub find_is : (t : ℤ → Bool) (k : ℕ) (n : ℤ) → IfSome (find_from t k n) (λ r. (t r ≡ true) × (n ≤ℤ r))
unfolding find_from
find_is t zero n = tt
find_is t (suc k) n =
    cond_both (t n) (Some n) (find_from t k (n +ℤ pos 1)) (λ o. IfSome o (λ r. (t r ≡ true) × (n ≤ℤ r)))
    (λ e. (e, omega (arith, ints)))
    (λ e. all_some (λ r. (t r ≡ true) × ((n +ℤ pos 1) ≤ℤ r)) (λ r. (t r ≡ true) × (n ≤ℤ r)) (find_from t k (n +ℤ pos 1)) (find_is t k (n +ℤ pos 1)) (λ r p. let q = p.1 in (p.0, omega (arith, ints))))

pub find_first : (t : ℤ → Bool) (k : ℕ) (n m : ℤ) → t m ≡ true → n ≤ℤ m → m <ℤ (n +ℤ pos k) → IsSomeAnd (find_from t k n) (λ r. r ≤ℤ m)
unfolding find_from
find_first t zero n m e h l = absurd (omega (arith, ints))
find_first t (suc k) n m e h l =
    cond_both (t n) (Some n) (find_from t k (n +ℤ pos 1)) (λ o. IsSomeAnd o (λ r. r ≤ℤ m))
    (λ f. h)
    (λ f. ⊎_elim
    (λ (g : int_le m n ≡ true). let q = le_true m n g in let same : m ≡ n = omega (arith, ints) in absurd (false≢true (sym f ∙ subst (λ (x : ℤ). t x ≡ true) same e)))
    (λ (g : int_le m n ≡ false). let q = le_false m n g in find_first t k (n +ℤ pos 1) m e (omega (arith, ints)) (omega (arith, ints)))
    (cases_Bool (int_le m n)))
