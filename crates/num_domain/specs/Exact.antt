-- The exact rule: where all arguments are single values, the answer is the exact result.
use Rattle.std.specs.Prelude.{◌≡◌, ℤ, Bool, cond, Option, Some, None}
use Rattle.viper_word.specs.Words.{is_signed}
use Rattle.num_domain.specs.Domain.{Domain, Has, Below}

-- which values are single
pub record SingleLaws {A : Type 0} (d : Domain A) (single : A → Option ℤ) : Type 0 where
  pub has : (a : A) (x : ℤ) → single a ≡ Some x → Has d a x
  pub only : (a : A) (x n : ℤ) → single a ≡ Some x → Has d a n → n ≡ x
  pub below : (a a' : A) (x : ℤ) → Below d a a' → single a' ≡ Some x → single a ≡ Some x
  pub least : (a : A) (x : ℤ) → Has d a x → Below d (d.constant x) a

module _ {A : Type 0} (constant : ℤ → A) (single : A → Option ℤ) where
  -- the single value of a result, if it is a word's
  abbrev pub one : ℤ → Option A
  one z = cond (is_signed z) (Some (constant z)) None

  abbrev pub exact1_when : (ℤ → ℤ) → Option ℤ → Option A → Option A
  exact1_when op None r = r
  exact1_when op (Some x) r = one (op x)

  abbrev pub exact2_when : (ℤ → ℤ → ℤ) → Option ℤ → Option ℤ → Option A → Option A
  exact2_when op None y r = r
  exact2_when op (Some x) None r = r
  exact2_when op (Some x) (Some y) r = one (op x y)

  abbrev pub exact_flag_when : (Bool → ℤ → ℤ) → Option ℤ → Option Bool → Option A → Option A
  exact_flag_when op None b r = r
  exact_flag_when op (Some x) None r = r
  exact_flag_when op (Some x) (Some b) r = one (op b x)

  -- the exact result of single arguments, and else what the row gives
  abbrev pub exact1 : (ℤ → ℤ) → (A → Option A) → A → Option A
  exact1 op f a = exact1_when op (single a) (f a)

  abbrev pub exact2 : (ℤ → ℤ → ℤ) → (A → A → Option A) → A → A → Option A
  exact2 op f a b = exact2_when op (single a) (single b) (f a b)

  abbrev pub exact_flag : (Bool → ℤ → ℤ) → (A → Option Bool → Option A) → A → Option Bool → Option A
  exact_flag op f a b = exact_flag_when op (single a) b (f a b)
