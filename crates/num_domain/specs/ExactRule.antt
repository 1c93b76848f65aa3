-- The exact rule: the exact result of single values is the answer, as a single value.
use Rattle.std.specs.Prelude.{◌≡◌, ℤ, ◌+ℤ◌, ◌-ℤ◌, neg_ℤ, Bool, Option, Some}
use Rattle.viper_word.specs.Words.{IsSigned}
use Rattle.viper_word.specs.Signed.{wrapped, signed_xor, signed_and, signed_nor, signed_and_not, halved, shifted_right, shifted_left}
use Rattle.num_domain.specs.Domain.{Domain}
use Rattle.num_domain.specs.Exact.{one}

abbrev pub Exact1 : {A : Type 0} → Domain A → (A → Option ℤ) → (A → Option A) → (ℤ → ℤ) → Type 0
Exact1 {A} d single f op = (a : A) (x : ℤ) → single a ≡ Some x → f a ≡ one d.constant single (op x)

abbrev pub Exact2 : {A : Type 0} → Domain A → (A → Option ℤ) → (A → A → Option A) → (ℤ → ℤ → ℤ)
    → Type 0
Exact2 {A} d single f op =
    (a b : A) (x y : ℤ) → single a ≡ Some x → single b ≡ Some y
    → f a b ≡ one d.constant single (op x y)

abbrev pub ExactFlag : {A : Type 0} → Domain A → (A → Option ℤ) → (A → Option Bool → Option A)
    → (Bool → ℤ → ℤ) → Type 0
ExactFlag {A} d single f op =
    (a : A) (b : Bool) (x : ℤ) → single a ≡ Some x → f a (Some b) ≡ one d.constant single (op b x)

-- a constant is single, and of single arguments each function gives the exact result, or None where
-- no word can hold it
pub record IsExact {A : Type 0} (d : Domain A) (single : A → Option ℤ) : Type 0 where
  pub constant : (n : ℤ) → IsSigned n → single (d.constant n) ≡ Some n
  pub add : Exact2 d single d.add ◌+ℤ◌
  pub sub : Exact2 d single d.sub ◌-ℤ◌
  pub add_wrap : Exact2 d single d.add_wrap (λ x y. wrapped (x +ℤ y))
  pub sub_wrap : Exact2 d single d.sub_wrap (λ x y. wrapped (x -ℤ y))
  pub xor : Exact2 d single d.xor signed_xor
  pub bit_and : Exact2 d single d.bit_and signed_and
  pub nor : Exact2 d single d.nor signed_nor
  pub and_not : Exact2 d single d.and_not signed_and_not
  pub neg : Exact1 d single d.neg (λ x. wrapped (neg_ℤ x))
  pub sar : Exact1 d single d.sar halved
  pub shl : Exact1 d single d.shl (λ x. x +ℤ x)
  pub moved : (k : ℤ) → Exact1 d single (λ a. d.moved a k) (λ x. x +ℤ k)
  pub right_through : ExactFlag d single d.right_through shifted_right
  pub left_through : ExactFlag d single d.left_through shifted_left
