-- What each function of a numeric domain means.
use Rattle.std.specs.Prelude.{◌≡◌, ℕ, ℤ, Bool, true, Option, Some, None, IsSomeAnd, IfSome, List}
use Rattle.viper_word.specs.declared.kind.Kind.{Kind}

-- an unknown flag is above a known one
abbrev pub LeFlag : Option Bool → Option Bool → Type 0
LeFlag b None = Unit {0}
LeFlag None (Some c) = ⊥
LeFlag (Some b) (Some c) = b ≡ c

-- the flag may be b
abbrev pub MayBe : Option Bool → Bool → Type 0
MayBe None b = Unit {0}
MayBe (Some c) b = c ≡ b

-- the meaning of each function, as a function of the logic
pub record Domain (A : Type 0) : Type 0 where
  pub has : A → ℤ → Bool
  pub includes : A → A → Bool
  pub height : A → ℕ
  pub constant : ℤ → A
  pub top : A
  pub span : ℤ → ℤ → ℤ → A
  pub join : A → A → A
  pub add : A → A → Option A
  pub sub : A → A → Option A
  pub add_wrap : A → A → Option A
  pub sub_wrap : A → A → Option A
  pub xor : A → A → Option A
  pub bit_and : A → A → Option A
  pub nor : A → A → Option A
  pub and_not : A → A → Option A
  pub neg : A → Option A
  pub sar : A → Option A
  pub shl : A → Option A
  pub moved : A → ℤ → Option A
  pub right_through : A → Option Bool → Option A
  pub left_through : A → Option Bool → Option A
  pub refine : A → Kind → A → Option A
  pub narrow : A → ℤ → ℤ → Option A
  pub least_from : A → ℤ → Option ℤ
  pub greatest_to : A → ℤ → Option ℤ
  pub all_on : A → ℤ → ℤ → Bool
  pub round : A → List ℤ → A

-- n is a member of a
pub record Has {A : Type 0} (d : Domain A) (a : A) (n : ℤ) : Type 0 where
  pub holds : d.has a n ≡ true

-- a is at most b in the order
pub record Below {A : Type 0} (d : Domain A) (a b : A) : Type 0 where
  pub holds : d.includes b a ≡ true

-- where there is a smaller value, there is a larger one
abbrev pub BelowOption : {A : Type 0} → Domain A → Option A → Option A → Type 0
BelowOption d o o' = IfSome o (λ a. IsSomeAnd o' (λ a'. Below d a a'))
