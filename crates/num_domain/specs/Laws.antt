-- The laws that every numeric domain keeps.
use Rattle.std.specs.Prelude.{◌≡◌, ◌<◌, ℤ, pos, ◌+ℤ◌, ◌-ℤ◌, neg_ℤ, ◌≤ℤ◌, Bool, true, false, Option, Some, IsSomeAnd, IfSome, List}
use Rattle.viper_word.specs.Words.{IsSigned}
use Rattle.viper_word.specs.Signed.{wrapped, signed_xor, signed_and, signed_nor, signed_and_not, halved, shifted_right, shifted_left, signed_compares}
use Rattle.viper_word.specs.declared.kind.Kind.{Kind}
use Rattle.num_domain.specs.Domain.{Domain, Has, Below, BelowOption, LeFlag, MayBe}
use Rattle.viper_word.specs.Ranges.{IsRange, InRange, OnStep}

-- the answer has each result of the members that a word can hold
abbrev pub Sound1 : {A : Type 0} → Domain A → (A → Option A) → (ℤ → ℤ) → Type 0
Sound1 {A} d f op =
    (a : A) (x : ℤ) → Has d a x → IsSigned (op x) → IsSomeAnd (f a) (λ r. Has d r (op x))

abbrev pub Sound2 : {A : Type 0} → Domain A → (A → A → Option A) → (ℤ → ℤ → ℤ) → Type 0
Sound2 {A} d f op =
    (a b : A) (x y : ℤ) → Has d a x → Has d b y → IsSigned (op x y)
    → IsSomeAnd (f a b) (λ r. Has d r (op x y))

-- larger arguments give a larger answer
abbrev pub Mono1 : {A : Type 0} → Domain A → (A → Option A) → Type 0
Mono1 {A} d f = (a a' : A) → Below d a a' → BelowOption d (f a) (f a')

abbrev pub Mono2 : {A : Type 0} → Domain A → (A → A → Option A) → Type 0
Mono2 {A} d f = (a a' b b' : A) → Below d a a' → Below d b b' → BelowOption d (f a b) (f a' b')

abbrev pub MonoFlag : {A : Type 0} → Domain A → (A → Option Bool → Option A) → Type 0
MonoFlag {A} d f =
    (a a' : A) (b b' : Option Bool) → Below d a a' → LeFlag b b' → BelowOption d (f a b) (f a' b')

abbrev pub SoundFlag : {A : Type 0} → Domain A → (A → Option Bool → Option A) → (Bool → ℤ → ℤ)
    → Type 0
SoundFlag {A} d f op =
    (a : A) (b : Option Bool) (c : Bool) (x : ℤ) → Has d a x → MayBe b c → IsSigned (op c x)
    → IsSomeAnd (f a b) (λ r. Has d r (op c x))

-- the laws of the order and of the members
pub record OrderLaws {A : Type 0} (d : Domain A) : Type 0 where
  pub in_w : (a : A) (n : ℤ) → Has d a n → IsSigned n
  pub refl : (a : A) → Below d a a
  pub trans : (a b c : A) → Below d a b → Below d b c → Below d a c
  pub antisym : (a b : A) → Below d a b → Below d b a → a ≡ b
  pub has : (a b : A) (n : ℤ) → Below d a b → Has d a n → Has d b n
  pub height_falls : (a b : A) → Below d a b → d.includes a b ≡ false → d.height b < d.height a
  pub constant_has : (n : ℤ) → IsSigned n → Has d (d.constant n) n
  pub top_greatest : (a : A) → Below d a d.top
  pub top_has : (n : ℤ) → IsSigned n → Has d d.top n
  pub join_left : (a b : A) → Below d a (d.join a b)
  pub join_right : (a b : A) → Below d b (d.join a b)
  pub join_least : (a b c : A) → Below d a c → Below d b c → Below d (d.join a b) c
  pub round_above : (a : A) (t : List ℤ) → Below d a (d.round a t)
  pub round_mono : (a a' : A) (t : List ℤ) → Below d a a' → Below d (d.round a t) (d.round a' t)
  pub all_on_mono : (a a' : A) (q s : ℤ) → Below d a a' → d.all_on a' q s ≡ true
      → d.all_on a q s ≡ true

-- each function has every result of its members
pub record SoundLaws {A : Type 0} (d : Domain A) : Type 0 where
  pub add : Sound2 d d.add ◌+ℤ◌
  pub sub : Sound2 d d.sub ◌-ℤ◌
  pub add_wrap : Sound2 d d.add_wrap (λ x y. wrapped (x +ℤ y))
  pub sub_wrap : Sound2 d d.sub_wrap (λ x y. wrapped (x -ℤ y))
  pub xor : Sound2 d d.xor signed_xor
  pub bit_and : Sound2 d d.bit_and signed_and
  pub nor : Sound2 d d.nor signed_nor
  pub and_not : Sound2 d d.and_not signed_and_not
  pub neg : Sound1 d d.neg (λ x. wrapped (neg_ℤ x))
  pub sar : Sound1 d d.sar halved
  pub shl : Sound1 d d.shl (λ x. x +ℤ x)
  pub moved : (k : ℤ) → Sound1 d (λ a. d.moved a k) (λ x. x +ℤ k)
  pub right_through : SoundFlag d d.right_through shifted_right
  pub left_through : SoundFlag d d.left_through shifted_left
  pub refine : (a b : A) (k : Kind) (x y : ℤ) → Has d a x → Has d b y → signed_compares k x y ≡ true
      → IsSomeAnd (d.refine a k b) (λ r. Has d r x)

-- a larger argument gives a larger answer
pub record MonoLaws {A : Type 0} (d : Domain A) : Type 0 where
  pub add : Mono2 d d.add
  pub sub : Mono2 d d.sub
  pub add_wrap : Mono2 d d.add_wrap
  pub sub_wrap : Mono2 d d.sub_wrap
  pub xor : Mono2 d d.xor
  pub bit_and : Mono2 d d.bit_and
  pub nor : Mono2 d d.nor
  pub and_not : Mono2 d d.and_not
  pub neg : Mono1 d d.neg
  pub sar : Mono1 d d.sar
  pub shl : Mono1 d d.shl
  pub moved : (k : ℤ) → Mono1 d (λ a. d.moved a k)
  pub right_through : MonoFlag d d.right_through
  pub left_through : MonoFlag d d.left_through
  pub refine : (k : Kind) → Mono2 d (λ a b. d.refine a k b)
  pub refine_below : (a b : A) (k : Kind) → BelowOption d (d.refine a k b) (Some a)

-- ranges, narrowing, and the least and the greatest member
pub record SpanLaws {A : Type 0} (d : Domain A) : Type 0 where
  pub span_has : (lo hi modulus n : ℤ) → IsRange lo hi modulus → InRange lo hi modulus n
      → Has d (d.span lo hi modulus) n
  pub all_on_sound : (a : A) (q t n : ℤ) → pos 1 ≤ℤ q → Has d a n → d.all_on a q t ≡ true
      → OnStep q t n
  pub least_in_w : (a : A) (n : ℤ) → IfSome (d.least_from a n) IsSigned
  pub greatest_in_w : (a : A) (n : ℤ) → IfSome (d.greatest_to a n) IsSigned
  pub narrow_sound : (a : A) (lo hi n : ℤ) → Has d a n → lo ≤ℤ n → n ≤ℤ hi
      → IsSomeAnd (d.narrow a lo hi) (λ r. Has d r n)
  pub narrow_below : (a : A) (lo hi : ℤ) → BelowOption d (d.narrow a lo hi) (Some a)
  pub narrow_mono : (a a' : A) (lo lo' hi hi' : ℤ) → Below d a a' → lo' ≤ℤ lo → hi ≤ℤ hi'
      → BelowOption d (d.narrow a lo hi) (d.narrow a' lo' hi')
  pub least_above : (a : A) (n : ℤ) → IfSome (d.least_from a n) (λ k. n ≤ℤ k)
  pub least_first : (a : A) (n m : ℤ) → Has d a m → n ≤ℤ m
      → IsSomeAnd (d.least_from a n) (λ k. k ≤ℤ m)
  pub least_mono : (a a' : A) (n n' : ℤ) → Below d a a' → n' ≤ℤ n
      → IfSome (d.least_from a n) (λ k. IsSomeAnd (d.least_from a' n') (λ k'. k' ≤ℤ k))
  pub greatest_below : (a : A) (n : ℤ) → IfSome (d.greatest_to a n) (λ k. k ≤ℤ n)
  pub greatest_first : (a : A) (n m : ℤ) → Has d a m → m ≤ℤ n
      → IsSomeAnd (d.greatest_to a n) (λ k. m ≤ℤ k)
  pub greatest_mono : (a a' : A) (n n' : ℤ) → Below d a a' → n ≤ℤ n'
      → IfSome (d.greatest_to a n) (λ k. IsSomeAnd (d.greatest_to a' n') (λ k'. k ≤ℤ k'))

-- all of them
pub record DomainLaws {A : Type 0} (d : Domain A) : Type 0 where
  pub order : OrderLaws d
  pub sound : SoundLaws d
  pub mono : MonoLaws d
  pub spans : SpanLaws d
