-- Facts of options that are made one from another, or by a test.
use Rattle.std.specs.Prelude.{◌≡◌, Bool, true, false, cond, Option, Some, None, IsSomeAnd, IfSome}
use Rattle.std.proofs.Common.{refl}
use Rattle.std.proofs.lemmas.Bool.{false≢true}
use Rattle.viper_word.specs.Options.{bind}
use Rattle.std.specs.Prelude.{unwrap_or}
use Rattle.std.proofs.lemmas.Option.{none-some}

pub some_bind : {A B : Type 0} (P : A → Type 0) (Q : B → Type 0) (o : Option A) (f : A → Option B) → IsSomeAnd o P → ((x : A) → P x → IsSomeAnd (f x) Q) → IsSomeAnd (bind o f) Q
some_bind P Q None f h k = absurd h
some_bind P Q (Some x) f h k = k x h

-- the same, where it matters which option it was
pub some_bind_is : {A B : Type 0} (P : A → Type 0) (Q : B → Type 0) (o : Option A) (f : A → Option B) → IsSomeAnd o P → ((x : A) → o ≡ Some x → P x → IsSomeAnd (f x) Q) → IsSomeAnd (bind o f) Q
some_bind_is P Q None f h k = absurd h
some_bind_is P Q (Some x) f h k = k x refl h

pub all_bind : {A B : Type 0} (P : A → Type 0) (Q : B → Type 0) (o : Option A) (f : A → Option B) → IfSome o P → ((x : A) → P x → IfSome (f x) Q) → IfSome (bind o f) Q
all_bind P Q None f h k = tt
all_bind P Q (Some x) f h k = k x h

-- where the values are related, so are the results
pub bind_mono : {A A' B B' : Type 0} (R : A → A' → Type 0) (S : B → B' → Type 0) (o : Option A) (o' : Option A') (f : A → Option B) (f' : A' → Option B') → IfSome o (λ a. IsSomeAnd o' (λ a'. R a a')) → ((a : A) (a' : A') → R a a' → IfSome (f a) (λ b. IsSomeAnd (f' a') (λ b'. S b b'))) → IfSome (bind o f) (λ b. IsSomeAnd (bind o' f') (λ b'. S b b'))
bind_mono R S None o' f f' h k = tt
bind_mono R S (Some a) None f f' h k = absurd h
bind_mono R S (Some a) (Some a') f f' h k = k a a' h

pub all_unit : {A : Type 0} (o : Option A) → IfSome o (λ _. Unit {0})
all_unit None = tt
all_unit (Some x) = tt

pub all_some : {A : Type 0} (P Q : A → Type 0) (o : Option A) → IfSome o P → ((x : A) → P x → Q x) → IfSome o Q
all_some P Q None h k = tt
all_some P Q (Some x) h k = k x h

pub some_some : {A : Type 0} (P Q : A → Type 0) (o : Option A) → IsSomeAnd o P → ((x : A) → P x → Q x) → IsSomeAnd o Q
some_some P Q None h k = absurd h
some_some P Q (Some x) h k = k x h

-- an option that a test may empty
pub some_when : {X : Type 0} (b : Bool) (o : Option X) (P : X → Type 0) → b ≡ true → IsSomeAnd o P → IsSomeAnd (cond b o None) P
some_when true o P e h = h
some_when false o P e h = absurd (false≢true e)

pub all_when : {X : Type 0} (b : Bool) (o : Option X) (P : X → Type 0) → (b ≡ true → IfSome o P) → IfSome (cond b o None) P
all_when true o P h = h refl
all_when false o P h = tt

-- where both hold, so does what they give together
pub both_all : {A : Type 0} (P Q R : A → Type 0) (o : Option A) → IfSome o P → IsSomeAnd o Q → ((x : A) → P x → Q x → R x) → IfSome o R
both_all P Q R None h k f = absurd k
both_all P Q R (Some x) h k f = f x h k

pub some_and : {A : Type 0} (P Q : A → Type 0) (o : Option A) → IfSome o P → IsSomeAnd o Q → IsSomeAnd o (λ x. P x × Q x)
some_and P Q None h k = absurd k
some_and P Q (Some x) h k = (h, k)

pub some_or_else : {A : Type 0} (P : A → Type 0) (o : Option A) (b : A) → IsSomeAnd o P → P (unwrap_or o b)
some_or_else P None b h = absurd h
some_or_else P (Some a) b h = h

-- what was bound gave y: the value that was there gives it
pub record WasBound {A B : Type 0} (o : Option A) (f : A → Option B) (y : B) : Type 0 where
  pub first : A
  pub is : o ≡ Some first
  pub gives : f first ≡ Some y

pub bind_was : {A B : Type 0} (o : Option A) (f : A → Option B) (y : B) → bind o f ≡ Some y → WasBound o f y
bind_was None f y h = absurd (none-some y h)
bind_was (Some x) f y h = record { first = x; is = refl; gives = h }
