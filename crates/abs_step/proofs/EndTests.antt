-- Tests of both ends, as code makes them.
use Rattle.std.specs.Prelude.{◌≡◌, ℕ, ◌<◌, ◌≤◌, nat_le, ℤ, ◌+ℤ◌, int_le, Bool, true, false, ◌&&◌, Option, Some, None}
use Rattle.std.proofs.Common.{refl, arith, sym, ◌∙◌, ap}
use Rattle.std.proofs.Math.Path.{ap₂}
use Rattle.std.proofs.lemmas.Bool.Decides.{nat_tests}
use Rattle.viper_word.specs.Words.{least_signed, greatest_signed}
use Rattle.num_domain.specs.Ends.{Ends}
use Rattle.num_domain.specs.Domain.{Domain}
use Rattle.viper_word.specs.declared.profile.Profile.{Profile}
use Rattle.viper_word.specs.declared.profile.Profile.TheVariants as profile
use Rattle.viper_decode.specs.declared.instructions.Function.{Function}
use Rattle.viper_decode.specs.declared.instructions.Function.TheVariants.{Neg, Call, Inp, Read, Addb, Adds, Subb, Subs, Xor, And, Nor, Andn}
use Rattle.abs_step.specs.Conditions.{less_within, function_exact}
use Rattle.abs_step.specs.Walks.{both}
use Rattle.abs_step.proofs.PointLaws.{low_of, high_of}

pub few_true : (m n : ℕ) → m ≤ n → true ≡ nat_le m n
few_true m n h = grind (arith, nat_tests)

pub many_false : (m n : ℕ) → n < m → false ≡ nat_le m n
many_false m n h = grind (arith, nat_tests)

pub less_from : (o q : Option Ends) (l h l' h' : ℤ) → Some (l, h) ≡ both o → Some (l', h') ≡ both q → int_le (least_signed +ℤ h') l ≡ true → int_le h (greatest_signed +ℤ l') ≡ less_within o q
less_from None q l h l' h' e f t = absurd (cc)
less_from (Some r) None l h l' h' e f t = absurd (cc)
less_from (Some r) (Some s) l h l' h' e f t = by_ends r.lo r.hi s.lo s.hi (ap low_of e) (ap high_of e) (ap low_of f) (ap high_of f) t
  where
    by_ends : (a b a' b' : ℤ) → l ≡ a → h ≡ b → l' ≡ a' → h' ≡ b' → int_le (least_signed +ℤ h') l ≡ true → int_le h (greatest_signed +ℤ l') ≡ (int_le (least_signed +ℤ b') a && int_le b (greatest_signed +ℤ a'))
    by_ends a b a' b' e f g k t =
        ap₂ (λ (x y : ℤ). int_le x (greatest_signed +ℤ y)) f g
        ∙ ap (λ (c : Bool). c && int_le b (greatest_signed +ℤ a')) (sym (sym (ap₂ (λ (x y : ℤ). int_le (least_signed +ℤ x) y) k e) ∙ t))

-- without an operand nothing is asked
pub exact_none : {T : Type 0} (d : Domain T) (pr : Profile) (f : Function) (r : Option Ends) → function_exact d pr f r None ≡ true
unfolding function_exact
exact_none d profile.One Neg r = refl
exact_none d profile.Two Neg r = refl
exact_none d pr Adds None = refl
exact_none d pr Adds (Some e) = refl
exact_none d pr Subs None = refl
exact_none d pr Subs (Some e) = refl
exact_none d pr Call r = refl
exact_none d pr Inp r = refl
exact_none d pr Read r = refl
exact_none d pr Addb r = refl
exact_none d pr Subb r = refl
exact_none d pr Xor r = refl
exact_none d pr And r = refl
exact_none d pr Nor r = refl
exact_none d pr Andn r = refl
