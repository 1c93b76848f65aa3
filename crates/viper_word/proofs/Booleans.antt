-- What a test that came out true or false says.
use Rattle.std.specs.Prelude.{◌||◌}
use Rattle.std.proofs.Common.{◌≡◌, Bool, true, false, not, cond, Option, Some, None, refl, ◌⊎◌, inl, inr}
use Rattle.std.proofs.lemmas.Bool.{or_left, or_right}
use Rattle.std.proofs.lemmas.Option.{none-some}

-- a choice that gave z
pub chosen : {A : Type 0} (b : Bool) (x y z : A) → cond b x y ≡ z → ((b ≡ true) × (x ≡ z)) ⊎ ((b ≡ false) × (y ≡ z))
chosen true x y z h = inl (refl, h)
chosen false x y z h = inr (refl, h)

pub test_false : (b : Bool) → not b ≡ true → b ≡ false
test_false true h = absurd (cc)
test_false false h = refl

-- an option behind a test
pub guard_some : {A : Type 0} (b : Bool) (o : Option A) (x : A) → cond b o None ≡ Some x → (b ≡ true) × (o ≡ Some x)
guard_some true o x h = (refl, h)
guard_some false o x h = absurd (none-some x h)

-- either of two that each lead on
pub or_mono : (x y x' y' : Bool) → (x ≡ true → x' ≡ true) → (y ≡ true → y' ≡ true) → (x || y) ≡ true → (x' || y') ≡ true
or_mono true y x' y' f g h = or_left x' y' (f refl)
or_mono false y x' y' f g h = or_right x' y' (g h)

pub or_swap : (a b c : Bool) → (a || (b || c)) ≡ (b || (a || c))
or_swap true true c = refl
or_swap true false c = refl
or_swap false b c = refl
