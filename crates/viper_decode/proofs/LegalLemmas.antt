-- The functions of legal words.
use Rattle.std.proofs.Common.{◌≡◌, true, false, ◌<◌, ◌==◌, arith}
use Rattle.std.proofs.lemmas.Bool.Decides.{nat_tests}
use Rattle.viper_word.specs.Fields.{Fields, is_illegal, is_function}

-- the function of a legal word is one of the thirteen
pub legal_function : (i : Fields) → is_illegal i ≡ false → is_function i ≡ true → i.f < 13
unfolding is_illegal
legal_function i legal function = grind (arith, nat_tests)

-- what is no comparison, no output and no store is a function
pub else_function : (i : Fields) → i.d < 8 → i.c ≡ false → (i.d == 6) ≡ false → (i.d == 7) ≡ false → is_function i ≡ true
else_function i small plain output store = grind (arith, nat_tests)
