-- What is printed.
use Rattle.std.specs.Prelude.{ℕ, List, ◌++◌, codes, decimal}
use Rattle.std.specs.List.{flat_map}
use Rattle.viper_word.specs.Digits.{address_digits}
use Rattle.abs_step.specs.declared.outcome.Cond.{Cond}
use Rattle.abs_step.specs.declared.outcome.Cond.TheVariants.{H1, H2, C1, C2, C3, C4, C5, C6, C7, C8, C9, C10, C11}
use Rattle.cert_checker.specs.declared.verdict.Place.{Place}
use Rattle.cert_checker.specs.declared.verdict.Place.TheVariants as place
use Rattle.cert_checker.specs.declared.verdict.Bound.{Bound}
use Rattle.cert_checker.specs.declared.verdict.Bound.TheVariants.{Within, Unreached}
use Rattle.cert_checker.specs.declared.verdict.Refusal.{Refusal}

-- the bound of a marker's line, and the line's end
abbrev pub bound_text : Bound → List ℕ
bound_text (Within n) = codes " within " ++ decimal n ++ codes "\n"
bound_text Unreached = codes " unreached\n"

-- the line of a marker
unfoldable pub marker_line : ℕ × Bound → List ℕ
marker_line e = codes "marker " ++ address_digits e.0 ++ bound_text e.1

-- a yes, and a line for each marker
unfoldable pub yes_text : List (ℕ × Bound) → List ℕ
yes_text bounds = codes "yes\n" ++ flat_map marker_line bounds

-- the name of a condition
abbrev pub cond_text : Cond → List ℕ
cond_text H1 = codes "H1"
cond_text H2 = codes "H2"
cond_text C1 = codes "C1"
cond_text C2 = codes "C2"
cond_text C3 = codes "C3"
cond_text C4 = codes "C4"
cond_text C5 = codes "C5"
cond_text C6 = codes "C6"
cond_text C7 = codes "C7"
cond_text C8 = codes "C8"
cond_text C9 = codes "C9"
cond_text C10 = codes "C10"
cond_text C11 = codes "C11"

abbrev pub place_text : Place → List ℕ
place_text (place.Cell i) = codes "cell " ++ decimal i
place_text (place.Start i) = codes "start " ++ decimal i
place_text (place.Node i) = codes "node " ++ decimal i

-- a no: the first condition that fails, its place and the address there
unfoldable pub no_text : Refusal → List ℕ
no_text r = codes "no " ++ place_text r.place ++ codes " address " ++ address_digits r.addr ++ codes " condition " ++ cond_text r.cond ++ codes "\n"
