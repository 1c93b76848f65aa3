use Rattle.std.proofs.Common.{◌≡◌, ◌++◌, drop}
use Rattle.std.specs.List.{flat_map}
use Rattle.std.specs.Prelude.{codes}
use Rattle.viper_word.specs.Digits.{address_digits}
use Rattle.viper_top.proofs.certify.push_more.Given as goal

abbrev pub invariant-loop-at : goal.invariant-loop-at
invariant-loop-at l = l.text ++ flat_map (λ a. codes "," ++ address_digits a) (drop l.at-index l.addrs) ≡ l.fn.text ++ flat_map (λ a. codes "," ++ address_digits a) l.addrs
