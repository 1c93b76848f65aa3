use Rattle.std.proofs.Common.{◌≡◌, length, take}
use Rattle.strong_components.specs.Search.{mark_of}
use Rattle.strong_components.specs.Numbers.{number_of}
use Rattle.strong_components.specs.Groups.{lists_of, Grouped}
use Rattle.strong_components.proofs.components.group.Given as goal

abbrev pub invariant-loop-key : goal.invariant-loop-key
invariant-loop-key l = record {
  grouped : Grouped (λ v. number_of (mark_of l.marks v)) (take l.key-index l.keys) l.groups.places.items (lists_of l.groups.parts.items);
  len : length l.groups.places.items ≡ l.count;
}
