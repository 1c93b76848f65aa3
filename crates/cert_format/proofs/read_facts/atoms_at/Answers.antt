use Rattle.std.proofs.Common.{◌≡◌, ◌∙◌, arith, ap, nat_le, true, length, List, Some, refl}
use Rattle.std.proofs.lemmas.Bool.{le-leb}
use Rattle.flag_relation.specs.declared.atom.Atom.{Atom}
use Rattle.flag_relation.specs.AtomLists.{list_of}
use Rattle.flag_relation.specs.declared.atoms.TheConstants.{MOST_ATOMS}
use Rattle.cert_format.specs.Fields.{atom_at}
use Rattle.cert_format.specs.evidence.Numbers.{many_length}
use Rattle.cert_format.proofs.read_facts.atoms_at.Goals as goal

few_are_a_list : (atoms : List Atom) → nat_le (length atoms) MOST_ATOMS ≡ true → list_of atoms ≡ Some atoms
few_are_a_list atoms h = rw h refl

pub returns-in_default : goal.returns-in_default
returns-in_default c =
    let items = c.in_ok-found.found.items in
    let len : length items ≡ c.args.count = many_length (atom_at c.args.cells) c.args.count c.args.input.now (items, c.many_atoms.new.input) c.in_ok-found.ensures in
    let few = c.requires in
    let small : nat_le (length items) MOST_ATOMS ≡ true = le-leb (length items) MOST_ATOMS (omega arith) in
    absurd (c.in_default.not-Some items (c.new.ensures.list ∙ ap list_of c.as_slice.ensures.value ∙ few_are_a_list items small))
