-- Lists of at most four comparisons.
use Rattle.std.specs.Prelude.{List, length, nat_le, if◌then◌else◌, Option, Some, None}
use Rattle.viper_word.specs.declared.kind.Kind.TheVariants.{Lt}
use Rattle.viper_word.specs.declared.reg.Reg.TheVariants.{A}
use Rattle.flag_relation.specs.declared.atom.Atom.{Atom}
use Rattle.flag_relation.specs.declared.atom.Right.TheVariants.{Const}
use Rattle.flag_relation.specs.declared.atoms.TheConstants.{MOST_ATOMS}

-- the list, where there are no more than a list may have
abbrev pub list_of : List Atom → Option (List Atom)
list_of atoms = (if nat_le (length atoms) MOST_ATOMS then Some atoms else None)

-- what stands in an unused place
abbrev pub unused_atom : Atom
unused_atom = record { kind = Lt; left = A; right = Const (record { 0 = 0 }) }
