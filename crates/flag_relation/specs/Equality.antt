-- Equality of links and of atoms, as tests.
use Rattle.std.specs.Prelude.{ℕ, Bool, true, false, ◌&&◌, nat_eq, List, [], ◌∷◌}
use Rattle.std.specs.Ordering.{int_eq}
use Rattle.viper_word.specs.declared.kind.Kind.{Kind}
use Rattle.viper_word.specs.declared.kind.Kind.TheVariants.{Lt, Ge, Eq, Ne, Le, Gt, Ult, Uge}
use Rattle.viper_word.specs.declared.reg.Reg.{Reg}
use Rattle.viper_word.specs.declared.reg.Reg.TheVariants.{A, X, Y}
use Rattle.flag_relation.specs.declared.link.Link.{Link}
use Rattle.flag_relation.specs.declared.atom.Atom.{Atom}
use Rattle.flag_relation.specs.declared.atom.Right.{Right}
use Rattle.flag_relation.specs.declared.atom.Right.TheVariants.{Cell, Const}

abbrev pub kind_number : Kind → ℕ
kind_number Lt = 0
kind_number Ge = 1
kind_number Eq = 2
kind_number Ne = 3
kind_number Le = 4
kind_number Gt = 5
kind_number Ult = 6
kind_number Uge = 7

abbrev pub reg_number : Reg → ℕ
reg_number A = 0
reg_number X = 1
reg_number Y = 2

abbrev pub right_eq : Right → Right → Bool
right_eq (Cell i) (Cell j) = nat_eq i j
right_eq (Cell i) (Const w) = false
right_eq (Const w) (Cell j) = false
right_eq (Const w) (Const v) = nat_eq w.0 v.0

abbrev pub atom_eq : Atom → Atom → Bool
atom_eq a b = nat_eq (kind_number a.kind) (kind_number b.kind)
    && nat_eq (reg_number a.left) (reg_number b.left) && right_eq a.right b.right

unfoldable pub atoms_eq : List Atom → List Atom → Bool
atoms_eq [] [] = true
atoms_eq [] (b ∷ bs) = false
atoms_eq (a ∷ as_) [] = false
atoms_eq (a ∷ as_) (b ∷ bs) = atom_eq a b && atoms_eq as_ bs

abbrev pub link_eq : Link → Link → Bool
link_eq l m = nat_eq l.cell m.cell && int_eq l.offset m.offset
