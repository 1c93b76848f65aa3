-- The fields of a certificate, each with its rules in their order.
use Rattle.std.specs.Prelude.{ℕ, zero, suc, ◌+◌, ◌-◌, ◌^◌, ℤ, pos, List, [], ◌∷◌, length, Option, Some, None, Result, Ok, Bool, false, not, nat_lt, nat_le, ◌==◌, ◌&&◌, ◌||◌, if◌then◌else◌}
use Rattle.std.specs.Ordering.{int_eq}
use Rattle.std.specs.Int.{w8, w32, w64, cast_signed}
use Rattle.viper_word.specs.declared.kind.Kind.{Kind}
use Rattle.viper_word.specs.declared.kind.Kind.TheVariants.{Lt, Ge, Eq, Ne, Le, Gt, Ult, Uge}
use Rattle.viper_word.specs.declared.reg.Reg.{Reg}
use Rattle.viper_word.specs.declared.reg.Reg.TheVariants.{A, X, Y}
use Rattle.flag_relation.specs.declared.atom.Atom.{Atom}
use Rattle.flag_relation.specs.declared.atom.Right.{Right}
use Rattle.flag_relation.specs.declared.atom.Right.TheVariants.{Cell, Const}
use Rattle.flag_relation.specs.declared.atoms.TheConstants.{MOST_ATOMS}
use Rattle.flag_relation.specs.declared.flag.Flag.{Flag}
use Rattle.flag_relation.specs.declared.flag.Flag.TheVariants.{Any, One, Or}
use Rattle.flag_relation.specs.declared.form.TheConstants.{MOST_TERMS}
use Rattle.flag_relation.specs.declared.link.Link.{Link}
use Rattle.flag_relation.specs.declared.link.TheConstants.{MOST_OFFSET}
use Rattle.flag_relation.specs.declared.var.Var.{Var}
use Rattle.flag_relation.specs.declared.var.Var.TheVariants as var
use Rattle.flag_relation.specs.Forms.{FormOf, is_within, var_number}
use Rattle.cert_format.specs.declared.fault.Fault.{Fault}
use Rattle.cert_format.specs.declared.fault.CertRule.TheVariants.{Length, Range, Order}
use Rattle.cert_format.specs.declared.limits.TheConstants.{NO_LINK, A_WORD, ONE, ANY, MOST_RANK, MOST_FACTOR, TERM}
use Rattle.cert_format.specs.Reading.{fault, ◌>>=◌, number_at, many_at}

-- ---- numbers

-- a byte that is at most so much
unfoldable pub count_at : ℕ → List ℕ → Result (ℕ × List ℕ) Fault
count_at most bytes = do
  n ← number_at w8 bytes
  if nat_le n.0 most then Ok n else fault bytes Range

-- four bytes whose number is below the limit
unfoldable pub below_at : ℕ → List ℕ → Result (ℕ × List ℕ) Fault
below_at limit bytes = do
  n ← number_at w32 bytes
  if nat_lt n.0 limit then Ok n else fault bytes Range

-- eight bytes whose signed number is at most so great in size
unfoldable pub signed_at : ℤ → List ℕ → Result (ℤ × List ℕ) Fault
signed_at most bytes = do
  n ← number_at w64 bytes
  if is_within most (cast_signed w64 n.0) then Ok (cast_signed w64 n.0, n.1)
      else fault bytes Range

-- numbers below the limit, as many as the byte before them says, which is at most so much
unfoldable pub numbers_at : ℕ → ℕ → List ℕ → Result (List ℕ × List ℕ) Fault
numbers_at most limit bytes = do
  n ← count_at most bytes
  many_at (below_at limit) n.0 n.1

-- an address from that number on
unfoldable pub cell_at : ℕ → List ℕ → Result (ℕ × List ℕ) Fault
cell_at from bytes = do
  n ← below_at (2 ^ 20) bytes
  if nat_le from n.0 then Ok n else fault bytes Order

-- so many addresses that ascend from the number on
unfoldable pub cells_at : ℕ → ℕ → List ℕ → Result (List ℕ × List ℕ) Fault
cells_at from zero bytes = Ok ([], bytes)
cells_at from (suc n) bytes = do
  first ← cell_at from bytes
  others ← cells_at (first.0 + 1) n first.1
  Ok (first.0 ∷ others.0, others.1)

-- ---- links, and what B says

-- the offset after a link's cell
unfoldable pub offset_at : ℕ → List ℕ → Result (Option Link × List ℕ) Fault
offset_at cell bytes = do
  offset ← signed_at MOST_OFFSET bytes
  Ok (Some (record { cell = cell; offset = offset.0 }), offset.1)

unfoldable pub link_at : ℕ → List ℕ → Result (Option Link × List ℕ) Fault
link_at cells bytes = do
  cell ← number_at w8 bytes
  if cell.0 == NO_LINK then Ok (None, cell.1)
      else if nat_lt cell.0 cells then offset_at cell.0 cell.1
      else fault bytes Range

-- the kind of that number
unfoldable pub kind_of : ℕ → Option Kind
kind_of n = (
    if n == 0 then Some Lt else if n == 1 then Some Ge else if n == 2 then Some Eq
    else if n == 3 then Some Ne else if n == 4 then Some Le else if n == 5 then Some Gt
    else if n == 6 then Some Ult else if n == 7 then Some Uge else None)

-- the register of that number
unfoldable pub reg_of : ℕ → Option Reg
reg_of n = (if n == 0 then Some A else if n == 1 then Some X else if n == 2 then Some Y else None)

-- a value and the bytes after it, or the rule Range at the first of the bytes
abbrev pub or_range : {Z : Type 0} → Option Z → List ℕ → List ℕ → Result (Z × List ℕ) Fault
or_range None bytes rest = fault bytes Range
or_range (Some z) bytes rest = Ok (z, rest)

unfoldable pub kind_at : List ℕ → Result (Kind × List ℕ) Fault
kind_at bytes = do
  n ← number_at w8 bytes
  or_range (kind_of n.0) bytes n.1

unfoldable pub reg_at : List ℕ → Result (Reg × List ℕ) Fault
reg_at bytes = do
  n ← number_at w8 bytes
  or_range (reg_of n.0) bytes n.1

-- a word on the right of a comparison
unfoldable pub const_at : List ℕ → Result (Right × List ℕ) Fault
const_at bytes = do
  n ← number_at w32 bytes
  Ok (Const (record { 0 = n.0 }), n.1)

-- a cell, or FF and a word
unfoldable pub right_at : ℕ → List ℕ → Result (Right × List ℕ) Fault
right_at cells bytes = do
  cell ← number_at w8 bytes
  if cell.0 == A_WORD then const_at cell.1
      else if nat_lt cell.0 cells then Ok (Cell cell.0, cell.1)
      else fault bytes Range

-- are three bytes there, and four more where the third is FF?
unfoldable pub has_atom : List ℕ → Bool
has_atom (kind ∷ left ∷ right ∷ rest) = not (right == A_WORD) || nat_le 4 (length rest)
has_atom _ = false

unfoldable pub atom_parts_at : ℕ → List ℕ → Result (Atom × List ℕ) Fault
atom_parts_at cells bytes = do
  kind ← kind_at bytes
  left ← reg_at kind.1
  right ← right_at cells left.1
  Ok (record { kind = kind.0; left = left.0; right = right.0 }, right.1)

-- a comparison: one field, whose rule Range names its first faulty byte
unfoldable pub atom_at : ℕ → List ℕ → Result (Atom × List ℕ) Fault
atom_at cells bytes = (
    if has_atom bytes then atom_parts_at cells bytes else fault bytes Length)

-- so many comparisons
unfoldable pub atoms_at : ℕ → ℕ → List ℕ → Result (Flag × List ℕ) Fault
atoms_at cells n bytes = do
  atoms ← many_at (atom_at cells) n bytes
  Ok (Or atoms.0, atoms.1)

unfoldable pub flag_at : ℕ → List ℕ → Result (Flag × List ℕ) Fault
flag_at cells bytes = do
  n ← number_at w8 bytes
  if n.0 == ANY then Ok (Any, n.1)
      else if n.0 == ONE then Ok (One, n.1)
      else if nat_le n.0 MOST_ATOMS then atoms_at cells n.0 n.1
      else fault bytes Range

-- ---- ranks

-- the variable of that number
unfoldable pub var_of : ℕ → Var
var_of n = (
    if n == 0 then var.Reg A else if n == 1 then var.Reg X else if n == 2 then var.Reg Y
    else var.Cell (n - 3))

-- may the coefficient stand in a rank?
abbrev pub is_factor : ℤ → Bool
is_factor z = not (int_eq z (pos 0)) && is_within MOST_FACTOR z

-- the term of variable and coefficient, or the rule that they break
unfoldable pub term_of : ℕ → ℕ → ℕ → ℤ → List ℕ → List ℕ → Result ((Var × ℤ) × List ℕ) Fault
term_of cells from n z bytes rest = (
    if nat_lt n (3 + cells) then (
    if nat_le from n then (
    if is_factor z then Ok ((var_of n, z), rest) else fault bytes Range)
    else fault bytes Order)
    else fault bytes Range)

unfoldable pub term_parts_at : ℕ → ℕ → List ℕ → Result ((Var × ℤ) × List ℕ) Fault
term_parts_at cells from bytes = do
  n ← number_at w8 bytes
  z ← number_at w64 n.1
  term_of cells from n.0 (cast_signed w64 z.0) bytes z.1

-- a variable from that number on, with its coefficient: one field of nine bytes
unfoldable pub term_at : ℕ → ℕ → List ℕ → Result ((Var × ℤ) × List ℕ) Fault
term_at cells from bytes = (
    if nat_lt (length bytes) TERM then fault bytes Length else term_parts_at cells from bytes)

-- so many terms, whose variables ascend from the number on
unfoldable pub terms_at : ℕ → ℕ → ℕ → List ℕ → Result (List (Var × ℤ) × List ℕ) Fault
terms_at cells from zero bytes = Ok ([], bytes)
terms_at cells from (suc n) bytes = do
  first ← term_at cells from bytes
  others ← terms_at cells (var_number first.0.0 + 1) n first.1
  Ok (first.0 ∷ others.0, others.1)

unfoldable pub rank_at : ℕ → List ℕ → Result (FormOf × List ℕ) Fault
rank_at cells bytes = do
  constant ← signed_at MOST_RANK bytes
  n ← count_at MOST_TERMS constant.1
  terms ← terms_at cells 0 n.0 n.1
  Ok (record { constant = constant.0; terms = terms.0 }, terms.1)
