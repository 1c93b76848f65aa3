-- What links, a comparison that holds, and a known B leave of a fact.
use Rattle.std.specs.Prelude.{neg_ℤ, Bool, true, false, List, [], ◌∷◌, Option, Some, None}
use Rattle.viper_word.specs.declared.kind.Kind.{Kind}
use Rattle.viper_word.specs.declared.kind.Kind.TheVariants.{Lt, Ge, Eq, Ne, Le, Gt, Ult, Uge}
use Rattle.num_domain.specs.Domain.{Domain}
use Rattle.viper_word.specs.Options.{bind}
use Rattle.viper_word.specs.declared.reg.Reg.{Reg}
use Rattle.viper_word.specs.declared.reg.Reg.TheVariants.{A, X, Y}
use Rattle.flag_relation.specs.declared.link.Link.{Link}
use Rattle.flag_relation.specs.declared.atom.Atom.{Atom}
use Rattle.flag_relation.specs.declared.atom.Right.{Right}
use Rattle.flag_relation.specs.declared.atom.Right.TheVariants.{Cell, Const}
use Rattle.flag_relation.specs.declared.flag.Flag.{Flag}
use Rattle.flag_relation.specs.declared.flag.Flag.TheVariants.{Any, One, Or}
use Rattle.flag_relation.specs.Values.{Values, Regs, reg, cell, with_reg, with_cell}
use Rattle.flag_relation.specs.Facts.{FactOf, values, with_values, constant_number}
use Rattle.flag_relation.specs.Joins.{or_join}

-- the kind that says the same with both sides exchanged, for the signed ones
abbrev pub mirror : Kind → Option Kind
mirror Lt = Some Gt
mirror Ge = Some Le
mirror Eq = Some Eq
mirror Ne = Some Ne
mirror Le = Some Ge
mirror Gt = Some Lt
mirror Ult = None
mirror Uge = None

-- the kind that says the contrary
abbrev pub negate : Kind → Kind
negate Lt = Ge
negate Ge = Lt
negate Eq = Ne
negate Ne = Eq
negate Le = Gt
negate Gt = Le
negate Ult = Uge
negate Uge = Ult

abbrev pub negate_atom : Atom → Atom
negate_atom a = record { kind = negate a.kind; left = a.left; right = a.right }

-- what the flag is once B is known
abbrev pub flag_of : Bool → Flag
flag_of true = One
flag_of false = Or []

module _ {T : Type 0} (d : Domain T) where
  -- ---- settling

  -- the cell is refined by the register less the offset, then the register by the cell plus it
  unfoldable pub settle_link : Reg → Link → Values T → Option (Values T)
  settle_link r l v =
      bind (d.moved (reg v r) (neg_ℤ l.offset))
      (λ m. bind (d.refine (cell d.top v l.cell) Eq m)
      (λ c. bind (d.moved c l.offset)
      (λ n. bind (d.refine (reg v r) Eq n)
      (λ q. Some (with_reg (with_cell v l.cell c) r q)))))

  abbrev pub settle_at : Reg → Option Link → Values T → Option (Values T)
  settle_at r None v = Some v
  settle_at r (Some l) v = settle_link r l v

  unfoldable pub settle_pass : Regs (Option Link) → Values T → Option (Values T)
  settle_pass links v =
      bind (settle_at A links.a v)
      (λ u. bind (settle_at X links.x u)
      (λ w. settle_at Y links.y w))

  -- the pass is made twice
  unfoldable pub settle : Regs (Option Link) → Values T → Option (Values T)
  settle links v = bind (settle_pass links v) (λ u. settle_pass links u)

  -- ---- one atom

  abbrev pub right_value : Values T → Right → T
  right_value v (Cell i) = cell d.top v i
  right_value v (Const w) = d.constant (constant_number w)

  -- the right side, where it is a cell, refined by the mirrored kind and the register
  abbrev pub mirrored_by : Option Kind → Right → T → Values T → Option (Values T)
  mirrored_by None w q v = Some v
  mirrored_by (Some k) (Const w) q v = Some v
  mirrored_by (Some k) (Cell i) q v =
      bind (d.refine (cell d.top v i) k q) (λ c. Some (with_cell v i c))

  -- the values at which the comparison may hold
  unfoldable pub refined : Regs (Option Link) → Atom → Values T → Option (Values T)
  refined links a v =
      bind (d.refine (reg v a.left) a.kind (right_value v a.right))
      (λ q. bind (mirrored_by (mirror a.kind) a.right (reg v a.left) v)
      (λ w. settle links (with_reg w a.left q)))

  -- ---- the flag

  -- refined by each atom by itself, those without a state left out, the rest joined in order
  unfoldable pub refined_by_some : Regs (Option Link) → List Atom → Option (Values T)
      → Values T → Option (Values T)
  refined_by_some links [] acc v = acc
  refined_by_some links (a ∷ atoms) acc v =
      refined_by_some links atoms (or_join d acc (refined links a v)) v

  -- refined in order by each negated atom
  unfoldable pub refined_by_none : Regs (Option Link) → List Atom → Values T → Option (Values T)
  refined_by_none links [] v = Some v
  refined_by_none links (a ∷ atoms) v =
      bind (refined links (negate_atom a) v) (λ w. refined_by_none links atoms w)

  unfoldable pub assumed : Regs (Option Link) → Flag → Bool → Values T → Option (Values T)
  assumed links Any b v = Some v
  assumed links One true v = Some v
  assumed links One false v = None
  assumed links (Or atoms) true v = refined_by_some links atoms None v
  assumed links (Or atoms) false v = refined_by_none links atoms v

  -- the fact refined by B being b
  unfoldable pub assume : FactOf T → Bool → Option (FactOf T)
  assume f b =
      bind (assumed f.links f.flag b (values f))
      (λ v. Some (record (with_values f v) { flag = flag_of b }))
