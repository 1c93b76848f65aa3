-- The spelling of a certificate in each version. Numbers are big-endian.
use Rattle.std.specs.Prelude.{◌≡◌, ℕ, ℤ, List, [], ◌∷◌, ◌++◌, length, take, Option, Some, None, IsSome}
use Rattle.std.specs.List.{flat_map, AllByRecursion}
use Rattle.val_dom.specs.declared.val.Val.{Val}
use Rattle.flag_relation.specs.declared.atom.Atom.{Atom}
use Rattle.flag_relation.specs.declared.atom.Right.{Right}
use Rattle.flag_relation.specs.declared.atom.Right.TheVariants.{Cell, Const}
use Rattle.flag_relation.specs.declared.flag.Flag.{Flag}
use Rattle.flag_relation.specs.declared.flag.Flag.TheVariants.{Any, One, Or}
use Rattle.flag_relation.specs.declared.link.Link.{Link}
use Rattle.flag_relation.specs.declared.var.Var.{Var}
use Rattle.flag_relation.specs.Equality.{kind_number, reg_number}
use Rattle.flag_relation.specs.Facts.{FactOf}
use Rattle.flag_relation.specs.Forms.{FormOf, var_number}
use Rattle.flag_relation.specs.Values.{Regs}
use Rattle.cert_format.specs.declared.version.Version.{Version}
use Rattle.cert_format.specs.declared.version.Version.TheVariants as version
use Rattle.cert_format.specs.declared.limits.TheConstants.{NO_LINK, A_WORD, FULL, BARE, ONE, ANY, MAGIC}
use Rattle.cert_format.specs.Values.{word_bytes, signed_long_bytes, value_bytes}
use Rattle.cert_format.specs.Certificates.{NodeOf, CertificateOf}
use Rattle.cert_format.specs.Limits.{IsWithinLimits}
use Rattle.cert_format.specs.Bare.{AreRightlyBare}

-- how many there are, in one byte, and each
unfoldable pub counted_bytes : {X : Type 0} → (X → List ℕ) → List X → List ℕ
counted_bytes bytes xs = length xs ∷ flat_map bytes xs

-- the first bytes of a value's
abbrev pub front : {T : Type 0} → ℕ → (T → List ℕ) → T → List ℕ
front size bytes v = take size (bytes v)

-- ---- facts

-- FF for none, or the cell and the offset
unfoldable pub link_bytes : Option Link → List ℕ
link_bytes None = NO_LINK ∷ []
link_bytes (Some l) = l.cell ∷ signed_long_bytes l.offset

abbrev pub links_bytes : Regs (Option Link) → List ℕ
links_bytes l = link_bytes l.a ++ (link_bytes l.x ++ link_bytes l.y)

-- a cell, or FF and the word
abbrev pub right_bytes : Right → List ℕ
right_bytes (Cell i) = i ∷ []
right_bytes (Const w) = A_WORD ∷ word_bytes w.0

-- the kind, the register and the right side
unfoldable pub atom_bytes : Atom → List ℕ
atom_bytes a = kind_number a.kind ∷ reg_number a.left ∷ right_bytes a.right

-- the number of comparisons and each, or 5 or 6
unfoldable pub flag_bytes : Flag → List ℕ
flag_bytes Any = ANY ∷ []
flag_bytes One = ONE ∷ []
flag_bytes (Or atoms) = length atoms ∷ flat_map atom_bytes atoms

-- the values of A, X, Y and the cells, the links, and what B says
unfoldable pub fact_bytes : {T : Type 0} → (T → List ℕ) → FactOf T → List ℕ
fact_bytes bytes f = bytes f.a ++ (bytes f.x ++ (bytes f.y
    ++ (flat_map bytes f.cells ++ (links_bytes f.links ++ flag_bytes f.flag))))

-- ---- ranks

unfoldable pub term_bytes : Var × ℤ → List ℕ
term_bytes t = var_number t.0 ∷ signed_long_bytes t.1

-- the constant and the terms
unfoldable pub rank_bytes : FormOf → List ℕ
rank_bytes f = signed_long_bytes f.constant ++ counted_bytes term_bytes f.terms

-- ---- certificates

abbrev pub version_number : Version → ℕ
version_number version.One = 1
version_number version.Two = 2

-- the fact; in version 2 after the tag of a full node, and the other tag for a bare one
unfoldable pub known_bytes : Version → Option (FactOf Val) → List ℕ
known_bytes version.One None = []
known_bytes version.One (Some f) = fact_bytes value_bytes f
known_bytes version.Two None = BARE ∷ []
known_bytes version.Two (Some f) = FULL ∷ fact_bytes value_bytes f

unfoldable pub node_bytes : Version → NodeOf Val → List ℕ
node_bytes v n = word_bytes n.addr
    ++ (known_bytes v n.fact ++ (counted_bytes word_bytes n.succ ++ rank_bytes n.rank))

-- VSBC, the version, the cells, the number of nodes, the start nodes, and the nodes
unfoldable pub cert_bytes : Version → CertificateOf Val → List ℕ
cert_bytes v c = word_bytes MAGIC ++ (version_number v ∷ [] ++ (counted_bytes word_bytes c.cells
    ++ (word_bytes (length c.nodes) ++ (counted_bytes word_bytes c.starts
    ++ flat_map (node_bytes v) c.nodes))))

abbrev pub IsFull : NodeOf Val → Type 0
IsFull n = IsSome n.fact

-- version 1 has no bare nodes
abbrev pub HasSpelling : Version → CertificateOf Val → Type 0
HasSpelling version.One c = AllByRecursion IsFull c.nodes
HasSpelling version.Two c = Unit {0}

-- the bytes are those of the certificate in that version
pub record IsCert (v : Version) (bytes : List ℕ) (c : CertificateOf Val) : Type 0 where
  pub limits : IsWithinLimits c
  pub bare : AreRightlyBare c
  pub version : HasSpelling v c
  pub is : bytes ≡ cert_bytes v c
