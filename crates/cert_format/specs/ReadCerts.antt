-- Reading a certificate whole: its value, or the first rule that is broken with its place.
use Rattle.std.specs.Prelude.{◌≡◌, ℕ, suc, ◌-◌, List, ◌++◌, length, map, Option, Some, None, Result, Ok, Err, ◌==◌, if◌then◌else◌}
use Rattle.std.proofs.Common.{get_or}
use Rattle.std.specs.Int.{w8, w32}
use Rattle.val_dom.specs.declared.val.Val.{Val}
use Rattle.flag_relation.specs.declared.fact.TheConstants.{MOST_CELLS}
use Rattle.cert_format.specs.declared.fault.Fault.{Fault}
use Rattle.cert_format.specs.declared.fault.ReadError.{ReadError}
use Rattle.cert_format.specs.declared.reading.ReadHeading.{ReadHeading}
use Rattle.cert_format.specs.declared.fault.CertFault.{CertFault}
use Rattle.cert_format.specs.declared.fault.CertFault.TheVariants as faults
use Rattle.cert_format.specs.declared.fault.CertRule.TheVariants as rules
use Rattle.cert_format.specs.declared.version.Version.{Version}
use Rattle.cert_format.specs.declared.version.Version.TheVariants.{One, Two}
use Rattle.cert_format.specs.declared.limits.TheConstants.{MAGIC, MOST_NODES, MOST_STARTS}
use Rattle.cert_format.specs.Certificates.{NodeOf, CertificateOf}
use Rattle.cert_format.specs.Bare.{first_bare}
use Rattle.cert_format.specs.Reading.{Fails, fault, ◌>>=◌, number_at, many_at}
use Rattle.cert_format.specs.Fields.{below_at, numbers_at, cells_at, count_at}
use Rattle.cert_format.specs.ReadNodes.{Placed, placed_at}

-- the letters VSBC
unfoldable pub magic_at : List ℕ → Result (List ℕ) Fault
magic_at bytes = do
  n ← number_at w32 bytes
  if n.0 == MAGIC then Ok n.1 else fault bytes rules.Magic

unfoldable pub version_at : List ℕ → Result (Version × List ℕ) Fault
version_at bytes = do
  n ← number_at w8 bytes
  if n.0 == 1 then Ok (One, n.1) else if n.0 == 2 then Ok (Two, n.1)
      else fault bytes rules.Version

-- the addresses of the cells, as many as the byte before them says
unfoldable pub tracked_at : List ℕ → Result (List ℕ × List ℕ) Fault
tracked_at bytes = do
  n ← count_at MOST_CELLS bytes
  cells_at 0 n.0 n.1

-- what stands before the nodes
pub record Heading : Type 0 where
  pub version : Version
  pub cells : List ℕ
  pub count : ℕ
  pub starts : List ℕ

unfoldable pub heading_at : List ℕ → Result (Heading × List ℕ) Fault
heading_at bytes = do
  rest ← magic_at bytes
  version ← version_at rest
  cells ← tracked_at version.1
  count ← below_at (suc MOST_NODES) cells.1
  starts ← numbers_at MOST_STARTS count.0 count.1
  Ok (record { version = version.0; cells = cells.0; count = count.0; starts = starts.0 }, starts.1)

abbrev pub nodes_of : List Placed → List (NodeOf Val)
nodes_of placed = map (λ p. p.node) placed

abbrev pub lefts_of : List Placed → List ℕ
lefts_of placed = map (λ p. p.left) placed

-- a certificate with the nodes that are read, and the places of their tags
abbrev pub gathered : CertificateOf Val → List ℕ → Result (List Placed × List ℕ) Fault
    → Result ((CertificateOf Val × List ℕ) × List ℕ) Fault
gathered c lefts read = read >>= λ r.
    Ok ((record c { nodes = c.nodes ++ nodes_of r.0 }, lefts ++ lefts_of r.0), r.1)

abbrev pub certificate_of : Heading → List Placed → CertificateOf Val
certificate_of h placed = record { cells = h.cells; starts = h.starts; nodes = nodes_of placed }

-- the rule Bare at the tag of the node, if there is one
abbrev pub unless_bare : Option ℕ → List ℕ → CertificateOf Val → Result (CertificateOf Val) Fault
unless_bare None lefts c = Ok c
unless_bare (Some i) lefts c = Err (record { left = get_or lefts i 0; rule = rules.Bare })

-- the nodes end the bytes, and the rule Bare is kept; so many bytes were left at each node's tag
unfoldable pub ended : CertificateOf Val → List ℕ → List ℕ → Result (CertificateOf Val) Fault
ended c lefts rest = (
    if length rest == 0 then unless_bare (first_bare c) lefts c else fault rest rules.Trailing)

unfoldable pub cert_of : List ℕ → Result (CertificateOf Val) Fault
cert_of bytes = do
  heading ← heading_at bytes
  nodes ← many_at (placed_at heading.0.version (length heading.0.cells) heading.0.count)
      heading.0.count heading.1
  ended (certificate_of heading.0 nodes.0) (lefts_of nodes.0) nodes.1

-- a fault stands at a byte, counted from 0
abbrev pub at_offset : List ℕ → Fault → CertFault
at_offset bytes e = faults.At (length bytes - e.left) e.rule

abbrev pub fault_of : List ℕ → Result (CertificateOf Val) Fault → Option CertFault
fault_of bytes (Ok c) = None
fault_of bytes (Err e) = Some (at_offset bytes e)

-- the first rule that the bytes break, and where
unfoldable pub first_fault : List ℕ → Option CertFault
first_fault bytes = fault_of bytes (cert_of bytes)

-- as the code holds it
abbrev pub heading : ReadHeading → Heading
heading h = record {
  version = h.version;
  cells = h.cells.items;
  count = h.count;
  starts = h.starts.items;
}

-- what a function left unread is what reading leaves, unless memory ran out
abbrev pub MovesOn : Result (Unit {0}) ReadError → List ℕ → Result (List ℕ) Fault → Type 0
MovesOn (Ok x) rest read = read ≡ Ok rest
MovesOn (Err e) rest read = Fails e read

-- a certificate that a function returned is the one that is read, unless memory ran out
abbrev pub Gives : Result (CertificateOf Val) ReadError → Result (CertificateOf Val) Fault → Type 0
Gives (Ok c) read = read ≡ Ok c
Gives (Err e) read = Fails e read

-- a fault of the bytes is the first one
abbrev pub IsFirstFault : List ℕ → CertFault → Type 0
IsFirstFault bytes faults.Memory = Unit {0}
IsFirstFault bytes (faults.At offset rule) = first_fault bytes ≡ Some (faults.At offset rule)

-- the answer is the certificate, unless memory ran out
abbrev pub IsOrMemory : CertificateOf Val → Result (CertificateOf Val) CertFault → Type 0
IsOrMemory c (Ok d) = d ≡ c
IsOrMemory c (Err e) = e ≡ faults.Memory
