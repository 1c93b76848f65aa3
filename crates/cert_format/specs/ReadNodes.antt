-- The facts and the nodes of a certificate.
use Rattle.std.specs.Prelude.{◌≡◌, ℕ, ◌^◌, List, length, Option, Some, None, IfSome, Result, Ok, ◌==◌, if◌then◌else◌}
use Rattle.std.specs.Int.{w8}
use Rattle.val_dom.specs.declared.val.Val.{Val}
use Rattle.flag_relation.specs.declared.link.Link.{Link}
use Rattle.flag_relation.specs.Facts.{FactOf}
use Rattle.flag_relation.specs.Values.{Regs}
use Rattle.cert_format.specs.declared.fault.Fault.{Fault}
use Rattle.cert_format.specs.declared.fault.CertRule.TheVariants.{Range}
use Rattle.cert_format.specs.declared.read_nodes.ReadNode.{ReadNode}
use Rattle.cert_format.specs.declared.version.Version.{Version}
use Rattle.cert_format.specs.declared.version.Version.TheVariants.{One, Two}
use Rattle.cert_format.specs.declared.limits.TheConstants.{FULL, BARE, MOST_SUCCESSORS}
use Rattle.cert_format.specs.Certificates.{NodeOf}
use Rattle.cert_format.specs.Reading.{fault, ◌>>=◌, number_at, many_at}
use Rattle.cert_format.specs.ReadValues.{value_at}
use Rattle.cert_format.specs.Fields.{below_at, numbers_at, link_at, flag_at, rank_at}

unfoldable pub links_at : ℕ → List ℕ → Result (Regs (Option Link) × List ℕ) Fault
links_at cells bytes = do
  a ← link_at cells bytes
  x ← link_at cells a.1
  y ← link_at cells x.1
  Ok (record { a = a.0; x = x.0; y = y.0 }, y.1)

-- a fact over so many cells
unfoldable pub fact_at : ℕ → List ℕ → Result (FactOf Val × List ℕ) Fault
fact_at cells bytes = do
  a ← value_at bytes
  x ← value_at a.1
  y ← value_at x.1
  values ← many_at value_at cells y.1
  links ← links_at cells values.1
  flag ← flag_at cells links.1
  Ok (
    record {
      a = a.0;
      x = x.0;
      y = y.0;
      cells = values.0;
      links = links.0;
      flag = flag.0;
    },
    flag.1,
  )

-- the fact of a full node
unfoldable pub full_at : ℕ → List ℕ → Result (Option (FactOf Val) × List ℕ) Fault
full_at cells bytes = do
  f ← fact_at cells bytes
  Ok (Some f.0, f.1)

-- the tag, and the fact of a full node
unfoldable pub tagged_at : ℕ → List ℕ → Result (Option (FactOf Val) × List ℕ) Fault
tagged_at cells bytes = do
  tag ← number_at w8 bytes
  if tag.0 == FULL then full_at cells tag.1
      else if tag.0 == BARE then Ok (None, tag.1)
      else fault bytes Range

-- what a version has between a node's address and its successors
unfoldable pub known_at : Version → ℕ → List ℕ → Result (Option (FactOf Val) × List ℕ) Fault
known_at One cells bytes = full_at cells bytes
known_at Two cells bytes = tagged_at cells bytes

-- a node, and how many bytes were left after its address, where the tag of version 2 stands
pub record Placed : Type 0 where
  pub node : NodeOf Val
  pub left : ℕ

-- a node of a certificate of so many cells and so many nodes
unfoldable pub placed_at : Version → ℕ → ℕ → List ℕ → Result (Placed × List ℕ) Fault
placed_at version cells count bytes = do
  addr ← below_at (2 ^ 20) bytes
  fact ← known_at version cells addr.1
  succ ← numbers_at MOST_SUCCESSORS count fact.1
  rank ← rank_at cells succ.1
  Ok (
    record {
      node = record { addr = addr.0; fact = fact.0; succ = succ.0; rank = rank.0 };
      left = length addr.1;
    },
    rank.1,
  )

-- as the code holds it
abbrev pub placed : ReadNode → Placed
placed n = record {
  node = record { addr = n.addr; fact = n.fact; succ = n.succ.items; rank = n.rank };
  left = n.left;
}

-- the fact, if there is one, has so many cells
abbrev pub IsOver : ℕ → Option (FactOf Val) → Type 0
IsOver cells f = IfSome f (λ g. length g.cells ≡ cells)
