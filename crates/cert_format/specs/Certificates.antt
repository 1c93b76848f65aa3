-- What a certificate is, with values of type T in its facts.
use Rattle.std.specs.Prelude.{ℕ, pos, List, [], ◌++◌, ◌∷◌, Option, None, Bool, not, is_some}
use Rattle.std.proofs.Common.{get_or}
use Rattle.flag_relation.specs.Facts.{FactOf}
use Rattle.flag_relation.specs.Forms.{FormOf}

-- a node: its address, its fact (none where it is bare), the numbers of its successors, its rank
pub record NodeOf (T : Type 0) : Type 0 where
  pub addr : ℕ
  pub fact : Option (FactOf T)
  pub succ : List ℕ
  pub rank : FormOf

-- the addresses of the tracked cells, the numbers of the start nodes, and the nodes
pub record CertificateOf (T : Type 0) : Type 0 where
  pub cells : List ℕ
  pub starts : List ℕ
  pub nodes : List (NodeOf T)

abbrev pub no_node : {T : Type 0} → NodeOf T
no_node = record {
  addr = 0;
  fact = None;
  succ = [];
  rank = record { constant = pos 0; terms = [] };
}

-- the node of that number
abbrev pub node_at : {T : Type 0} → CertificateOf T → ℕ → NodeOf T
node_at c i = get_or c.nodes i no_node

abbrev pub is_bare : {T : Type 0} → NodeOf T → Bool
is_bare n = not (is_some n.fact)

-- one more node
abbrev pub with_node : {T : Type 0} → CertificateOf T → NodeOf T → CertificateOf T
with_node c n = record c { nodes = c.nodes ++ n ∷ [] }
