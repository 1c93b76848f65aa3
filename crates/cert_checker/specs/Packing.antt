-- A certificate in which each node is bare that may be, and whose fact follows where it is listed.
use Rattle.std.specs.Prelude.{ℕ, suc, Bool, true, false, ◌&&◌, List, [], ◌∷◌, take, Option, Some}
use Rattle.std.specs.Prelude.{None}
use Rattle.std.specs.List.{list_all}
use Rattle.num_domain.specs.Domain.{Domain}
use Rattle.memory_plan.specs.Plans.{PlanLines}
use Rattle.flag_relation.specs.Facts.{FactOf}
use Rattle.flag_relation.specs.Order.{includes}
use Rattle.abs_step.specs.Conditions.{fault}
use Rattle.cert_format.specs.Certificates.{NodeOf, CertificateOf, node_at}
use Rattle.cert_format.specs.Bare.{may_be_bare}
use Rattle.cert_checker.specs.Conditions.{is_data, known}
use Rattle.cert_checker.specs.Filling.{lister, no_fault, follows}

-- each of the facts includes the other: true of equal facts alone, as inclusion is an order
abbrev pub are_equal : {T : Type 0} → Domain T → FactOf T → FactOf T → Bool
are_equal d f g = includes d f g && includes d g f

-- the node, without its fact if so
abbrev pub bare_if : {T : Type 0} → Bool → NodeOf T → NodeOf T
bare_if true n = record n { fact = None }
bare_if false n = n

module _ {T : Type 0} (d : Domain T) (plan : PlanLines) (c : CertificateOf T) where
  -- no cell and none of C1 to C7 fails at the node of that number, and the fact is what follows
  -- from there
  abbrev pub is_from : FactOf T → ℕ → Option ℕ → Bool
  is_from f at None = false
  is_from f at (Some j) = let n = node_at c j in
      (list_all (λ a. is_data plan a) c.cells
      && no_fault (fault d plan c.cells n.addr (known d c.cells n)))
      && are_equal d f (follows d plan c.cells n.addr (known d c.cells n) at)

  -- may node i be bare, and is its fact what follows from the node that lists it?
  abbrev pub is_told : ℕ → NodeOf T → Bool
  is_told i n = may_be_bare c i
      && is_from (known d c.cells n) n.addr (lister i 0 (take i c.nodes))

  -- the nodes, which are counted from i, packed
  abbrev pub packed_nodes : ℕ → List (NodeOf T) → List (NodeOf T)
  packed_nodes i [] = []
  packed_nodes i (n ∷ ns) = bare_if (is_told i n) n ∷ packed_nodes (suc i) ns

  -- the certificate, of which filling gives this one
  unfoldable pub packed : CertificateOf T
  packed = record c { nodes = packed_nodes 0 c.nodes }
