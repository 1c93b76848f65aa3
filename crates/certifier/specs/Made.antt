-- The certificate of the least solution of a plan.
use Rattle.std.specs.Prelude.{◌≡◌, ℕ, suc, List, [], ◌∷◌, map, Some, slice_index_or, pos}
use Rattle.num_domain.specs.Domain.{Domain}
use Rattle.memory_plan.specs.Plans.{PlanLines}
use Rattle.memory_plan.specs.declared.start.Start.{Start}
use Rattle.flag_relation.specs.Facts.{FactOf}
use Rattle.flag_relation.specs.Forms.{FormOf}
use Rattle.rank_form.specs.Levels.{constant_form}
use Rattle.flow_recover.specs.declared.key.Key.{Key}
use Rattle.flow_recover.specs.Cells.{cells_of}
use Rattle.fix_solver.specs.Solutions.{plan_rules}
use Rattle.fix_solver.specs.Solved.{NodeOf, IsSolved, facts_of}
use Rattle.fix_solver.specs.Tables.{place}
use Rattle.rank_nest.specs.Ranks.{AreRanks}
use Rattle.cert_format.specs.Certificates.{CertificateOf}
use Rattle.cert_format.specs.Certificates.{NodeOf as CertNodeOf}
use Rattle.cert_checker.specs.Packing.{packed}

-- the rank of the key of a number
abbrev pub rank_of : List FormOf → ℕ → FormOf
rank_of ranks i = slice_index_or ranks i (constant_form (pos 1))

-- the key of a start: no call was made
abbrev pub start_key : Start → Key
start_key s = record { addr = s.at; context = [] }

module _ {T : Type 0} where
  -- a key's node: its address, its fact, the numbers of its successors, and its rank
  abbrev pub cert_node : NodeOf (FactOf T) → FormOf → CertNodeOf T
  cert_node n rank = record {
    addr = n.key.addr;
    fact = Some n.fact;
    succ = n.succ;
    rank = rank;
  }

  -- a node for each key; the keys have numbers from i on
  abbrev pub cert_nodes : List FormOf → ℕ → List (NodeOf (FactOf T)) → List (CertNodeOf T)
  cert_nodes ranks i [] = []
  cert_nodes ranks i (n ∷ ns) = cert_node n (rank_of ranks i) ∷ cert_nodes ranks (suc i) ns

  -- the number of the key of each start, in the plan's order
  abbrev pub start_numbers : List (NodeOf (FactOf T)) → List Start → List ℕ
  start_numbers nodes starts = map (λ s. place (facts_of nodes) (start_key s)) starts

  -- the certificate of these keys over the cells
  abbrev pub made : PlanLines → List ℕ → List (NodeOf (FactOf T)) → List FormOf → CertificateOf T
  made plan cells nodes ranks = record {
    cells = cells;
    starts = start_numbers nodes plan.starts;
    nodes = cert_nodes ranks 0 nodes;
  }

-- the certificate is that of the least solution with its ranks, packed
pub record IsMade {T : Type 0} (d : Domain T) (plan : PlanLines) (c : CertificateOf T) : Type 0 where
  pub nodes : List (NodeOf (FactOf T))
  pub solved : IsSolved (plan_rules d plan) nodes
  pub ranks : List FormOf
  pub are : AreRanks d plan (cells_of plan) nodes ranks
  pub is : c ≡ packed d plan (made plan (cells_of plan) nodes ranks)
