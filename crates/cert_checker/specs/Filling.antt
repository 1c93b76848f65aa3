-- A certificate in which each bare node has the fact that follows where it is listed.
use Rattle.std.specs.Prelude.{ℕ, zero, suc, ◌+◌, Bool, true, false, ◌&&◌, ◌==◌, if◌then◌else◌, List}
use Rattle.std.specs.Prelude.{[], ◌∷◌, ◌++◌, take, length, Option, Some, None}
use Rattle.std.specs.List.{list_any, list_all}
use Rattle.num_domain.specs.Domain.{Domain}
use Rattle.memory_plan.specs.Plans.{PlanLines}
use Rattle.flag_relation.specs.Facts.{FactOf, unknown}
use Rattle.flag_relation.specs.Joins.{join}
use Rattle.abs_step.specs.OutcomeLists.{OutcomeOf}
use Rattle.abs_step.specs.Conditions.{fault, outcomes}
use Rattle.abs_step.specs.declared.outcome.Cond.{Cond}
use Rattle.cert_format.specs.Certificates.{NodeOf, CertificateOf, node_at}
use Rattle.cert_checker.specs.Conditions.{is_data, known}

-- ---- where a node is listed

abbrev pub lists : {T : Type 0} → ℕ → NodeOf T → Bool
lists i n = list_any (λ s. s == i) n.succ

-- the first of the nodes, which are counted from k, that lists the number
abbrev pub lister : {T : Type 0} → ℕ → ℕ → List (NodeOf T) → Option ℕ
lister i k [] = None
lister i k (n ∷ ns) = if lists i n then Some k else lister i (k + 1) ns

-- ---- what follows there

-- the facts after the outcomes that lead to the address, in order
abbrev pub arrivals : {T : Type 0} → ℕ → List (OutcomeOf T) → List (FactOf T)
arrivals at [] = []
arrivals at (o ∷ os) = if o.target == at then o.after ∷ arrivals at os else arrivals at os

abbrev pub no_fault : Option Cond → Bool
no_fault None = true
no_fault (Some c) = false

module _ {T : Type 0} (d : Domain T) where
  -- the fact, joined with the others in order
  abbrev pub joined_on : FactOf T → List (FactOf T) → FactOf T
  joined_on f [] = f
  joined_on f (g ∷ gs) = joined_on (join d f g) gs

  -- the join of the facts; nothing is known where there is none
  abbrev pub joined : List ℕ → List (FactOf T) → FactOf T
  joined cells [] = unknown d (length cells)
  joined cells (f ∷ fs) = joined_on f fs

module _ {T : Type 0} (d : Domain T) (plan : PlanLines) (cells : List ℕ) where
  -- What follows at an address from a fact at another: the join of what arrives there. Nothing is
  -- known where a condition of the instruction or of a cell fails.
  unfoldable pub follows : ℕ → FactOf T → ℕ → FactOf T
  follows from f at = (
      if list_all (λ c. is_data plan c) cells && no_fault (fault d plan cells from f)
      then joined d cells (arrivals at (outcomes d plan cells from f))
      else unknown d (length cells))

module _ {T : Type 0} (d : Domain T) (plan : PlanLines) (c : CertificateOf T) where
  -- of the node of that number among those that were filled
  abbrev pub follows_from : List (NodeOf T) → ℕ → Option ℕ → FactOf T
  follows_from filled at None = unknown d (length c.cells)
  follows_from filled at (Some j) =
      let n = node_at (record c { nodes = filled }) j in
      follows d plan c.cells n.addr (known d c.cells n) at

  abbrev pub own_or_follows : List (NodeOf T) → ℕ → ℕ → Option (FactOf T) → FactOf T
  own_or_follows filled i at (Some f) = f
  own_or_follows filled i at None = follows_from filled at (lister i 0 (take i c.nodes))

  -- a node with its own fact, or with what follows from the first node before it that lists it
  abbrev pub filled_node : List (NodeOf T) → ℕ → NodeOf T → NodeOf T
  filled_node filled i n = record n { fact = Some (own_or_follows filled i n.addr n.fact) }

  -- the first so many nodes, filled one after the other
  abbrev pub filled_nodes : ℕ → List (NodeOf T)
  filled_nodes zero = []
  filled_nodes (suc i) = filled_nodes i ++ filled_node (filled_nodes i) i (node_at c i) ∷ []

  -- the certificate without bare nodes
  unfoldable pub filled : CertificateOf T
  filled = record c { nodes = filled_nodes (length c.nodes) }
