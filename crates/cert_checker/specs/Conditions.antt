-- The local conditions of a certificate whose bare nodes were filled: each is read at one cell, one
-- start or one node alone.
use Rattle.std.specs.Prelude.{◌≡◌, ℕ, ◌-◌, ◌^◌, pos, neg_ℤ, int_le, Bool, true, false, not, ◌&&◌}
use Rattle.std.specs.Prelude.{◌||◌, ◌==◌, if◌then◌else◌, List, length, Option, Some, None}
use Rattle.std.specs.Prelude.{is_some, All, slice_get}
use Rattle.std.specs.List.{list_any, list_all}
use Rattle.num_domain.specs.Domain.{Domain}
use Rattle.memory_plan.specs.Plans.{PlanLines, range_at, is_marker}
use Rattle.memory_plan.specs.declared.start.Start.{Start}
use Rattle.flag_relation.specs.Facts.{FactOf, unknown}
use Rattle.flag_relation.specs.Order.{includes}
use Rattle.flag_relation.specs.Emptiness.{is_empty}
use Rattle.rank_form.specs.Bounds.{upper, lower, rise}
use Rattle.abs_step.specs.OutcomeLists.{OutcomeOf}
use Rattle.abs_step.specs.Starts.{start_fact}
use Rattle.abs_step.specs.Conditions.{unless, fault, outcomes}
use Rattle.abs_step.specs.declared.outcome.Cond.{Cond}
use Rattle.abs_step.specs.declared.outcome.Cond.TheVariants.{C8, C9, C10, C11}
use Rattle.cert_format.specs.Certificates.{NodeOf, CertificateOf}
use Rattle.cert_checker.specs.Nodes.{successor, are_distinct}

-- is the cell a word of data?
abbrev pub is_data : PlanLines → ℕ → Bool
is_data plan at = is_some (range_at plan.«data» at)

abbrev pub earlier : Option Cond → Option Cond → Option Cond
earlier None other = other
earlier (Some c) other = Some c

-- Over the cells of a certificate.
module _ {T : Type 0} (d : Domain T) (cells : List ℕ) where
  -- what is known at a node: nothing at a bare one
  abbrev pub fact_or_top : Option (FactOf T) → FactOf T
  fact_or_top None = unknown d (length cells)
  fact_or_top (Some f) = f

  abbrev pub known : NodeOf T → FactOf T
  known n = fact_or_top n.fact

  abbrev pub includes_after : OutcomeOf T → Option (NodeOf T) → Bool
  includes_after o None = false
  includes_after o (Some m) = includes d (known m) o.after

  -- C8: the listed nodes stand at distinct addresses, and each outcome has one at its target which
  -- includes what is known after it
  unfoldable pub c8 : List (NodeOf T) → NodeOf T → List (OutcomeOf T) → Bool
  c8 nodes n os = are_distinct nodes n.succ
      && list_all (λ o. includes_after o (successor nodes n.succ o.target)) os

module _ {T : Type 0} (d : Domain T) (plan : PlanLines) (cells : List ℕ) where
  -- a node covers a start where it stands at its address and includes its start fact
  abbrev pub covers_start : Start → Option (NodeOf T) → Bool
  covers_start start None = false
  covers_start start (Some n) =
      (n.addr == start.at) && includes d (known d cells n) (start_fact d plan cells start)

  -- H2: some listed start node covers it
  abbrev pub is_start_covered : List (NodeOf T) → List ℕ → Start → Bool
  is_start_covered nodes starts start =
      list_any (λ j. covers_start start (slice_get nodes j)) starts

  -- C11: at a marker the rank is at most 2^63 - 1
  unfoldable pub c11 : NodeOf T → Bool
  c11 n = not (is_marker plan n.addr)
      || int_le (upper d n.rank (known d cells n)) (pos (2 ^ 63 - 1))

-- An instruction at an address has a price: 1 where instructions are counted.
module _ {T : Type 0} (d : Domain T) (plan : PlanLines) (cells : List ℕ) (price : ℕ → ℕ) where
  -- C9: the rank is at least the price
  unfoldable pub c9 : NodeOf T → Bool
  c9 n = int_le (pos (price n.addr)) (lower d n.rank (known d cells n))

  abbrev pub falls_to : NodeOf T → OutcomeOf T → Option (NodeOf T) → Bool
  falls_to n o None = false
  falls_to n o (Some m) = int_le (rise d n.rank m.rank o) (neg_ℤ (pos (price n.addr)))

  -- C10: the rank falls by the price at least, unless the outcome leads into a marker
  unfoldable pub c10 : List (NodeOf T) → NodeOf T → List (OutcomeOf T) → Bool
  c10 nodes n os =
      list_all (λ o. is_marker plan o.target || falls_to n o (successor nodes n.succ o.target)) os

  -- the first of C8 to C11 that fails
  abbrev pub first_in_flow : List (NodeOf T) → NodeOf T → List (OutcomeOf T) → Option Cond
  first_in_flow nodes n os =
      unless (c8 d cells nodes n os) C8
      (unless (c9 n) C9
      (unless (c10 nodes n os) C10
      (unless (c11 d plan cells n) C11 None)))

  -- all of them hold of an empty fact, which no state meets
  unfoldable pub flow_fault : List (NodeOf T) → NodeOf T → List (OutcomeOf T) → Option Cond
  flow_fault nodes n os =
      (if is_empty d (known d cells n) then None else first_in_flow nodes n os)

  -- the first of C1 to C11 that fails
  unfoldable pub node_fault : List (NodeOf T) → NodeOf T → Option Cond
  node_fault nodes n =
      earlier (fault d plan cells n.addr (known d cells n))
      (flow_fault nodes n (outcomes d plan cells n.addr (known d cells n)))

-- of a full certificate all local conditions hold: of each cell, each start and each node
pub record LocalOfFull {T : Type 0} (d : Domain T) (plan : PlanLines) (price : ℕ → ℕ)
    (c : CertificateOf T) : Type 0 where
  pub cells : All (λ at. is_data plan at ≡ true) c.cells
  pub starts : All (λ start. is_start_covered d plan c.cells c.nodes c.starts start ≡ true)
      plan.starts
  pub nodes : All (λ n. node_fault d plan c.cells price c.nodes n ≡ None) c.nodes
