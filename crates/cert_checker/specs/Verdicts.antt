-- What the checker answers of a certificate whose bare nodes were filled: the first failure, or a
-- bound for each marker.
use Rattle.std.specs.Prelude.{ℕ, ◌+◌, Bool, not, ◌&&◌, option_map, List, [], ◌∷◌, map, max, Option}
use Rattle.std.specs.Prelude.{Some, None, Result, Ok, Err, unsigned_abs, ◌==◌, if◌then◌else◌}
use Rattle.num_domain.specs.Domain.{Domain}
use Rattle.memory_plan.specs.Plans.{PlanLines}
use Rattle.memory_plan.specs.declared.start.Start.{Start}
use Rattle.abs_step.specs.declared.outcome.Cond.TheVariants.{H1, H2}
use Rattle.flag_relation.specs.Emptiness.{is_empty}
use Rattle.rank_form.specs.Bounds.{upper}
use Rattle.cert_format.specs.Certificates.{NodeOf, CertificateOf}
use Rattle.cert_checker.specs.Conditions.{is_data, known, is_start_covered, node_fault}
use Rattle.cert_checker.specs.declared.verdict.Place.TheVariants as place
use Rattle.cert_checker.specs.declared.verdict.Refusal.{Refusal}
use Rattle.cert_checker.specs.declared.verdict.Bound.{Bound}
use Rattle.cert_checker.specs.declared.verdict.Bound.TheVariants.{Within, Unreached}
use Rattle.cert_checker.specs.declared.verdict.Verdict.{Verdict}
use Rattle.cert_checker.specs.declared.verdict.Verdict.TheVariants as verdict

-- the first of both
abbrev pub or_else : Option Refusal → Option Refusal → Option Refusal
or_else None other = other
or_else (Some r) other = Some r

-- the refusal, unless the test holds
abbrev pub refuse : Bool → Refusal → Option Refusal
refuse b r = if b then None else Some r

-- the first refusal of the elements of a list, which are counted from k
abbrev pub first_of : {A : Type 0} → (ℕ → A → Option Refusal) → ℕ → List A → Option Refusal
first_of refusal k [] = None
first_of refusal k (x ∷ xs) = or_else (refusal k x) (first_of refusal (k + 1) xs)

-- a cell that is no word of data
abbrev pub cell_refusal : PlanLines → ℕ → ℕ → Option Refusal
cell_refusal plan k c =
    refuse (is_data plan c) (record { place = place.Cell k; addr = c; cond = H1 })

module _ {T : Type 0} (d : Domain T) (plan : PlanLines) (c : CertificateOf T) where
  -- a start that no listed node covers
  abbrev pub start_refusal : ℕ → Start → Option Refusal
  start_refusal k s = refuse (is_start_covered d plan c.cells c.nodes c.starts s)
      (record { place = place.Start k; addr = s.at; cond = H2 })

module _ {T : Type 0} (d : Domain T) (plan : PlanLines) (price : ℕ → ℕ) (c : CertificateOf T) where
  -- a node at which a condition fails
  abbrev pub node_refusal : ℕ → NodeOf T → Option Refusal
  node_refusal k n =
      option_map (λ cond. record { place = place.Node k; addr = n.addr; cond = cond })
      (node_fault d plan c.cells price c.nodes n)

  -- the first failure: cells in order, then starts, then nodes
  abbrev pub first_failure : Option Refusal
  first_failure = or_else (first_of (cell_refusal plan) 0 c.cells)
      (or_else (first_of (start_refusal d plan c) 0 plan.starts) (first_of node_refusal 0 c.nodes))

-- the greater of a number and a bound
abbrev pub raised : ℕ → Bound → Bound
raised rank Unreached = Within rank
raised rank (Within bound) = Within (max rank bound)

module _ {T : Type 0} (d : Domain T) where
  -- The greatest upper bound of the ranks of the nodes at an address whose facts aren't empty, and
  -- Unreached where none stands there. Where all conditions hold each is at least 1, and so its
  -- size is the bound itself.
  abbrev pub bound_at : List ℕ → ℕ → List (NodeOf T) → Bound
  bound_at cells at [] = Unreached
  bound_at cells at (n ∷ ns) = (
      if n.addr == at && not (is_empty d (known d cells n))
      then raised (unsigned_abs (upper d n.rank (known d cells n))) (bound_at cells at ns)
      else bound_at cells at ns)

  -- each marker with its bound, in the plan's order
  abbrev pub bounds_of : PlanLines → CertificateOf T → List (ℕ × Bound)
  bounds_of plan c = map (λ m. (m, bound_at c.cells m c.nodes)) plan.markers

abbrev pub verdict_from : List (ℕ × Bound) → Option Refusal → Result (List (ℕ × Bound)) Refusal
verdict_from bounds None = Ok bounds
verdict_from bounds (Some r) = Err r

-- what is to be answered
unfoldable pub verdict_of : {T : Type 0} → Domain T → PlanLines → (ℕ → ℕ) → CertificateOf T
    → Result (List (ℕ × Bound)) Refusal
verdict_of d plan price c = verdict_from (bounds_of d plan c) (first_failure d plan price c)

-- what the checker's answer says
abbrev pub verdict_view : Verdict → Result (List (ℕ × Bound)) Refusal
verdict_view (verdict.Yes bounds) = Ok bounds.items
verdict_view (verdict.No r) = Err r
