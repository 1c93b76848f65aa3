-- Local conditions carry facts and ranks over one step.
use Rattle.std.proofs.Common.{◌≡◌, ℕ, ◌==◌, ◌&&◌, ◌||◌, Bool, true, false, List, [], ◌∷◌, Option, Some, None, refl, sym, subst, ◌∙◌, slice_get, get_or, ℤ, pos, neg_ℤ, int_le, inl, inr, arith, ◌+ℤ◌, ◌-ℤ◌, ◌≤ℤ◌}
use Rattle.std.specs.List.{list_any, list_all}
use Rattle.std.proofs.lemmas.Bool.{and_parts, or_cases}
use Rattle.std.proofs.lemmas.Bool.Decides.{Decides-eqb}
use Rattle.std.proofs.lemmas.Int.{ints}
use Rattle.std.proofs.lemmas.Option.{slice_get_within, get_or_from_slice_get}
use Rattle.num_domain.specs.Domain.{Domain}
use Rattle.viper_word.specs.Machine.{State, next}
use Rattle.memory_plan.specs.Plans.{PlanLines, IsStart, is_marker}
use Rattle.memory_plan.specs.Runs.{IsFair}
use Rattle.memory_plan.specs.WellFormed.{IsWellFormed}
use Rattle.memory_plan.specs.declared.start.Start.{Start}
use Rattle.flag_relation.specs.Laws.{FactLaws}
use Rattle.flag_relation.specs.Facts.{FactOf}
use Rattle.flag_relation.specs.Order.{includes}
use Rattle.rank_form.specs.Weights.{value}
use Rattle.rank_form.specs.Bounds.{lower, rise}
use Rattle.rank_form.specs.Laws.{BoundLaws}
use Rattle.abs_step.specs.Starts.{start_fact}
use Rattle.abs_step.specs.States.{MeetsFact, SomeOutcome, numbers_in}
use Rattle.abs_step.specs.StepLaws.{StepLaws, Ascend}
use Rattle.abs_step.specs.Conditions.{outcomes}
use Rattle.cert_format.specs.Certificates.{NodeOf, CertificateOf}
use Rattle.cert_checker.specs.Nodes.{successor, are_distinct}
use Rattle.cert_checker.specs.Conditions.{known, covers_start, includes_after, c8, c9, falls_to, c10, LocalOfFull}
use Rattle.cert_checker.specs.Claims.{rank_in, IsAt, GoesOn, IsCarried}
use Rattle.cert_checker.proofs.Nodes.{Stands, successor_stands, Keeps, node_keeps, some_passes, includes_some}

-- ---- numbers

at_least : (r q : ℤ) → int_le r q ≡ true → r ≤ℤ q
at_least r q h = grind (arith, ints)

rise_small : (r : ℤ) (p : ℕ) → int_le r (neg_ℤ (pos p)) ≡ true → (r +ℤ pos p) ≤ℤ pos 0
rise_small r p h = let le : r ≤ℤ neg_ℤ (pos p) = at_least r (neg_ℤ (pos p)) h in omega (arith, ints, le)

fall_by : (v w r : ℤ) (p : ℕ) → (w -ℤ v) ≤ℤ r → (r +ℤ pos p) ≤ℤ pos 0 → (w +ℤ pos p) ≤ℤ v
fall_by v w r p a b = omega (arith, ints)

-- either side is true, and the first isn't
other_side : (b c : Bool) → (b || c) ≡ true → b ≡ false → c ≡ true
other_side true c h f = absurd (cc)
other_side false c h f = h

module _ {T : Type 0} (d : Domain T) (plan : PlanLines) (price : ℕ → ℕ) (c : CertificateOf T)
    (facts : FactLaws d) (bounds : BoundLaws d) (steps : StepLaws d plan c.cells)
    (well : IsWellFormed plan) (up : Ascend c.cells) (local : LocalOfFull d plan price c) where
  -- what is kept of each node that stands in the list, if some state meets its fact
  pub keeps : (n : NodeOf T) (s : State) → Stands c.nodes n → MeetsFact d plan c.cells (known d c.cells n) s → Keeps d plan c.cells price c.nodes n
  keeps n s st m =
      let e : get_or c.nodes st.place n ≡ n = get_or_from_slice_get c.nodes st.place n n st.there in
      let live = facts.emptiness.met (known d c.cells n) (numbers_in c.cells s) s.b m.meets in
      node_keeps d plan c.cells price c.nodes n live (rw e at (local.nodes st.place n (slice_get_within c.nodes st.place n st.there)))

  -- a state that meets a fact meets each that includes it
  meets_larger : (f g : FactOf T) (s : State) → includes d g f ≡ true → MeetsFact d plan c.cells f s → MeetsFact d plan c.cells g s
  meets_larger f g s h m = record {
    kept = m.kept;
    meets = facts.order.meets f g ((facts.order.test f g).0 h) (numbers_in c.cells s) s.b m.meets;
  }

  -- where a state meets a node's fact the rank is at least the price
  priced : (n : NodeOf T) (s : State) → Keeps d plan c.cells price c.nodes n → MeetsFact d plan c.cells (known d c.cells n) s → pos (price n.addr) ≤ℤ value n.rank (numbers_in c.cells s)
  unfolding c9
  priced n s k m =
      let low = at_least (pos (price n.addr)) (lower d n.rank (known d c.cells n)) k.priced in
      let under = bounds.under n.rank (known d c.cells n) (numbers_in c.cells s) s.b m.meets in
      omega (arith, ints, low, under)

  -- a state whose P is a node's address, and which meets its fact, is at the node
  stands_meets : (n : NodeOf T) (s : State) → Stands c.nodes n → s.p ≡ n.addr → MeetsFact d plan c.cells (known d c.cells n) s → IsAt d plan price c s n
  stands_meets n s st place m =
      record {
        number = st.place;
        there = st.there;
        place = place;
        meets = m;
        rank = subst (λ (at : ℕ). pos (price at) ≤ℤ rank_in d plan price c n s) (sym place) (priced n s (keeps n s st m) m);
      }

  -- ---- starts

  -- the node that covers a start
  record Covering (start : Start) : Type 0 where
    node : NodeOf T
    stands : Stands c.nodes node
    place : node.addr ≡ start.at
    included : includes d (known d c.cells node) (start_fact d plan c.cells start) ≡ true

  covering_if : (start : Start) (j : ℕ) (js : List ℕ) (o : Option (NodeOf T)) → slice_get c.nodes j ≡ o
      → (list_any (λ i. covers_start d plan c.cells start (slice_get c.nodes i)) js ≡ true → Covering start)
      → (covers_start d plan c.cells start o || list_any (λ i. covers_start d plan c.cells start (slice_get c.nodes i)) js) ≡ true → Covering start
  covering_if start j js None e more h = more h
  covering_if start j js (Some n) e more h =
      let fits = (n.addr == start.at) && includes d (known d c.cells n) (start_fact d plan c.cells start) in
      elim (or_cases fits (list_any (λ i. covers_start d plan c.cells start (slice_get c.nodes i)) js) h) [
        | inl here ↦
            let parts = and_parts (n.addr == start.at) (includes d (known d c.cells n) (start_fact d plan c.cells start)) here in
            record { node = n; stands = record { place = j; there = e }; place = (Decides-eqb n.addr start.at).0 parts.0; included = parts.1 }
        | inr other ↦ more other
      ]

  covering : (start : Start) (js : List ℕ) → list_any (λ j. covers_start d plan c.cells start (slice_get c.nodes j)) js ≡ true → Covering start
  covering start [] h = absurd (cc)
  covering start (j ∷ js) h = covering_if start j js (slice_get c.nodes j) refl (covering start js) h

  start_is_at : (s : State) → IsStart plan s → (n : NodeOf T) × IsAt d plan price c s n
  start_is_at s st =
      let listed = st.listed in
      let test = rw listed.2 at (local.starts listed.0 st.line listed.1) in
      let cover = covering st.line c.starts test in
      let met = meets_larger (start_fact d plan c.cells st.line) (known d c.cells cover.node) s cover.included (steps.start well s st) in (
        cover.node,
        stands_meets cover.node s cover.stands (st.p ∙ sym cover.place) met,
      )

  -- ---- steps

  step_goes : (s : State) (answer : ℕ) (n : NodeOf T) → IsAt d plan price c s n → IsFair plan s answer → GoesOn d plan price c n s (next plan.profile s answer)
  unfolding c8 c10
  step_goes s answer n here fair =
      let u : State = next plan.profile s answer in
      let f = known d c.cells n in
      let k = keeps n s (record { place = here.number; there = here.there }) here.meets in
      let os = outcomes d plan c.cells n.addr f in
      let covered = steps.cover well up f s answer here.meets fair (rw here.place k.no_fault) in
      let parts = and_parts (are_distinct c.nodes n.succ) (list_all (λ o. includes_after d c.cells o (successor c.nodes n.succ o.target)) os) k.flows in
      let pass = some_passes d plan c.cells s u
      (λ o. includes_after d c.cells o (successor c.nodes n.succ o.target))
      (λ o. is_marker plan o.target || falls_to d plan c.cells price n o (successor c.nodes n.succ o.target))
      os (subst (λ (at : ℕ). SomeOutcome d plan c.cells s u (outcomes d plan c.cells at f)) here.place covered.outcome) parts.1 k.falls in
      let o = pass.outcome in
      let found = includes_some d c.cells o (successor c.nodes n.succ o.target) pass.first in
      let m = found.node in
      let st = successor_stands c.nodes n.succ o.target m found.is in
      let after : MeetsFact d plan c.cells o.after u = record { kept = covered.kept; meets = pass.is.after } in
      let met = meets_larger o.after (known d c.cells m) u found.included after in
      record {
        node = m;
        is_at = stands_meets m u st.stands (sym pass.is.target ∙ sym st.addr) met;
        falls = λ unmarked.
            let second : (is_marker plan o.target || falls_to d plan c.cells price n o (Some m)) ≡ true = rw found.is at pass.second in
            let test = other_side (is_marker plan o.target) (falls_to d plan c.cells price n o (Some m)) second (rw pass.is.target unmarked) in
            let low = rise_small (rise d n.rank m.rank o) (price n.addr) test in
            let change = bounds.rises n.rank m.rank o (numbers_in c.cells s) (numbers_in c.cells u) (record {
              before = (s.b, pass.is.before);
              after = (u.b, pass.is.after);
              posts = pass.is.posts;
            }) in
            subst (λ (at : ℕ). (rank_in d plan price c m u +ℤ pos (price at)) ≤ℤ rank_in d plan price c n s) (sym here.place)
            (fall_by (rank_in d plan price c n s) (rank_in d plan price c m u) (rise d n.rank m.rank o) (price n.addr) change low);
      }

  pub carried : IsCarried d plan price c
  carried = record { start = start_is_at; step = step_goes }
