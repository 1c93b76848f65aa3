-- Whole runs: each state is at a node, and ranks fall until a marker is met.
use Rattle.std.proofs.Common.{◌≡◌, ℕ, zero, suc, ◌+◌, ◌<◌, ◌≤◌, ◌==◌, ◌&&◌, not, List, [], ◌∷◌, Option, Some, None, refl, sym, ◌∙◌, subst, length, arith, Bool, true, false, slice_get, slice_index, inl, inr, ℤ, pos, negsuc, ◌+ℤ◌, ◌≤ℤ◌, add-one, max, unsigned_abs, map, if◌then◌else◌}
use Rattle.std.specs.List.{AllByRecursion}
use Rattle.std.proofs.lemmas.Bool.{cases_Bool}
use Rattle.std.proofs.lemmas.Bool.Decides.{Decides-eqb}
use Rattle.std.proofs.lemmas.Int.{ints}
use Rattle.std.proofs.lemmas.List.Elements.{All-from_recursion}
use Rattle.std.proofs.lemmas.Option.{none-some, same_Some, slice_get_within}
use Rattle.viper_word.proofs.Lists.{one_before, within_has}
use Rattle.viper_word.specs.Machine.{State, next}
use Rattle.num_domain.specs.Domain.{Domain}
use Rattle.memory_plan.specs.Plans.{PlanLines, is_marker}
use Rattle.memory_plan.specs.Runs.{IsRun, IsFair, MeetsMarker, AllSafe}
use Rattle.memory_plan.specs.WellFormed.{IsWellFormed}
use Rattle.flag_relation.specs.Laws.{FactLaws}
use Rattle.flag_relation.specs.Emptiness.{is_empty}
use Rattle.rank_form.specs.Bounds.{upper}
use Rattle.rank_form.specs.Laws.{BoundLaws}
use Rattle.abs_step.specs.States.{numbers_in}
use Rattle.abs_step.specs.Conditions.{fault}
use Rattle.abs_step.specs.StepLaws.{StepLaws, Ascend}
use Rattle.cert_format.specs.Certificates.{NodeOf, CertificateOf}
use Rattle.cert_checker.specs.Conditions.{known, LocalOfFull}
use Rattle.cert_checker.specs.Verdicts.{raised, bound_at, bounds_of}
use Rattle.cert_checker.specs.Claims.{price_of, spent, NoMarker, Claimed, rank_in, IsAt, GoesOn, Suffices}
use Rattle.cert_checker.specs.declared.verdict.Bound.{Bound}
use Rattle.cert_checker.specs.declared.verdict.Bound.TheVariants.{Within, Unreached}
use Rattle.cert_checker.proofs.Nodes.{keeps_in_code}
use Rattle.cert_checker.proofs.Steps.{keeps, carried}

-- ---- bounds

-- the bound is a number, and the rank is at most that
record IsAtMost (rank : ℕ) (b : Bound) : Type 0 where
  bound : ℕ
  is : b ≡ Within bound
  le : rank ≤ bound

raised_bounds : (rank : ℕ) (b : Bound) → IsAtMost rank (raised rank b)
raised_bounds rank Unreached = record { bound = rank; is = refl; le = omega arith }
raised_bounds rank (Within n) = record { bound = max rank n; is = refl; le = omega arith }

raised_keeps : (rank other : ℕ) (b : Bound) → IsAtMost rank b → IsAtMost rank (raised other b)
raised_keeps rank other Unreached h = let e : Unreached ≡ Within h.bound = h.is in absurd (cc)
raised_keeps rank other (Within n) h = let same : n ≡ h.bound = cc (h.is) in record { bound = max other n; is = refl; le = omega (arith, h.le, same) }

small : (r : ℤ) (bound : ℕ) → unsigned_abs r ≤ bound → r ≤ℤ pos bound
small (pos n) bound le = omega (arith, ints)
small (negsuc n) bound le = omega (arith, ints)

at_most_sum : (v r : ℤ) (bound : ℕ) → v ≤ℤ r → r ≤ℤ pos bound → v ≤ℤ pos bound
at_most_sum v r bound a b = omega (arith, ints)

no_fuel : (p : ℕ) (r : ℤ) → 1 ≤ p → pos p ≤ℤ r → r ≤ℤ pos 0 → ⊥
no_fuel p r one a b = omega (arith, ints)

less_fuel : (p fuel : ℕ) (r q : ℤ) → 1 ≤ p → (q +ℤ pos p) ≤ℤ r → r ≤ℤ pos (suc fuel) → q ≤ℤ pos fuel
less_fuel p fuel r q one a b = omega (arith, ints)

spend_more : (p n : ℕ) (r q : ℤ) → pos n ≤ℤ q → (q +ℤ pos p) ≤ℤ r → pos (p + n) ≤ℤ r
spend_more p n r q a b = omega (arith, ints)

spend_one : (p : ℕ) (r : ℤ) → pos p ≤ℤ r → pos (p + 0) ≤ℤ r
spend_one p r a = omega (arith, ints)

pos_le : (n bound : ℕ) (r : ℤ) → pos n ≤ℤ r → r ≤ℤ pos bound → n ≤ bound
pos_le n bound r a b = omega (arith, ints)

room_after : (k fuel n : ℕ) → k + suc fuel < n → k + 1 < n
room_after k fuel n h = omega arith

module _ {T : Type 0} (d : Domain T) (plan : PlanLines) (price : ℕ → ℕ) (c : CertificateOf T)
    (facts : FactLaws d) (bounds : BoundLaws d) (steps : StepLaws d plan c.cells)
    (well : IsWellFormed plan) (up : Ascend c.cells) (priced : (at : ℕ) → 1 ≤ price at) (local : LocalOfFull d plan price c) where
  -- a state at some node
  record At (s : State) : Type 0 where
    node : NodeOf T
    here : IsAt d plan price c s node

  goes : (s t : State) (answer : ℕ) → (a : At s) → IsFair plan s answer → t ≡ next plan.profile s answer → GoesOn d plan price c a.node s t
  goes s t answer a fair is = rw is ((carried d plan price c facts bounds steps well up local).step s answer a.node a.here fair)

  at_next : (states : List State) (answers : List ℕ) → IsRun plan states answers → (k : ℕ) (s t : State) → slice_get states k ≡ Some s → slice_get states (k + 1) ≡ Some t
      → (a : At s) → GoesOn d plan price c a.node s t
  at_next states answers run k s t h h' a =
      goes s t (slice_index answers k) a (run.fair k s (within k t h') h) (run.steps k s t h h')
    where
      within : (k : ℕ) (t : State) → slice_get states (k + 1) ≡ Some t → k < length answers
      within k t h' = omega (arith, slice_get_within states (k + 1) t h', run.count)

  -- each state of a run is at a node
  at_each : (states : List State) (answers : List ℕ) → IsRun plan states answers → (k : ℕ) (s : State) → slice_get states k ≡ Some s → At s
  at_each states answers run zero s h =
      let a = (carried d plan price c facts bounds steps well up local).start s (run.start s h) in
      record { node = a.0; here = a.1 }
  at_each states answers run (suc k) t h =
      let before = one_before states k t h in
      let a = at_each states answers run k before.0 before.1 in
      let g = at_next states answers run k before.0 t before.1 (rw add-one h) a in
      record { node = g.node; here = g.is_at }

  -- ---- markers

  -- no node at the address has a greater upper bound than the marker's
  bound_above : (at : ℕ) (nodes : List (NodeOf T)) (k : ℕ) (n : NodeOf T) → slice_get nodes k ≡ Some n → n.addr ≡ at → is_empty d (known d c.cells n) ≡ false
      → IsAtMost (unsigned_abs (upper d n.rank (known d c.cells n))) (bound_at d c.cells at nodes)
  bound_above at [] k n h e live = absurd (none-some n h)
  bound_above at (m ∷ ms) zero n h e live =
      let same : m ≡ n = same_Some m n h in
      let test : (n.addr == at) ≡ true = (Decides-eqb n.addr at).1 e in
      rw (same, test, live) (raised_bounds (unsigned_abs (upper d n.rank (known d c.cells n))) (bound_at d c.cells at ms))
  bound_above at (m ∷ ms) (suc k) n h e live = either_way (m.addr == at && not (is_empty d (known d c.cells m))) (bound_above at ms k n h e live)
    where
      either_way : (b : Bool) → IsAtMost (unsigned_abs (upper d n.rank (known d c.cells n))) (bound_at d c.cells at ms)
          → IsAtMost (unsigned_abs (upper d n.rank (known d c.cells n))) (if b then raised (unsigned_abs (upper d m.rank (known d c.cells m))) (bound_at d c.cells at ms) else bound_at d c.cells at ms)
      either_way true rest = raised_keeps (unsigned_abs (upper d n.rank (known d c.cells n))) (unsigned_abs (upper d m.rank (known d c.cells m))) (bound_at d c.cells at ms) rest
      either_way false rest = rest

  -- from a state whose rank is at most so much a marker is met within that many instructions
  meets_soon : (states : List State) (answers : List ℕ) → IsRun plan states answers → (fuel k : ℕ) (s : State) → slice_get states k ≡ Some s
      → (a : At s) → rank_in d plan price c a.node s ≤ℤ pos fuel → k + fuel < length states → MeetsMarker plan states (k + 1) (k + fuel)
  meets_soon states answers run zero k s h a le room =
      absurd (no_fuel (price s.p) (rank_in d plan price c a.node s) (priced s.p) a.here.rank le)
  meets_soon states answers run (suc fuel) k s h a le room =
      let after = within_has states (k + 1) (room_after k fuel (length states) room) in
      let g = at_next states answers run k s after.0 h after.1 a in
      on_from fuel k room after.0 after.1 (λ unmarked. meets_soon states answers run fuel (k + 1) after.0 after.1 (record { node = g.node; here = g.is_at })
      (less_fuel (price s.p) fuel (rank_in d plan price c a.node s) (rank_in d plan price c g.node after.0) (priced s.p) (g.falls unmarked) le) (omega arith))
    where
      on_from : (fuel k : ℕ) → k + suc fuel < length states → (t : State) → slice_get states (k + 1) ≡ Some t
          → (is_marker plan t.p ≡ false → MeetsMarker plan states (k + 1 + 1) (k + 1 + fuel)) → MeetsMarker plan states (k + 1) (k + suc fuel)
      on_from fuel k room t there more = elim (cases_Bool (is_marker plan t.p)) [
        | inl m ↦ record { place = k + 1; state = t; there = there; from = omega arith; to = omega arith; marker = m }
        | inr m ↦
            let rest = more m in
            record { place = rest.place; state = rest.state; there = rest.there; from = omega (arith, rest.from); to = omega (arith, rest.to); marker = rest.marker }
      ]

  -- what is spent until a marker is met is at most the rank
  spends : (states : List State) (answers : List ℕ) → IsRun plan states answers → (n k : ℕ) (s : State) → slice_get states k ≡ Some s
      → (a : At s) → k + suc n < length states → NoMarker plan states (k + 1) n → pos (spent price states k (suc n)) ≤ℤ rank_in d plan price c a.node s
  spends states answers run zero k s h a room none =
      subst (λ (o : Option State). pos (price_of price o + 0) ≤ℤ rank_in d plan price c a.node s) (sym h) (spend_one (price s.p) (rank_in d plan price c a.node s) a.here.rank)
  spends states answers run (suc n) k s h a room none =
      let after = within_has states (k + 1) (room_after k (suc n) (length states) room) in
      let t = after.0 in
      let g = at_next states answers run k s t h after.1 a in
      let unmarked = none (k + 1) t (omega arith) (omega arith) after.1 in
      let rest = spends states answers run n (k + 1) t after.1 (record { node = g.node; here = g.is_at }) (omega arith) (λ j u from to there. none j u (omega (arith, from)) (omega (arith, to)) there) in
      subst (λ (o : Option State). pos (price_of price o + spent price states (k + 1) (suc n)) ≤ℤ rank_in d plan price c a.node s) (sym h)
      (spend_more (price s.p) (spent price states (k + 1) (suc n)) (rank_in d plan price c a.node s) (rank_in d plan price c g.node t) rest (g.falls unmarked))

  -- ---- all runs

  all_safe : AllSafe plan
  all_safe states answers run = record {
    running = λ k s h. (at_each states answers run k s h).here.meets.kept.running;
    code = λ k s h.
        let a = at_each states answers run k s h in
        let kept = keeps d plan price c facts bounds steps well up local a.node s (record { place = a.here.number; there = a.here.there }) a.here.meets in
        rw a.here.place (keeps_in_code d plan c.cells a.node.addr (known d c.cells a.node) kept.no_fault);
    tidy = λ k s inside h.
        let a = at_each states answers run k s h in
        let kept = keeps d plan price c facts bounds steps well up local a.node s (record { place = a.here.number; there = a.here.there }) a.here.meets in
        (steps.cover well up (known d c.cells a.node) s (slice_index answers k) a.here.meets (run.fair k s inside h)
        (subst (λ (at : ℕ). fault d plan c.cells at (known d c.cells a.node) ≡ None) (sym a.here.place) kept.no_fault)).tidy;
  }

  claimed : (m : ℕ) (b : Bound) → bound_at d c.cells m c.nodes ≡ b → Claimed plan price m b
  claimed m (Within bound) e = record {
    count = λ states answers run k s h here_m room.
        let a = at_each states answers run k s h in
        meets_soon states answers run bound k s h a (at_marker a here_m) room;
    cost = λ states answers run k n s h here_m room none.
        let a = at_each states answers run k s h in
        pos_le (spent price states k (suc n)) bound (rank_in d plan price c a.node s) (spends states answers run n k s h a room none) (at_marker a here_m);
  }
    where
      at_marker : {s : State} (a : At s) → s.p ≡ m → rank_in d plan price c a.node s ≤ℤ pos bound
      at_marker {s} a here_m =
          let most = bound_above m c.nodes a.here.number a.node a.here.there (sym a.here.place ∙ here_m) (facts.emptiness.met (known d c.cells a.node) (numbers_in c.cells s) s.b a.here.meets.meets) in
          let both_are : Within most.bound ≡ Within bound = sym most.is ∙ e in
          let same : most.bound ≡ bound = cc (both_are) in
          at_most_sum (rank_in d plan price c a.node s) (upper d a.node.rank (known d c.cells a.node)) bound
          (bounds.over a.node.rank (known d c.cells a.node) (numbers_in c.cells s) s.b a.here.meets.meets)
          (small (upper d a.node.rank (known d c.cells a.node)) bound (omega (arith, most.le, same)))
  claimed m Unreached e = λ states answers run k s h here_m.
      let a = at_each states answers run k s h in
      let most = bound_above m c.nodes a.here.number a.node a.here.there (sym a.here.place ∙ here_m) (facts.emptiness.met (known d c.cells a.node) (numbers_in c.cells s) s.b a.here.meets.meets) in
      let both_are : Within most.bound ≡ Unreached = sym most.is ∙ e in
      absurd (cc (both_are))

  claimed_each : (ms : List ℕ) → AllByRecursion (λ (e : ℕ × Bound). Claimed plan price e.0 e.1) (map (λ m. (m, bound_at d c.cells m c.nodes)) ms)
  claimed_each [] = tt
  claimed_each (m ∷ ms) = (claimed m (bound_at d c.cells m c.nodes) refl, claimed_each ms)

  pub suffices : Suffices d plan price c
  suffices = record {
    carried = carried d plan price c facts bounds steps well up local;
    holds = record {
      safe = all_safe;
      markers = All-from_recursion (λ (e : ℕ × Bound). Claimed plan price e.0 e.1) (bounds_of d plan c) (claimed_each plan.markers);
    };
  }
