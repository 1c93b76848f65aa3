-- What local conditions say of one node.
use Rattle.std.proofs.Common.{◌≡◌, ℕ, ◌-◌, ◌^◌, nat_eq, cond, ◌==◌, Bool, true, false, List, [], ◌∷◌, Option, Some, None, refl, sym, ap, ◌∙◌, slice_get, inl, inr}
use Rattle.std.specs.List.{list_all}
use Rattle.std.proofs.lemmas.Bool.{and_parts}
use Rattle.std.proofs.lemmas.Bool.Decides.{Decides-eqb}
use Rattle.std.proofs.lemmas.Option.{none-some, same_Some}
use Rattle.viper_word.proofs.Booleans.{chosen}
use Rattle.num_domain.specs.Domain.{Domain}
use Rattle.viper_word.specs.Machine.{State}
use Rattle.viper_word.specs.Options.{bind}
use Rattle.viper_word.specs.Fields.{fields_of}
use Rattle.memory_plan.specs.Plans.{PlanLines, in_code, word_at}
use Rattle.flag_relation.specs.Facts.{FactOf}
use Rattle.abs_step.proofs.FaultLaws.{no_fault_keeps}
use Rattle.flag_relation.specs.Order.{includes}
use Rattle.flag_relation.specs.Emptiness.{is_empty}
use Rattle.abs_step.specs.OutcomeLists.{OutcomeOf}
use Rattle.abs_step.specs.States.{IsOutcome, SomeOutcome}
use Rattle.abs_step.specs.Conditions.{unless, keeps, is_some, fault, outcomes}
use Rattle.abs_step.specs.declared.outcome.Cond.{Cond}
use Rattle.abs_step.specs.declared.outcome.Cond.TheVariants.{C8, C9, C10, C11}
use Rattle.cert_format.specs.Certificates.{NodeOf}
use Rattle.cert_checker.specs.Nodes.{pick, successor}
use Rattle.cert_checker.specs.Conditions.{earlier, known, includes_after, c8, c9, c10, c11, flow_fault, node_fault}

-- ---- nodes that stand in the list

pub record Stands {T : Type 0} (nodes : List (NodeOf T)) (n : NodeOf T) : Type 0 where
  pub place : ℕ
  pub there : slice_get nodes place ≡ Some n

-- a listed node that stands at the address
pub record StandsAt {T : Type 0} (nodes : List (NodeOf T)) (at : ℕ) (n : NodeOf T) : Type 0 where
  pub stands : Stands nodes n
  pub addr : n.addr ≡ at

pick_stands : {T : Type 0} (nodes : List (NodeOf T)) (j at : ℕ) (others : Option (NodeOf T)) (m : NodeOf T) (o : Option (NodeOf T)) → slice_get nodes j ≡ o
    → (others ≡ Some m → StandsAt nodes at m) → pick at o others ≡ Some m → StandsAt nodes at m
pick_stands nodes j at others m None e more p = more p
pick_stands {T} nodes j at others m (Some n) e more p = elim (chosen (n.addr == at) (Some n) others (Some m) p) [
  | inl h ↦
      let same : n ≡ m = same_Some n m h.1 in
      record {
        stands = record { place = j; there = e ∙ h.1 };
        addr = sym (ap (λ (q : NodeOf T). q.addr) same) ∙ (Decides-eqb n.addr at).0 h.0;
      }
  | inr h ↦ more h.1
]

pub successor_stands : {T : Type 0} (nodes : List (NodeOf T)) (js : List ℕ) (at : ℕ) (m : NodeOf T) → successor nodes js at ≡ Some m → StandsAt nodes at m
successor_stands nodes [] at m h = absurd (none-some m h)
successor_stands nodes (j ∷ js) at m h = pick_stands nodes j at (successor nodes js at) m (slice_get nodes j) refl (successor_stands nodes js at m) h

-- ---- a node without a fault

earlier_none : (o p : Option Cond) → earlier o p ≡ None → (o ≡ None) × (p ≡ None)
earlier_none None p h = (refl, h)
earlier_none (Some c) p h = absurd (none-some c (sym h))

unless_none : (b : Bool) (c : Cond) (o : Option Cond) → unless b c o ≡ None → (b ≡ true) × (o ≡ None)
unless_none true c o h = (refl, h)
unless_none false c o h = absurd (none-some c (sym h))

module _ {T : Type 0} (d : Domain T) (plan : PlanLines) (cells : List ℕ) (price : ℕ → ℕ) (nodes : List (NodeOf T)) where
  pub record Keeps (n : NodeOf T) : Type 0 where
    pub no_fault : fault d plan cells n.addr (known d cells n) ≡ None
    pub flows : c8 d cells nodes n (outcomes d plan cells n.addr (known d cells n)) ≡ true
    pub priced : c9 d plan cells price n ≡ true
    pub falls : c10 d plan cells price nodes n (outcomes d plan cells n.addr (known d cells n)) ≡ true
    pub fits : c11 d plan cells n ≡ true

  -- of a fact that isn't empty
  pub node_keeps : (n : NodeOf T) → is_empty d (known d cells n) ≡ false → node_fault d plan cells price nodes n ≡ None → Keeps n
  unfolding node_fault flow_fault
  node_keeps n live h =
      let os = outcomes d plan cells n.addr (known d cells n) in
      let both = earlier_none (fault d plan cells n.addr (known d cells n)) _ h in
      let a = unless_none (c8 d cells nodes n os) C8 _ (rw live at both.1) in
      let b = unless_none (c9 d plan cells price n) C9 _ a.1 in
      let e = unless_none (c10 d plan cells price nodes n os) C10 _ b.1 in
      let g = unless_none (c11 d plan cells n) C11 None e.1 in
      record { no_fault = both.0; flows = a.0; priced = b.0; falls = e.0; fits = g.0 }

-- ---- a node's address

in_code_if : (b last : Bool) (o : Option ℕ) → is_some (cond last None (bind (cond b o None) (λ w. Some (fields_of w)))) ≡ true → b ≡ true
in_code_if true last o h = refl
in_code_if false true o h = absurd (cc)
in_code_if false false o h = absurd (cc)

pub keeps_in_code : {T : Type 0} (d : Domain T) (plan : PlanLines) (cells : List ℕ) (at : ℕ) (f : FactOf T) → fault d plan cells at f ≡ None → in_code plan at ≡ true
unfolding keeps
keeps_in_code d plan cells at f h =
    in_code_if (in_code plan at) (nat_eq at (2 ^ 20 - 1)) (word_at plan.image at) (no_fault_keeps d plan cells at f h).c1

-- ---- one of the outcomes

-- the outcome of a step, which passes both tests
pub record Passing {T : Type 0} (d : Domain T) (plan : PlanLines) (cells : List ℕ) (s u : State) (p q : OutcomeOf T → Bool) : Type 0 where
  pub outcome : OutcomeOf T
  pub is : IsOutcome d plan cells s u outcome
  pub first : p outcome ≡ true
  pub second : q outcome ≡ true

pub some_passes : {T : Type 0} (d : Domain T) (plan : PlanLines) (cells : List ℕ) (s u : State) (p q : OutcomeOf T → Bool) (os : List (OutcomeOf T))
    → SomeOutcome d plan cells s u os → list_all p os ≡ true → list_all q os ≡ true → Passing d plan cells s u p q
some_passes d plan cells s u p q [] h a b = absurd h
some_passes d plan cells s u p q (o ∷ os) h a b =
    let a' = and_parts (p o) (list_all p os) a in
    let b' = and_parts (q o) (list_all q os) b in
    elim h [
      | inl here ↦ record { outcome = o; is = here; first = a'.0; second = b'.0 }
      | inr later ↦ some_passes d plan cells s u p q os later a'.1 b'.1
    ]

-- ---- the successor of an outcome

-- a node that includes what is known after the outcome
pub record Includes {T : Type 0} (d : Domain T) (cells : List ℕ) (o : OutcomeOf T) (other : Option (NodeOf T)) : Type 0 where
  pub node : NodeOf T
  pub is : other ≡ Some node
  pub included : includes d (known d cells node) o.after ≡ true

pub includes_some : {T : Type 0} (d : Domain T) (cells : List ℕ) (o : OutcomeOf T) (other : Option (NodeOf T)) → includes_after d cells o other ≡ true → Includes d cells o other
includes_some d cells o None h = absurd (cc)
includes_some d cells o (Some m) h = record { node = m; is = refl; included = h }

-- ---- all conditions of a node, from those of its instruction

earlier_of_none : (o p : Option Cond) → o ≡ None → p ≡ earlier o p
earlier_of_none None p h = refl
earlier_of_none (Some c) p h = absurd (none-some c (sym h))

module _ {T : Type 0} (d : Domain T) (plan : PlanLines) (cells : List ℕ) (price : ℕ → ℕ) (nodes : List (NodeOf T)) (n : NodeOf T) where
  from_outcomes : (os : List (OutcomeOf T)) → fault d plan cells n.addr (known d cells n) ≡ None → os ≡ outcomes d plan cells n.addr (known d cells n)
      → flow_fault d plan cells price nodes n os ≡ node_fault d plan cells price nodes n
  unfolding node_fault
  from_outcomes os h e =
      ap (flow_fault d plan cells price nodes n) e
      ∙ earlier_of_none (fault d plan cells n.addr (known d cells n)) (flow_fault d plan cells price nodes n (outcomes d plan cells n.addr (known d cells n))) h

  pub node_fault_is : (cs : List ℕ) (at : ℕ) (f : FactOf T) (os : List (OutcomeOf T)) → cs ≡ cells → at ≡ n.addr → f ≡ known d cells n
      → fault d plan cs at f ≡ None → os ≡ outcomes d plan cs at f → flow_fault d plan cells price nodes n os ≡ node_fault d plan cells price nodes n
  node_fault_is cs at f os ec ea ef h o =
      let fault_is : fault d plan cs at f ≡ fault d plan cells n.addr (known d cells n) = rw (ec, ea, ef) refl in
      let outcomes_are : outcomes d plan cs at f ≡ outcomes d plan cells n.addr (known d cells n) = rw (ec, ea, ef) refl in
      from_outcomes os (sym fault_is ∙ h) (o ∙ outcomes_are)
