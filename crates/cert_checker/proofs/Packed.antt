-- What packing leaves as it is, and that filling undoes it.
use Rattle.std.proofs.Common.{◌≡◌, ℕ, zero, suc, ◌+◌, ◌<◌, ◌≤◌, ◌==◌, ◌&&◌, ◌||◌, not, Bool, true, false, is_some, if◌then◌else◌, List, [], ◌∷◌, ◌++◌, length, take, get_or, Option, Some, None, refl, sym, ap, ap₂, subst, ◌∙◌, arith, zero-add}
use Rattle.std.specs.Prelude.{IsSome}
use Rattle.std.specs.List.{list_any, list_all, AllByRecursion}
use Rattle.std.proofs.lemmas.Bool.{and_parts, false≢true}
use Rattle.std.proofs.lemmas.List.{take_all, get_or-take, length-take-le}
use Rattle.num_domain.specs.Domain.{Domain}
use Rattle.memory_plan.specs.Plans.{PlanLines}
use Rattle.flag_relation.specs.Facts.{FactOf}
use Rattle.flag_relation.specs.Order.{includes}
use Rattle.flag_relation.specs.Laws.{FactLaws}
use Rattle.abs_step.specs.Conditions.{fault, outcomes}
use Rattle.abs_step.specs.declared.outcome.Cond.{Cond}
use Rattle.cert_format.specs.Certificates.{NodeOf, CertificateOf, node_at, no_node, with_node}
use Rattle.cert_format.specs.Limits.{IsBelow, IsNode, IsWithinLimits}
use Rattle.cert_format.specs.Bare.{times, listed, may_be_bare, is_rightly_bare, first_bare_from, AreRightlyBare}
use Rattle.cert_checker.specs.Judged.{IsFull}
use Rattle.cert_checker.specs.Conditions.{is_data, fact_or_top, known}
use Rattle.cert_checker.specs.Filling.{lister, arrivals, joined, no_fault, follows, follows_from, filled_node, filled_nodes, filled}
use Rattle.cert_checker.specs.Packing.{are_equal, bare_if, is_from, is_told, packed_nodes, packed}
use Rattle.cert_checker.proofs.Places.{one_of}
use Rattle.cert_checker.proofs.Listing.{take_more}
use Rattle.cert_checker.proofs.Before.{lister_below}
use Rattle.cert_checker.proofs.Filled.{full_stays}

-- ---- one node

succ_kept : {T : Type 0} (b : Bool) (n : NodeOf T) → (bare_if b n).succ ≡ n.succ
succ_kept true n = refl
succ_kept false n = refl

bare_in : {T : Type 0} (cells count : ℕ) (b : Bool) (n : NodeOf T) → IsNode cells count n → IsNode cells count (bare_if b n)
bare_in cells count true n h = record { addr = h.addr; fact = tt; few = h.few; succ = h.succ; rank = h.rank }
bare_in cells count false n h = h

own : {T : Type 0} (d : Domain T) (cells : List ℕ) (o : Option (FactOf T)) → IsSome o → Some (fact_or_top d cells o) ≡ o
own d cells (Some f) h = refl
own d cells None h = absurd (false≢true h)

equal_are : {T : Type 0} (d : Domain T) → FactLaws d → (f g : FactOf T) → are_equal d f g ≡ true → f ≡ g
equal_are d laws f g h =
    let p = and_parts (includes d f g) (includes d g f) h in
    laws.order.antisym f g ((laws.order.test f g).0 p.1) ((laws.order.test g f).0 p.0)

module _ {T : Type 0} (d : Domain T) (plan : PlanLines) (c : CertificateOf T) where
  -- ---- all nodes

  listed_kept : (i k : ℕ) (ns : List (NodeOf T)) → listed i (packed_nodes d plan c k ns) ≡ listed i ns
  listed_kept i k [] = refl
  listed_kept i k (n ∷ ns) = ap₂ (λ (a b : ℕ). a + b) (ap (times i) (succ_kept (is_told d plan c k n) n)) (listed_kept i (suc k) ns)

  lister_kept : (i j k : ℕ) (ns : List (NodeOf T)) → lister i j (packed_nodes d plan c k ns) ≡ lister i j ns
  lister_kept i j k [] = refl
  lister_kept i j k (n ∷ ns) =
      ap₂ (λ (b : Bool) (o : Option ℕ). if b then Some j else o) (ap (λ (ss : List ℕ). list_any (λ s. s == i) ss) (succ_kept (is_told d plan c k n) n)) (lister_kept i (j + 1) (suc k) ns)

  take_kept : (m k : ℕ) (ns : List (NodeOf T)) → take m (packed_nodes d plan c k ns) ≡ packed_nodes d plan c k (take m ns)
  take_kept zero k ns = refl
  take_kept (suc m) k [] = refl
  take_kept (suc m) k (n ∷ ns) = ap (λ (ms : List (NodeOf T)). bare_if (is_told d plan c k n) n ∷ ms) (take_kept m (suc k) ns)

  pub length_kept : (k : ℕ) (ns : List (NodeOf T)) → length (packed_nodes d plan c k ns) ≡ length ns
  length_kept k [] = refl
  length_kept k (n ∷ ns) = ap (λ (m : ℕ). suc m) (length_kept (suc k) ns)

  node_kept : (i k : ℕ) (ns : List (NodeOf T)) → i < length ns
      → get_or (packed_nodes d plan c k ns) i no_node ≡ bare_if (is_told d plan c (k + i) (get_or ns i no_node)) (get_or ns i no_node)
  node_kept i k [] h = absurd (omega (arith, h))
  node_kept zero k (n ∷ ns) h = ap (λ (m : ℕ). bare_if (is_told d plan c m n) n) (omega arith)
  node_kept (suc i) k (n ∷ ns) h =
      let m = get_or ns i no_node in
      node_kept i (suc k) ns (omega (arith, h)) ∙ ap (λ (j : ℕ). bare_if (is_told d plan c j m) m) (omega arith)

  one_packed : (k : ℕ) (ns : List (NodeOf T)) (n : NodeOf T)
      → packed_nodes d plan c k (ns ++ n ∷ []) ≡ packed_nodes d plan c k ns ++ bare_if (is_told d plan c (k + length ns) n) n ∷ []
  one_packed k [] n = ap (λ (m : ℕ). bare_if (is_told d plan c m n) n ∷ []) (omega arith)
  one_packed k (m ∷ ns) n =
      ap (λ (ms : List (NodeOf T)). bare_if (is_told d plan c k m) m ∷ ms)
      (one_packed (suc k) ns n ∙ ap (λ (j : ℕ). packed_nodes d plan c (suc k) ns ++ bare_if (is_told d plan c j n) n ∷ []) (omega arith))

  -- the nodes up to one, and that one
  pub packed_more : (i : ℕ) → i < length c.nodes
      → packed_nodes d plan c 0 (take (suc i) c.nodes) ≡ packed_nodes d plan c 0 (take i c.nodes) ++ bare_if (is_told d plan c i (node_at c i)) (node_at c i) ∷ []
  packed_more i h =
      let n = node_at c i in
      let len : length (take i c.nodes) ≡ i = length-take-le i c.nodes (omega (arith, h)) in
      ap (packed_nodes d plan c 0) (take_more c.nodes no_node i h)
      ∙ one_packed 0 (take i c.nodes) n
      ∙ ap (λ (j : ℕ). packed_nodes d plan c 0 (take i c.nodes) ++ bare_if (is_told d plan c j n) n ∷ []) (omega (arith, len))

  pub packed_length : (i : ℕ) → i ≤ length c.nodes → length (packed_nodes d plan c 0 (take i c.nodes)) ≡ i
  packed_length i h = length_kept 0 (take i c.nodes) ∙ length-take-le i c.nodes h

  pub packed_all : (i : ℕ) → length c.nodes ≤ i → record c { nodes = packed_nodes d plan c 0 (take i c.nodes) } ≡ packed d plan c
  unfolding packed
  packed_all i h = ap (λ (ns : List (NodeOf T)). record c { nodes = packed_nodes d plan c 0 ns }) (take_all i c.nodes h)

  pub one_more_packed : (done new : CertificateOf T) (i : ℕ) (b : Bool) → i < length c.nodes → done ≡ record c { nodes = packed_nodes d plan c 0 (take i c.nodes) }
      → b ≡ is_told d plan c i (node_at c i) → new ≡ with_node done (bare_if b (node_at c i)) → new ≡ record c { nodes = packed_nodes d plan c 0 (take (i + 1) c.nodes) }
  one_more_packed done new i b low is told more =
      let n = node_at c i in
      let next : suc i ≡ i + 1 = omega arith in
      more
      ∙ ap (λ (t : Bool). with_node done (bare_if t n)) told
      ∙ ap (λ (e : CertificateOf T). with_node e (bare_if (is_told d plan c i n) n)) is
      ∙ ap (λ (ns : List (NodeOf T)). record c { nodes = ns }) (sym (packed_more i low))
      ∙ ap (λ (m : ℕ). record c { nodes = packed_nodes d plan c 0 (take m c.nodes) }) next

  pub count_packed : (done : CertificateOf T) (i : ℕ) → i ≤ length c.nodes → done ≡ record c { nodes = packed_nodes d plan c 0 (take i c.nodes) } → length done.nodes ≡ i
  count_packed done i h is = ap (λ (e : CertificateOf T). length e.nodes) is ∙ packed_length i h

  -- ---- limits

  all_in : (count k : ℕ) (ns : List (NodeOf T)) → AllByRecursion (IsNode (length c.cells) count) ns → AllByRecursion (IsNode (length c.cells) count) (packed_nodes d plan c k ns)
  all_in count k [] h = tt
  all_in count k (n ∷ ns) h = (bare_in (length c.cells) count (is_told d plan c k n) n h.0, all_in count (suc k) ns h.1)

  pub packed_within : IsWithinLimits c → IsWithinLimits (packed d plan c)
  unfolding packed
  packed_within l =
      let same : length c.nodes ≡ length (packed_nodes d plan c 0 c.nodes) = sym (length_kept 0 c.nodes) in
      record {
        few_cells = l.few_cells;
        cells = l.cells;
        few_starts = l.few_starts;
        starts = subst (λ (n : ℕ). AllByRecursion (IsBelow n) c.starts) same l.starts;
        few_nodes = omega (arith, same, l.few_nodes);
        nodes = subst (λ (n : ℕ). AllByRecursion (IsNode (length c.cells) n) (packed_nodes d plan c 0 c.nodes)) same (all_in (length c.nodes) 0 c.nodes l.nodes);
      }

  -- ---- the rule Bare

  abbrev small : CertificateOf T
  small = record c { nodes = packed_nodes d plan c 0 c.nodes }

  may_still : (i : ℕ) → may_be_bare small i ≡ may_be_bare c i
  may_still i =
      ap₂ (λ (a b : ℕ). (times i c.starts == 0) && ((a == 1) && (b == 1))) (listed_kept i 0 c.nodes)
      (ap (listed i) (take_kept i 0 c.nodes) ∙ listed_kept i 0 (take i c.nodes))

  right_if : (i : ℕ) (n : NodeOf T) (b : Bool) → is_told d plan c i n ≡ b → IsFull n → is_rightly_bare small i (bare_if b n) ≡ true
  right_if i n true e h =
      let told = and_parts (may_be_bare c i) (is_from d plan c (known d c.cells n) n.addr (lister i 0 (take i c.nodes))) e in
      may_still i ∙ told.0
  right_if i n false e h = full_right n.fact h
    where
      full_right : (o : Option (FactOf T)) → IsSome o → (not (not (is_some o)) || may_be_bare small i) ≡ true
      full_right (Some f) h = refl
      full_right None h = absurd (false≢true h)

  none_wrong : (k : ℕ) (ns : List (NodeOf T)) → AllByRecursion IsFull ns → first_bare_from small k (packed_nodes d plan c k ns) ≡ None
  unfolding first_bare_from
  none_wrong k [] h = refl
  none_wrong k (n ∷ ns) h = rw (right_if k n (is_told d plan c k n) refl h.0) (none_wrong (suc k) ns h.1)

  pub packed_rightly : AllByRecursion IsFull c.nodes → AreRightlyBare (packed d plan c)
  unfolding packed
  packed_rightly full = none_wrong 0 c.nodes full

  -- ---- what follows where nothing fails

  -- where no condition fails, what follows is the join of what arrives
  pub from_joined : (f : FactOf T) (at j : ℕ) → list_all (λ a. is_data plan a) c.cells ≡ true → fault d plan c.cells (node_at c j).addr (known d c.cells (node_at c j)) ≡ None
      → is_from d plan c f at (Some j) ≡ are_equal d f (joined d c.cells (arrivals at (outcomes d plan c.cells (node_at c j).addr (known d c.cells (node_at c j)))))
  unfolding follows
  from_joined f at j h e = rw (h, e) refl

  pub from_fault : (f : FactOf T) (at j : ℕ) (k : Cond) → list_all (λ a. is_data plan a) c.cells ≡ true → fault d plan c.cells (node_at c j).addr (known d c.cells (node_at c j)) ≡ Some k
      → false ≡ is_from d plan c f at (Some j)
  from_fault f at j k h e = rw (h, e) refl

  pub from_no_data : (f : FactOf T) (at j : ℕ) → list_all (λ a. is_data plan a) c.cells ≡ false → false ≡ is_from d plan c f at (Some j)
  from_no_data f at j h = rw h refl

  -- ---- filling undoes it

  record From (f : FactOf T) (at : ℕ) (o : Option ℕ) : Type 0 where
    j : ℕ
    is : o ≡ Some j
    fact : f ≡ follows d plan c.cells (node_at c j).addr (known d c.cells (node_at c j)) at

  from_is : FactLaws d → (f : FactOf T) (at : ℕ) (o : Option ℕ) → is_from d plan c f at o ≡ true → From f at o
  from_is laws f at None h = absurd (false≢true h)
  from_is laws f at (Some j) h =
      let n = node_at c j in
      let g = follows d plan c.cells n.addr (known d c.cells n) at in
      let p = and_parts (list_all (λ a. is_data plan a) c.cells && no_fault (fault d plan c.cells n.addr (known d c.cells n))) (are_equal d f g) h in
      record { j = j; is = refl; fact = equal_are d laws f g p.1 }

  one_again : FactLaws d → (i : ℕ) → i < length c.nodes → (n : NodeOf T) → IsFull n → (b : Bool) → is_told d plan c i n ≡ b → filled_node d plan small (take i c.nodes) i (bare_if b n) ≡ n
  one_again laws i low n full false e = full_stays d plan small (take i c.nodes) i n full
  one_again laws i low n full true e =
      let first = lister i 0 (take i c.nodes) in
      let told = and_parts (may_be_bare c i) (is_from d plan c (known d c.cells n) n.addr first) e in
      let from = from_is laws (known d c.cells n) n.addr first told.1 in
      let len : length (take i c.nodes) ≡ i = length-take-le i c.nodes (omega (arith, low)) in
      let under = lister_below i 0 from.j (take i c.nodes) from.is in
      let before : from.j < i = omega (arith, len, under) in
      let lists_it : lister i 0 (take i small.nodes) ≡ Some from.j = ap (lister i 0) (take_kept i 0 c.nodes) ∙ lister_kept i 0 0 (take i c.nodes) ∙ from.is in
      let there : get_or (take i c.nodes) from.j no_node ≡ node_at c from.j = get_or-take i c.nodes from.j no_node before in
      ap (λ (o : Option ℕ). record n { fact = Some (follows_from d plan small (take i c.nodes) n.addr o) }) lists_it
      ∙ ap (λ (m : NodeOf T). record n { fact = Some (follows d plan c.cells m.addr (known d c.cells m) n.addr) }) there
      ∙ ap (λ (f : FactOf T). record n { fact = Some f }) (sym from.fact)
      ∙ ap (λ (o : Option (FactOf T)). record n { fact = o }) (own d c.cells n.fact full)

  all_again : FactLaws d → AllByRecursion IsFull c.nodes → (i : ℕ) → i ≤ length c.nodes → filled_nodes d plan small i ≡ take i c.nodes
  all_again laws full zero h = refl
  all_again laws full (suc i) h =
      let low : i < length c.nodes = omega (arith, h) in
      let n = node_at c i in
      let at : node_at small i ≡ bare_if (is_told d plan c i n) n = node_kept i 0 c.nodes low ∙ ap (λ (m : ℕ). bare_if (is_told d plan c m n) n) (zero-add i) in
      ap (λ (ns : List (NodeOf T)). ns ++ filled_node d plan small ns i (node_at small i) ∷ []) (all_again laws full i (omega (arith, h)))
      ∙ ap (λ (m : NodeOf T). take i c.nodes ++ filled_node d plan small (take i c.nodes) i m ∷ []) at
      ∙ ap (λ (m : NodeOf T). take i c.nodes ++ m ∷ []) (one_again laws i low n (one_of IsFull c.nodes no_node i full low) (is_told d plan c i n) refl)
      ∙ sym (take_more c.nodes no_node i low)

  pub undone : FactLaws d → AllByRecursion IsFull c.nodes → filled d plan (packed d plan c) ≡ c
  unfolding filled packed
  undone laws full =
      ap (λ (ns : List (NodeOf T)). record c { nodes = ns })
      (ap (filled_nodes d plan small) (length_kept 0 c.nodes) ∙ all_again laws full (length c.nodes) (omega arith) ∙ take_all (length c.nodes) c.nodes (omega arith))
