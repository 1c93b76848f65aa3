-- What filling leaves as it is.
use Rattle.std.proofs.Common.{◌≡◌, ℕ, zero, suc, ◌+◌, ◌<◌, ◌≤◌, ◌||◌, not, Bool, true, false, is_some, List, [], ◌∷◌, ◌++◌, length, take, Option, Some, None, refl, sym, ap, subst, ◌∙◌, arith}
use Rattle.std.specs.Prelude.{IsSome}
use Rattle.std.specs.List.{list_any, AllByRecursion}
use Rattle.std.proofs.lemmas.Bool.{false≢true}
use Rattle.std.proofs.lemmas.List.{length-append, take_all}
use Rattle.num_domain.specs.Domain.{Domain}
use Rattle.memory_plan.specs.Plans.{PlanLines}
use Rattle.flag_relation.specs.Facts.{FactOf}
use Rattle.cert_format.specs.Certificates.{NodeOf, CertificateOf, node_at, no_node, is_bare, with_node}
use Rattle.cert_format.specs.Limits.{IsBelow, IsNode, IsKeptNode, IsKeptCert, IsWithinLimits}
use Rattle.cert_checker.specs.Judged.{IsFull, IsJudged}
use Rattle.cert_checker.specs.Filling.{follows_from, own_or_follows, filled_node, filled_nodes, filled}
use Rattle.cert_checker.proofs.Places.{one_of, all_push, all_parts}
use Rattle.cert_checker.proofs.Listing.{take_more}

pub filled_cells : {T : Type 0} (d : Domain T) (plan : PlanLines) (c : CertificateOf T) → (filled d plan c).cells ≡ c.cells
unfolding filled
filled_cells d plan c = refl

-- ---- bare nodes

or_false : (b c : Bool) → (b || c) ≡ false → (b ≡ false) × (c ≡ false)
or_false true c h = absurd (false≢true (sym h))
or_false false c h = (refl, h)

full_if : {T : Type 0} (o : Option (FactOf T)) → not (is_some o) ≡ false → IsSome o
full_if (Some f) h = refl
full_if None h = absurd (false≢true (sym h))

pub none_bare : {T : Type 0} (ns : List (NodeOf T)) → list_any is_bare ns ≡ false → AllByRecursion IsFull ns
none_bare [] h = tt
none_bare (n ∷ ns) h = let parts = or_false (is_bare n) (list_any is_bare ns) h in (full_if n.fact parts.0, none_bare ns parts.1)

module _ {T : Type 0} (d : Domain T) (plan : PlanLines) where
  -- what follows is read over the cells alone
  pub same_follows : (c e : CertificateOf T) (nodes : List (NodeOf T)) (at : ℕ) (o : Option ℕ) → e.cells ≡ c.cells → follows_from d plan e nodes at o ≡ follows_from d plan c nodes at o
  same_follows c e nodes at None h = rw h refl
  same_follows c e nodes at (Some j) h = rw h refl

  module _ (c : CertificateOf T) where
    pub filled_length : (i : ℕ) → length (filled_nodes d plan c i) ≡ i
    filled_length zero = refl
    filled_length (suc i) =
        let ns = filled_nodes d plan c i in
        let more : length (filled_nodes d plan c (suc i)) ≡ length ns + 1 = length-append ns (filled_node d plan c ns i (node_at c i) ∷ []) in
        let rest = filled_length i in
        omega (arith, more, rest)

    pub all_filled : (i : ℕ) → AllByRecursion IsFull (filled_nodes d plan c i)
    all_filled zero = tt
    all_filled (suc i) = let ns = filled_nodes d plan c i in all_push IsFull ns (filled_node d plan c ns i (node_at c i)) (all_filled i) refl

    -- one node more is filled
    pub one_filled : (done new : CertificateOf T) (i : ℕ) (f : FactOf T) → done ≡ record c { nodes = filled_nodes d plan c i }
        → f ≡ own_or_follows d plan c done.nodes i (node_at c i).addr (node_at c i).fact
        → new ≡ with_node done (record (node_at c i) { fact = Some f }) → new ≡ record c { nodes = filled_nodes d plan c (i + 1) }
    one_filled done new i f is fact more =
        let n = node_at c i in
        let next : suc i ≡ i + 1 = omega arith in
        more
        ∙ ap (λ (g : FactOf T). with_node done (record n { fact = Some g })) fact
        ∙ ap (λ (e : CertificateOf T). with_node e (record n { fact = Some (own_or_follows d plan c e.nodes i n.addr n.fact) })) is
        ∙ ap (λ (m : ℕ). record c { nodes = filled_nodes d plan c m }) next

    pub count_filled : (done : CertificateOf T) (i : ℕ) → done ≡ record c { nodes = filled_nodes d plan c i } → length done.nodes ≡ i
    count_filled done i is = ap (λ (e : CertificateOf T). length e.nodes) is ∙ filled_length i

    pub full_filled : (done : CertificateOf T) (i : ℕ) → done ≡ record c { nodes = filled_nodes d plan c i } → AllByRecursion IsFull done.nodes
    full_filled done i is = subst (λ (e : CertificateOf T). AllByRecursion IsFull e.nodes) (sym is) (all_filled i)

    pub is_filled : (done : CertificateOf T) (i : ℕ) → i ≡ length c.nodes → done ≡ record c { nodes = filled_nodes d plan c i } → done ≡ filled d plan c
    unfolding filled
    is_filled done i h is = is ∙ ap (λ (m : ℕ). record c { nodes = filled_nodes d plan c m }) h

    -- ---- limits

    nodes_in : IsWithinLimits c → (i : ℕ) → i ≤ length c.nodes → AllByRecursion (IsKeptNode (length c.cells)) (filled_nodes d plan c i)
        → AllByRecursion (IsNode (length c.cells) (length c.nodes)) (filled_nodes d plan c i)
    nodes_in l zero h k = tt
    nodes_in l (suc i) h k =
        let ns = filled_nodes d plan c i in
        let n = filled_node d plan c ns i (node_at c i) in
        let parts = all_parts (IsKeptNode (length c.cells)) ns n k in
        let low : i < length c.nodes = omega (arith, h) in
        let old = one_of (IsNode (length c.cells) (length c.nodes)) c.nodes no_node i l.nodes low in
        all_push (IsNode (length c.cells) (length c.nodes)) ns n (nodes_in l i (omega (arith, h)) parts.0)
        (record { addr = old.addr; fact = parts.1.fact; few = old.few; succ = old.succ; rank = old.rank })

    pub filled_judged : IsWithinLimits c → IsKeptCert (filled d plan c) → IsJudged (filled d plan c)
    unfolding filled
    filled_judged l k =
        let count = length c.nodes in
        let same : count ≡ length (filled_nodes d plan c count) = sym (filled_length count) in
        record {
          limits = record {
            few_cells = l.few_cells;
            cells = l.cells;
            few_starts = l.few_starts;
            starts = subst (λ (n : ℕ). AllByRecursion (IsBelow n) c.starts) same l.starts;
            few_nodes = k.few_nodes;
            nodes = subst (λ (n : ℕ). AllByRecursion (IsNode (length c.cells) n) (filled_nodes d plan c count)) same (nodes_in l count (omega arith) k.nodes);
          };
          full = all_filled count;
        }

    pub judged_filled : (full : CertificateOf T) → full ≡ filled d plan c → IsWithinLimits c → IsKeptCert full → IsJudged full
    judged_filled full is l k = subst (λ (e : CertificateOf T). IsJudged e) (sym is) (filled_judged l (subst (λ (e : CertificateOf T). IsKeptCert e) is k))

    -- ---- a certificate without bare nodes

    own_fact : (o : Option (FactOf T)) (nodes : List (NodeOf T)) (i at : ℕ) → IsSome o → Some (own_or_follows d plan c nodes i at o) ≡ o
    own_fact (Some f) nodes i at h = refl
    own_fact None nodes i at h = absurd (false≢true h)

    pub full_stays : (nodes : List (NodeOf T)) (i : ℕ) (n : NodeOf T) → IsFull n → filled_node d plan c nodes i n ≡ n
    full_stays nodes i n h = ap (λ (o : Option (FactOf T)). record n { fact = o }) (own_fact n.fact nodes i n.addr h)

    full_nodes : AllByRecursion IsFull c.nodes → (i : ℕ) → i ≤ length c.nodes → filled_nodes d plan c i ≡ take i c.nodes
    full_nodes full zero h = refl
    full_nodes full (suc i) h =
        let low : i < length c.nodes = omega (arith, h) in
        let ns = filled_nodes d plan c i in
        ap (λ (n : NodeOf T). ns ++ n ∷ []) (full_stays ns i (node_at c i) (one_of IsFull c.nodes no_node i full low))
        ∙ ap (λ (ms : List (NodeOf T)). ms ++ node_at c i ∷ []) (full_nodes full i (omega (arith, h)))
        ∙ sym (take_more c.nodes no_node i low)

    pub filled_full : AllByRecursion IsFull c.nodes → filled d plan c ≡ c
    unfolding filled
    filled_full full = ap (λ (ns : List (NodeOf T)). record c { nodes = ns }) (full_nodes full (length c.nodes) (omega arith) ∙ take_all (length c.nodes) c.nodes (omega arith))
