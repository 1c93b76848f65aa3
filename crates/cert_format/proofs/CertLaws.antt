-- Certificates: what is read is spelled so, and what is spelled so is read.
use Rattle.std.proofs.Common.{◌≡◌, ℕ, suc, ◌^◌, ◌≤◌, true, false, cond, List, [], ◌∷◌, ◌++◌, length, Option, Some, None, Result, Ok, Err, refl, sym, ap, subst, ◌∙◌, append_assoc, arith, eqb, get_or, ⊎_elim}
use Rattle.std.specs.Int.{w8, w32}
use Rattle.std.specs.List.{flat_map, AllByRecursion}
use Rattle.std.proofs.lemmas.Bool.{eqb-true}
use Rattle.std.proofs.lemmas.List.{append-nil}
use Rattle.viper_word.proofs.Booleans.{chosen}
use Rattle.val_dom.specs.declared.val.Val.{Val}
use Rattle.flag_relation.specs.declared.fact.TheConstants.{MOST_CELLS}
use Rattle.cert_format.specs.declared.fault.Fault.{Fault}
use Rattle.cert_format.specs.declared.version.Version.{Version}
use Rattle.cert_format.specs.declared.version.Version.TheVariants.{One, Two}
use Rattle.cert_format.specs.declared.limits.TheConstants.{MAGIC, MOST_NODES, MOST_STARTS}
use Rattle.cert_format.specs.Certificates.{NodeOf, CertificateOf}
use Rattle.cert_format.specs.Limits.{IsBelow, AreCells, IsNode, IsWithinLimits}
use Rattle.cert_format.specs.Values.{word_bytes}
use Rattle.cert_format.specs.Bare.{first_bare}
use Rattle.cert_format.specs.Spelling.{counted_bytes, version_number, node_bytes, cert_bytes, IsFull, HasSpelling, IsCert}
use Rattle.cert_format.specs.Reading.{◌>>=◌, number_at, many_at}
use Rattle.cert_format.specs.Fields.{count_at, below_at, numbers_at, cells_at}
use Rattle.cert_format.specs.ReadNodes.{Placed, placed_at}
use Rattle.cert_format.specs.ReadCerts.{magic_at, version_at, tracked_at, Heading, heading_at, nodes_of, lefts_of, certificate_of, unless_bare, ended, cert_of, first_fault, fault_of}
use Rattle.cert_format.specs.Laws.{SpellingLaws, OneCertificate, SpelledHasNoFault, FaultlessIsSpelled}
use Rattle.cert_format.specs.evidence.Numbers.{IsBytes, Takes, Takes-then, bind_ok, passed, ok_is, err_not_ok, word_takes, word_again, byte_takes, byte_again, many_takes}
use Rattle.cert_format.proofs.FieldLaws.{count_takes, count_again, below_takes, below_again, numbers_takes, numbers_again, cells_takes, cells_again}
use Rattle.cert_format.proofs.NodeLaws.{IsNodeIn, node_takes, node_again, placed_before}

-- ---- what stands before the nodes

abbrev pub version_of : Heading → List ℕ
version_of h = version_number h.version ∷ []

abbrev pub counts_of : Heading → List ℕ
counts_of h = word_bytes h.count ++ counted_bytes word_bytes h.starts

abbrev pub heading_bytes : Heading → List ℕ
heading_bytes h = word_bytes MAGIC ++ (version_of h ++ (counted_bytes word_bytes h.cells ++ counts_of h))

pub record IsHeading (h : Heading) : Type 0 where
  pub few_cells : length h.cells ≤ MOST_CELLS
  pub cells : AreCells 0 h.cells
  pub few_nodes : h.count ≤ MOST_NODES
  pub few_starts : length h.starts ≤ MOST_STARTS
  pub starts : AllByRecursion (IsBelow h.count) h.starts

magic_takes : (bytes rest : List ℕ) → IsBytes bytes → magic_at bytes ≡ Ok rest → Takes bytes (word_bytes MAGIC) rest
unfolding magic_at
magic_takes bytes rest fits e =
    let n = bind_ok (number_at w32 bytes) (λ n. cond (eqb n.0 MAGIC) (Ok n.1) (Err _)) rest e in
    let t = word_takes bytes n.0 fits n.1 in
    let g = passed (eqb n.0.0 MAGIC) (Ok n.0.1) _ rest n.2 in
    subst (λ (r : List ℕ). Takes bytes (word_bytes MAGIC) r) (ok_is n.0.1 rest g.1) (subst (λ (k : ℕ). Takes bytes (word_bytes k) n.0.1) (eqb-true n.0.0 MAGIC g.0) t.0)

version_takes : (bytes : List ℕ) (x : Version × List ℕ) → IsBytes bytes → version_at bytes ≡ Ok x → Takes bytes (version_number x.0 ∷ []) x.1
unfolding version_at
version_takes bytes x fits e =
    let n = bind_ok (number_at w8 bytes) (λ n. cond (eqb n.0 1) (Ok (One, n.1)) (cond (eqb n.0 2) (Ok (Two, n.1)) (Err _))) x e in
    let t = byte_takes bytes n.0 fits n.1 in
    let at : (v : Version) → eqb n.0.0 (version_number v) ≡ true → Ok (v, n.0.1) ≡ Ok x → Takes bytes (version_number x.0 ∷ []) x.1 =
    λ v b o. subst (λ (y : Version × List ℕ). Takes bytes (version_number y.0 ∷ []) y.1) (ok_is (v, n.0.1) x o) (subst (λ (k : ℕ). Takes bytes (k ∷ []) n.0.1) (eqb-true n.0.0 (version_number v) b) t.0) in
    ⊎_elim
    (λ (p : (eqb n.0.0 1 ≡ true) × (Ok (One, n.0.1) ≡ Ok x)). at One p.0 p.1)
    (λ (p : (eqb n.0.0 1 ≡ false) × (cond (eqb n.0.0 2) (Ok (Two, n.0.1)) (Err _) ≡ Ok x)).
    let g = passed (eqb n.0.0 2) (Ok (Two, n.0.1)) _ x p.1 in at Two g.0 g.1)
    (chosen (eqb n.0.0 1) (Ok (One, n.0.1)) _ (Ok x) n.2)

tracked_takes : (bytes : List ℕ) (x : List ℕ × List ℕ) → IsBytes bytes → tracked_at bytes ≡ Ok x → Takes bytes (counted_bytes word_bytes x.0) x.1 × (length x.0 ≤ MOST_CELLS) × AreCells 0 x.0
unfolding tracked_at counted_bytes
tracked_takes bytes x fits e =
    let n = bind_ok (count_at MOST_CELLS bytes) (λ n. cells_at 0 n.0 n.1) x e in
    let t = count_takes MOST_CELLS bytes n.0 fits n.1 in
    let ts = cells_takes 0 n.0.0 n.0.1 x t.0.rest_fits n.2 in
    let both = Takes-then bytes (n.0.0 ∷ []) n.0.1 (flat_map word_bytes x.0) x.1 t.0 ts.0 in
    (subst (λ (k : ℕ). Takes bytes (k ∷ flat_map word_bytes x.0) x.1) (sym ts.1) both, subst (λ (k : ℕ). k ≤ MOST_CELLS) (sym ts.1) t.1, ts.2)

tracked_again : (cs rest : List ℕ) → length cs ≤ MOST_CELLS → AreCells 0 cs → tracked_at (counted_bytes word_bytes cs ++ rest) ≡ Ok (cs, rest)
unfolding tracked_at counted_bytes
tracked_again cs rest few h = rw (count_again MOST_CELLS (length cs) (flat_map word_bytes cs ++ rest) few) (cells_again 0 cs rest h)

pub heading_takes : (bytes : List ℕ) (z : Heading × List ℕ) → IsBytes bytes → heading_at bytes ≡ Ok z → Takes bytes (heading_bytes z.0) z.1 × IsHeading z.0
unfolding heading_at
heading_takes bytes z fits e =
    let m = bind_ok (magic_at bytes) (λ m. version_at m >>= λ v. tracked_at v.1 >>= λ c. below_at (suc MOST_NODES) c.1 >>= λ n. numbers_at MOST_STARTS n.0 n.1 >>= λ s. Ok (record { version = v.0; cells = c.0; count = n.0; starts = s.0 }, s.1)) z e in
    let v = bind_ok (version_at m.0) (λ v. tracked_at v.1 >>= λ c. below_at (suc MOST_NODES) c.1 >>= λ n. numbers_at MOST_STARTS n.0 n.1 >>= λ s. Ok (record { version = v.0; cells = c.0; count = n.0; starts = s.0 }, s.1)) z m.2 in
    let c = bind_ok (tracked_at v.0.1) (λ c. below_at (suc MOST_NODES) c.1 >>= λ n. numbers_at MOST_STARTS n.0 n.1 >>= λ s. Ok (record { version = v.0.0; cells = c.0; count = n.0; starts = s.0 }, s.1)) z v.2 in
    let n = bind_ok (below_at (suc MOST_NODES) c.0.1) (λ n. numbers_at MOST_STARTS n.0 n.1 >>= λ s. Ok (record { version = v.0.0; cells = c.0.0; count = n.0; starts = s.0 }, s.1)) z c.2 in
    let s = bind_ok (numbers_at MOST_STARTS n.0.0 n.0.1) (λ s. Ok (record { version = v.0.0; cells = c.0.0; count = n.0.0; starts = s.0 }, s.1)) z n.2 in
    let t0 = magic_takes bytes m.0 fits m.1 in
    let t1 = version_takes m.0 v.0 t0.rest_fits v.1 in
    let t2 = tracked_takes v.0.1 c.0 t1.rest_fits c.1 in
    let t3 = below_takes (suc MOST_NODES) c.0.1 n.0 t2.0.rest_fits n.1 in
    let low = t3.1 in
    let t4 = numbers_takes MOST_STARTS n.0.0 n.0.1 s.0 (omega arith) t3.0.rest_fits s.1 in
    let e3 = Takes-then c.0.1 (word_bytes n.0.0) n.0.1 (counted_bytes word_bytes s.0.0) s.0.1 t3.0 t4.0 in
    let e2 = Takes-then v.0.1 (counted_bytes word_bytes c.0.0) c.0.1 _ s.0.1 t2.0 e3 in
    let e1 = Takes-then m.0 (version_number v.0.0 ∷ []) v.0.1 _ s.0.1 t1 e2 in
    let e0 = Takes-then bytes (word_bytes MAGIC) m.0 _ s.0.1 t0 e1 in
    let made : Heading × List ℕ = (record { version = v.0.0; cells = c.0.0; count = n.0.0; starts = s.0.0 }, s.0.1) in
    let within : IsHeading made.0 = record { few_cells = t2.1; cells = t2.2; few_nodes = omega arith; few_starts = t4.1; starts = t4.2 } in
    subst (λ (w : Heading × List ℕ). Takes bytes (heading_bytes w.0) w.1 × IsHeading w.0) (ok_is made z s.2) (e0, within)

version_again : (v : Version) (rest : List ℕ) → version_at (version_number v ∷ rest) ≡ Ok (v, rest)
unfolding version_at
version_again One rest = rw (byte_again 1 rest) refl
version_again Two rest = rw (byte_again 2 rest) refl

magic_again : (rest : List ℕ) → magic_at (word_bytes MAGIC ++ rest) ≡ Ok rest
unfolding magic_at
magic_again rest = rw (word_again MAGIC rest (omega arith)) refl

pub heading_again : (h : Heading) (rest : List ℕ) → IsHeading h → heading_at (heading_bytes h ++ rest) ≡ Ok (h, rest)
unfolding heading_at
heading_again h rest i =
    let low = i.few_nodes in
    let starts = counted_bytes word_bytes h.starts ++ rest in
    let counts = word_bytes h.count ++ starts in
    let cells = counted_bytes word_bytes h.cells ++ counts in
    let regrouped : heading_bytes h ++ rest ≡ word_bytes MAGIC ++ (version_number h.version ∷ cells) = parts (word_bytes MAGIC) (version_of h) (counted_bytes word_bytes h.cells) (word_bytes h.count) (counted_bytes word_bytes h.starts) rest in
    ap heading_at regrouped ∙ rw (magic_again (version_number h.version ∷ cells), version_again h.version cells, tracked_again h.cells counts i.few_cells i.cells, below_again (suc MOST_NODES) h.count starts (omega arith) (omega arith), numbers_again MOST_STARTS h.count h.starts rest (omega arith) i.few_starts i.starts) refl
  where
    parts : (m v c n s rest : List ℕ) → (m ++ (v ++ (c ++ (n ++ s)))) ++ rest ≡ m ++ (v ++ (c ++ (n ++ (s ++ rest))))
    parts m v c n s rest = simp append_assoc

-- ---- the nodes

flat_nodes : (v : Version) (ps : List Placed) → flat_map (λ (p : Placed). node_bytes v p.node) ps ≡ flat_map (node_bytes v) (nodes_of ps)
flat_nodes v [] = refl
flat_nodes v (p ∷ ps) = ap (λ (t : List ℕ). node_bytes v p.node ++ t) (flat_nodes v ps)

all_nodes : (P : NodeOf Val → Type 0) (ps : List Placed) → AllByRecursion (λ (p : Placed). P p.node) ps → AllByRecursion P (nodes_of ps)
all_nodes P [] h = tt
all_nodes P (p ∷ ps) h = (h.0, all_nodes P ps h.1)

as_many : (ps : List Placed) → length (nodes_of ps) ≡ length ps
as_many [] = refl
as_many (p ∷ ps) = ap suc (as_many ps)

pub nodes_take : (v : Version) (cells count n : ℕ) (bytes : List ℕ) (z : List Placed × List ℕ) → cells ≤ 32 → count ≤ 2 ^ 32 → IsBytes bytes → many_at (placed_at v cells count) n bytes ≡ Ok z
    → Takes bytes (flat_map (node_bytes v) (nodes_of z.0)) z.1 × (length (nodes_of z.0) ≡ n) × AllByRecursion (IsNodeIn v cells count) (nodes_of z.0)
nodes_take v cells count n bytes z few low fits e =
    let t = many_takes (placed_at v cells count) (λ p. node_bytes v p.node) (λ p. IsNodeIn v cells count p.node) (node_takes v cells count few low) n bytes z fits e in
    (subst (λ (u : List ℕ). Takes bytes u z.1) (flat_nodes v z.0) t.0, as_many z.0 ∙ t.1, all_nodes (IsNodeIn v cells count) z.0 t.2)

-- the nodes as they are read
abbrev pub placed_all : Version → List (NodeOf Val) → List ℕ → List Placed
placed_all v [] rest = []
placed_all v (n ∷ ns) rest = placed_before v n (flat_map (node_bytes v) ns ++ rest) ∷ placed_all v ns rest

nodes_placed : (v : Version) (ns : List (NodeOf Val)) (rest : List ℕ) → nodes_of (placed_all v ns rest) ≡ ns
nodes_placed v [] rest = refl
nodes_placed v (n ∷ ns) rest = ap (λ (ms : List (NodeOf Val)). n ∷ ms) (nodes_placed v ns rest)

pub nodes_again : (v : Version) (cells count : ℕ) (ns : List (NodeOf Val)) (rest : List ℕ) → count ≤ 2 ^ 32 → AllByRecursion (IsNodeIn v cells count) ns
    → many_at (placed_at v cells count) (length ns) (flat_map (node_bytes v) ns ++ rest) ≡ Ok (placed_all v ns rest, rest)
unfolding many_at
nodes_again v cells count [] rest low h = refl
nodes_again v cells count (n ∷ ns) rest low h =
    let later = flat_map (node_bytes v) ns ++ rest in
    let regrouped : flat_map (node_bytes v) (n ∷ ns) ++ rest ≡ node_bytes v n ++ later = append_assoc (node_bytes v n) (flat_map (node_bytes v) ns) rest in
    ap (many_at (placed_at v cells count) (suc (length ns))) regrouped ∙ rw (node_again v cells count n later low h.0, nodes_again v cells count ns rest low h.1) refl

in_limits : (v : Version) (cells count : ℕ) (ns : List (NodeOf Val)) → AllByRecursion (IsNodeIn v cells count) ns → AllByRecursion (IsNode cells count) ns
in_limits v cells count [] h = tt
in_limits v cells count (n ∷ ns) h = (h.0.limits, in_limits v cells count ns h.1)

all_full : (cells count : ℕ) (ns : List (NodeOf Val)) → AllByRecursion (IsNodeIn One cells count) ns → AllByRecursion IsFull ns
all_full cells count [] h = tt
all_full cells count (n ∷ ns) h = (h.0.known, all_full cells count ns h.1)

spelling_from : (v : Version) (cells count : ℕ) (c : CertificateOf Val) → AllByRecursion (IsNodeIn v cells count) c.nodes → HasSpelling v c
spelling_from One cells count c h = all_full cells count c.nodes h
spelling_from Two cells count c h = tt

nodes_in : (v : Version) (cells count : ℕ) (c : CertificateOf Val) → HasSpelling v c → AllByRecursion (IsNode cells count) c.nodes → AllByRecursion (IsNodeIn v cells count) c.nodes
nodes_in One cells count c s h = first cells count c.nodes s h
  where
    first : (cells count : ℕ) (ns : List (NodeOf Val)) → AllByRecursion IsFull ns → AllByRecursion (IsNode cells count) ns → AllByRecursion (IsNodeIn One cells count) ns
    first cells count [] s h = tt
    first cells count (n ∷ ns) s h = (record { limits = h.0; known = s.0 }, first cells count ns s.1 h.1)
nodes_in Two cells count c s h = second cells count c.nodes h
  where
    second : (cells count : ℕ) (ns : List (NodeOf Val)) → AllByRecursion (IsNode cells count) ns → AllByRecursion (IsNodeIn Two cells count) ns
    second cells count [] h = tt
    second cells count (n ∷ ns) h = (record { limits = h.0; known = tt }, second cells count ns h.1)

-- ---- certificates

bare_passed : (o : Option ℕ) (ps : List ℕ) (c d : CertificateOf Val) → unless_bare o ps c ≡ Ok d → (o ≡ None) × (c ≡ d)
bare_passed None ps c d e = (refl, ok_is c d e)
bare_passed (Some i) ps c d e = err_not_ok _ d e

nothing_left : (xs : List ℕ) → eqb (length xs) 0 ≡ true → xs ≡ []
nothing_left [] h = refl
nothing_left (x ∷ xs) h = let e = eqb-true (suc (length xs)) 0 h in absurd (omega arith)

abbrev heading_of : Version → CertificateOf Val → Heading
heading_of v c = record { version = v; cells = c.cells; count = length c.nodes; starts = c.starts }

spelled_parts : (v : Version) (c : CertificateOf Val) → heading_bytes (heading_of v c) ++ flat_map (node_bytes v) c.nodes ≡ cert_bytes v c
unfolding cert_bytes
spelled_parts v c = parts (word_bytes MAGIC) (version_number v ∷ []) (counted_bytes word_bytes c.cells) (word_bytes (length c.nodes)) (counted_bytes word_bytes c.starts) (flat_map (node_bytes v) c.nodes)
  where
    parts : (m v c n s rest : List ℕ) → (m ++ (v ++ (c ++ (n ++ s)))) ++ rest ≡ m ++ (v ++ (c ++ (n ++ (s ++ rest))))
    parts m v c n s rest = simp append_assoc

-- a heading that is read has as many nodes as are read after it
same_heading : (h : Heading) (c : CertificateOf Val) → c.cells ≡ h.cells → length c.nodes ≡ h.count → c.starts ≡ h.starts → heading_of h.version c ≡ h
same_heading h c a b d = rw (a, b, d) refl

pub cert_takes : (bytes : List ℕ) (c : CertificateOf Val) → IsBytes bytes → cert_of bytes ≡ Ok c → (v : Version) × IsCert v bytes c
unfolding cert_of ended
cert_takes bytes c fits e =
    let h = bind_ok (heading_at bytes) (λ h. many_at (placed_at h.0.version (length h.0.cells) h.0.count) h.0.count h.1 >>= λ n. ended (certificate_of h.0 n.0) (lefts_of n.0) n.1) c e in
    let k = h.0.0 in
    let n = bind_ok (many_at (placed_at k.version (length k.cells) k.count) k.count h.0.1) (λ n. ended (certificate_of k n.0) (lefts_of n.0) n.1) c h.2 in
    let made = certificate_of k n.0.0 in
    let g = passed (eqb (length n.0.1) 0) (unless_bare (first_bare made) (lefts_of n.0.0) made) _ c n.2 in
    let b = bare_passed (first_bare made) (lefts_of n.0.0) made c g.1 in
    let t0 = heading_takes bytes h.0 fits h.1 in
    let i = t0.1 in
    let low = i.few_nodes in
    let t1 = nodes_take k.version (length k.cells) k.count k.count h.0.1 n.0 i.few_cells (omega arith) t0.0.rest_fits n.1 in
    let len : length made.nodes ≡ k.count = t1.1 in
    let all : bytes ≡ (heading_bytes k ++ flat_map (node_bytes k.version) made.nodes) ++ n.0.1 = (Takes-then bytes (heading_bytes k) h.0.1 (flat_map (node_bytes k.version) made.nodes) n.0.1 t0.0 t1.0).parts in
    let whole : bytes ≡ heading_bytes k ++ flat_map (node_bytes k.version) made.nodes = all ∙ ap (λ (r : List ℕ). (heading_bytes k ++ flat_map (node_bytes k.version) made.nodes) ++ r) (nothing_left n.0.1 g.0) ∙ append-nil (heading_bytes k ++ flat_map (node_bytes k.version) made.nodes) in
    let is : bytes ≡ cert_bytes k.version made = whole ∙ ap (λ (j : Heading). heading_bytes j ++ flat_map (node_bytes k.version) made.nodes) (sym (same_heading k made refl len refl)) ∙ spelled_parts k.version made in
    let limits : IsWithinLimits made = record {
      few_cells = i.few_cells;
      cells = i.cells;
      few_starts = i.few_starts;
      starts = subst (λ (m : ℕ). AllByRecursion (IsBelow m) k.starts) (sym len) i.starts;
      few_nodes = subst (λ (m : ℕ). m ≤ MOST_NODES) (sym len) i.few_nodes;
      nodes = subst (λ (m : ℕ). AllByRecursion (IsNode (length k.cells) m) made.nodes) (sym len) (in_limits k.version (length k.cells) k.count made.nodes t1.2);
    } in
    let cert : IsCert k.version bytes made = record { limits = limits; bare = b.0; version = spelling_from k.version (length k.cells) k.count made t1.2; is = is } in
    (k.version, subst (λ (d : CertificateOf Val). IsCert k.version bytes d) b.1 cert)

same_certificate : (c : CertificateOf Val) (ns : List (NodeOf Val)) → ns ≡ c.nodes → record { cells = c.cells; starts = c.starts; nodes = ns } ≡ c
same_certificate c ns e = rw e refl

bare_again : (o : Option ℕ) (ps : List ℕ) (c : CertificateOf Val) → o ≡ None → unless_bare o ps c ≡ Ok c
bare_again None ps c e = refl
bare_again (Some i) ps c e = absurd (cc)

pub cert_again : (v : Version) (bytes : List ℕ) (c : CertificateOf Val) → IsCert v bytes c → cert_of bytes ≡ Ok c
unfolding cert_of ended
cert_again v bytes c i =
    let l = i.limits in
    let low = l.few_nodes in
    let h = heading_of v c in
    let ps = placed_all v c.nodes [] in
    let made = certificate_of h ps in
    let tail = flat_map (node_bytes v) c.nodes ++ [] in
    let same : made ≡ c = same_certificate c (nodes_of ps) (nodes_placed v c.nodes []) in
    let spelled : bytes ≡ heading_bytes h ++ tail = i.is ∙ sym (spelled_parts v c) ∙ ap (λ (r : List ℕ). heading_bytes h ++ r) (sym (append-nil (flat_map (node_bytes v) c.nodes))) in
    let bare : unless_bare (first_bare made) (lefts_of ps) made ≡ Ok made = bare_again (first_bare made) (lefts_of ps) made (ap first_bare same ∙ i.bare) in
    ap cert_of spelled ∙ rw (heading_again h tail (record { few_cells = l.few_cells; cells = l.cells; few_nodes = low; few_starts = l.few_starts; starts = l.starts }), nodes_again v (length c.cells) (length c.nodes) c.nodes [] (omega arith) (nodes_in v (length c.cells) (length c.nodes) c i.version l.nodes)) (bare ∙ ap (λ (d : CertificateOf Val). Ok d) same)

-- ---- the laws

fifth : (v : Version) (c : CertificateOf Val) → get_or (cert_bytes v c) 4 0 ≡ version_number v
unfolding cert_bytes word_bytes
fifth v c = refl

same_version : (v w : Version) → version_number v ≡ version_number w → v ≡ w
same_version One One e = refl
same_version One Two e = absurd (omega arith)
same_version Two One e = absurd (omega arith)
same_version Two Two e = refl

one_certificate : OneCertificate
one_certificate bytes v w c d i j =
    (same_version v w (sym (fifth v c) ∙ ap (λ (b : List ℕ). get_or b 4 0) (sym i.is ∙ j.is) ∙ fifth w d), ok_is c d (sym (cert_again v bytes c i) ∙ cert_again w bytes d j))

spelled_no_fault : SpelledHasNoFault
unfolding first_fault
spelled_no_fault bytes v c i = ap (fault_of bytes) (cert_again v bytes c i)

faultless : FaultlessIsSpelled
unfolding first_fault
faultless bytes fits e = from (cert_of bytes) refl e
  where
    from : (r : Result (CertificateOf Val) Fault) → cert_of bytes ≡ r → fault_of bytes r ≡ None → (v : Version) × (c : CertificateOf Val) × IsCert v bytes c
    from (Ok c) at none = let t = cert_takes bytes c fits at in (t.0, c, t.1)
    from (Err f) at none = absurd (cc)

pub spelling_laws : SpellingLaws
spelling_laws = record { one_certificate = one_certificate; spelled = spelled_no_fault; faultless = faultless }
