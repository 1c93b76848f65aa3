-- What is kept stays so where a node is appended.
use Rattle.std.proofs.Common.{◌≡◌, ℕ, zero, suc, ◌+◌, ◌<◌, ◌≤◌, ◌^◌, Bool, true, false, ◌||◌, List, [], ◌∷◌, ◌++◌, length, Option, Some, None, Result, Ok, Err, refl, sym, ap, subst, ◌∙◌, arith, slice_get, IfSome, is_err, is_some, unwrap_or}
use Rattle.std.specs.Prelude.{bytes_eq}
use Rattle.std.specs.Prelude.{OnOk, OnErr}
use Rattle.cert_format.specs.declared.fact_bytes.FactBytes.{FactBytes}
use Rattle.std.specs.List.{AllByRecursion, list_any}
use Rattle.std.proofs.lemmas.List.{map_push, length-append, length-map}
use Rattle.std.proofs.lemmas.Option.{none-some, same_Some, slice_get_within}
use Rattle.flag_relation.specs.Facts.{FactOf}
use Rattle.cert_format.specs.declared.cert.Node.{Node}
use Rattle.cert_format.specs.declared.limits.TheConstants.{MOST_NODES}
use Rattle.cert_format.specs.declared.spelled.TheConstants.{SPELLED}
use Rattle.cert_format.specs.Certificates.{NodeOf, CertificateOf, with_node}
use Rattle.cert_format.specs.Limits.{IsFact, IsKeptNode, IsKeptCert}
use Rattle.cert_format.specs.Spelling.{front, fact_bytes}
use Rattle.cert_format.specs.Kept.{has_fact, with_fact, kept_facts}
use Rattle.cert_format.specs.Keeping.{spelled, Enters, HasNumber, HasAddress, fact_of, node_view, nodes_view, keys_of, IsKeeping}
use Rattle.cert_format.proofs.PlaceLaws.{same_self}
use Rattle.cert_format.proofs.KeepingLaws.{view_grow, all_push, numbers_grow, kept_push, get_last, Tells, same_fact}

-- a list that was appended to, or stayed
pub either_way : {A E X : Type 0} (r : Result A E) (P : X → Type 0) (new added old : X) → OnOk r (new ≡ added) → OnErr r (new ≡ old) → P added → P old → P new
either_way (Ok a) P new added old h k p q = subst P (sym h) p
either_way (Err e) P new added old h k p q = subst P (sym k) q

pub ok_then : {A E : Type 0} (r : Result A E) (P : Type 0) → is_err r ≡ false → OnOk r P → P
ok_then (Ok a) P e h = h
ok_then (Err x) P e h = absurd (cc)

pub err_then : {A E : Type 0} (r : Result A E) (P : Type 0) → is_err r ≡ true → OnErr r P → P
err_then (Ok a) P e h = absurd (cc)
err_then (Err x) P e h = h

-- ---- which facts are there

has_any : {T : Type 0} (bytes : T → List ℕ) (f : FactOf T) (kept : List (FactOf T)) → has_fact bytes kept f ≡ list_any (bytes_eq (fact_bytes bytes f)) (keys_of bytes kept)
has_any bytes f [] = refl
has_any bytes f (g ∷ kept) = ap (λ (b : Bool). bytes_eq (fact_bytes bytes f) (fact_bytes bytes g) || b) (has_any bytes f kept)

some_fact : {T : Type 0} (bytes : T → List ℕ) (f : FactOf T) (kept : List (FactOf T)) (i : ℕ) → slice_get kept i ≡ Some f → has_fact bytes kept f ≡ true
some_fact bytes f [] i h = absurd (none-some f h)
some_fact {T} bytes f (g ∷ kept) zero h =
    let e = same_Some g f h in
    rw (subst (λ (x : FactOf T). bytes_eq (fact_bytes bytes f) (fact_bytes bytes x) ≡ true) (sym e) (same_self (fact_bytes bytes f))) refl
some_fact bytes f (g ∷ kept) (suc i) h = or_true (bytes_eq (fact_bytes bytes f) (fact_bytes bytes g)) (has_fact bytes kept f) (some_fact bytes f kept i h)
  where
    or_true : (b c : Bool) → c ≡ true → (b || c) ≡ true
    or_true true c e = refl
    or_true false c e = e

-- the set isn't larger than the list of nodes
pub few_keys : {T : Type 0} (bytes : T → List ℕ) (cells : ℕ) (nodes : List Node) (kept : List (FactOf T)) (keys : List FactBytes) → IsKeeping bytes cells nodes kept keys → length keys ≤ MOST_NODES
few_keys bytes cells nodes kept keys k =
    let few = k.few in
    let fewer = k.fewer in
    let same : length keys ≡ length kept = sym (length-map keys (λ (x : FactBytes). x.bytes.items)) ∙ ap length k.places ∙ length-map kept (fact_bytes bytes) in
    omega arith

-- a fact over as many cells as the caller says
pub fits_inside : {T : Type 0} (kept : List (FactOf T)) (nodes : List Node) (cells starts : List ℕ) (c : CertificateOf T) (f g : FactOf T) → record { cells = cells; starts = starts; nodes = nodes_view kept nodes } ≡ c → g ≡ f → length f.cells ≡ length c.cells → IsFact (length g.cells) g → IsFact (length cells) f
fits_inside {T} kept nodes cells starts c f g e same h fits =
    subst (λ (n : ℕ). IsFact n f) (h ∙ sym (ap (λ (d : CertificateOf T). length d.cells) e)) (subst (λ (x : FactOf T). IsFact (length x.cells) x) same fits)

-- room for one more, as the caller says it
pub room_inside : {T : Type 0} (kept : List (FactOf T)) (nodes : List Node) (cells starts : List ℕ) (c : CertificateOf T) → record { cells = cells; starts = starts; nodes = nodes_view kept nodes } ≡ c → length c.nodes < MOST_NODES → length nodes < MOST_NODES
room_inside {T} kept nodes cells starts c e h =
    let same_length : length (nodes_view kept nodes) ≡ length c.nodes = ap (λ (d : CertificateOf T). length d.nodes) e in
    omega (arith, length-map nodes (node_view kept))

-- the fact with the bytes of that number
kept_at : {T : Type 0} (bytes : T → List ℕ) (q : List ℕ) (kept : List (FactOf T)) (i : ℕ) → slice_get (keys_of bytes kept) i ≡ Some q → (g : FactOf T) × (slice_get kept i ≡ Some g) × (q ≡ fact_bytes bytes g)
kept_at bytes q [] i h = absurd (none-some q h)
kept_at bytes q (g ∷ kept) zero h = (g, refl, sym (same_Some (fact_bytes bytes g) q h))
kept_at bytes q (g ∷ kept) (suc i) h = kept_at bytes q kept i h

-- ---- one more node

module _ {T : Type 0} (bytes : T → List ℕ) (cells : ℕ) (nodes : List Node) (kept : List (FactOf T)) (keys : List FactBytes) where
  -- the keys may be others with the same bytes
  pub keeping_spelled : IsKeeping bytes cells nodes kept keys → (more : List FactBytes) → spelled more ≡ spelled keys → IsKeeping bytes cells nodes kept more
  keeping_spelled k more same = record { few = k.few; fewer = k.fewer; addresses = k.addresses; numbers = k.numbers; facts = k.facts; once = k.once; places = same ∙ k.places }

  -- whose fact is kept already, or which has none
  pub keeping_same : IsKeeping bytes cells nodes kept keys → (n : Node) → length nodes < MOST_NODES → n.addr < 2 ^ 20 → IfSome n.fact (λ i. i < length kept) → with_fact bytes kept (fact_of kept n.fact) ≡ kept → IsKeeping bytes cells (nodes ++ n ∷ []) kept keys
  keeping_same k n room low number same_kept =
      let fewer = k.fewer in
      record {
        few = omega (arith, length-append nodes (n ∷ []));
        fewer = omega (arith, length-append nodes (n ∷ []));
        addresses = all_push HasAddress nodes n k.addresses low;
        numbers = all_push (HasNumber (length kept)) nodes n k.numbers number;
        facts = k.facts;
        once = sym (ap (kept_facts bytes) (map_push (node_view kept) nodes n) ∙ kept_push bytes [] (nodes_view kept nodes) (node_view kept n)
            ∙ ap (λ (ks : List (FactOf T)). with_fact bytes ks (fact_of kept n.fact)) (sym k.once) ∙ same_kept);
        places = k.places;
      }

  -- whose fact isn't kept yet
  pub keeping_new : IsKeeping bytes cells nodes kept keys → (n : Node) (f : FactOf T) (more : List FactBytes) → length nodes < MOST_NODES → n.addr < 2 ^ 20 → n.fact ≡ Some (length kept) → IsFact cells f → Enters keys more (fact_bytes bytes f) None → IsKeeping bytes cells (nodes ++ n ∷ []) (kept ++ f ∷ []) more
  keeping_new k n f more room low number fits enters =
      let fewer = k.fewer in
      let longer : length (kept ++ f ∷ []) ≡ length kept + 1 = length-append kept (f ∷ []) in
      let its : fact_of (kept ++ f ∷ []) n.fact ≡ Some f = ap (fact_of (kept ++ f ∷ [])) number ∙ get_last kept f in
      let added : with_fact bytes kept (Some f) ≡ kept ++ f ∷ [] = rw (has_any bytes f kept ∙ ap (list_any (bytes_eq (fact_bytes bytes f))) (sym k.places) ∙ enters.0) refl in
      record {
        few = omega (arith, length-append nodes (n ∷ []));
        fewer = omega (arith, length-append nodes (n ∷ []));
        addresses = all_push HasAddress nodes n k.addresses low;
        numbers = all_push (HasNumber (length (kept ++ f ∷ []))) nodes n (numbers_grow (length kept) (length (kept ++ f ∷ [])) nodes (omega (arith, longer)) k.numbers) (subst (λ (o : Option ℕ). IfSome o (λ i. i < length (kept ++ f ∷ []))) (sym number) (omega (arith, longer)));
        facts = all_push (IsFact cells) kept f k.facts fits;
        once = sym (ap (kept_facts bytes) (map_push (node_view (kept ++ f ∷ [])) nodes n) ∙ ap (λ (ns : List (NodeOf T)). kept_facts bytes (ns ++ node_view (kept ++ f ∷ []) n ∷ [])) (view_grow kept (f ∷ []) nodes k.numbers) ∙ kept_push bytes [] (nodes_view kept nodes) (node_view (kept ++ f ∷ []) n)
            ∙ ap (λ (ks : List (FactOf T)). with_fact bytes ks (fact_of (kept ++ f ∷ []) n.fact)) (sym k.once) ∙ ap (with_fact bytes kept) its ∙ added);
        places = enters.1 ∙ ap (λ (ks : List (List ℕ)). ks ++ fact_bytes bytes f ∷ []) k.places ∙ sym (map_push (fact_bytes bytes) kept f);
      }

all_get : {A : Type 0} (P : A → Type 0) (xs : List A) (i : ℕ) (x : A) → AllByRecursion P xs → slice_get xs i ≡ Some x → P x
all_get P [] i x h e = absurd (none-some x e)
all_get P (y ∷ xs) zero x h e = subst P (same_Some y x e) h.0
all_get P (y ∷ xs) (suc i) x h e = all_get P xs i x h.1 e

-- a fact whose bytes were found stands at that number
pub record WasFound {T : Type 0} (bytes : T → List ℕ) (cells : ℕ) (nodes : List Node) (kept : List (FactOf T)) (more : List FactBytes) (f : FactOf T) (i : ℕ) : Type 0 where
  pub within : i < length kept
  pub is : slice_get kept i ≡ Some f
  pub same : with_fact bytes kept (slice_get kept i) ≡ kept
  pub keeps : IsKeeping bytes cells nodes kept more

module _ {T : Type 0} (bytes : T → List ℕ) (cells : ℕ) (nodes : List Node) (kept : List (FactOf T)) (keys more : List FactBytes) (f : FactOf T) (key : List ℕ) (o : Option ℕ) (i : ℕ) where
  pub found_fact : Tells bytes → IsKeeping (front SPELLED bytes) cells nodes kept keys → IsFact cells f → key ≡ fact_bytes (front SPELLED bytes) f → Enters keys more key o → is_some o ≡ true → i ≡ unwrap_or o (length kept) → WasFound (front SPELLED bytes) cells nodes kept more f i
  found_fact t k fits e enters h n = by o enters h n
    where
      by : (o : Option ℕ) → Enters keys more key o → is_some o ≡ true → i ≡ unwrap_or o (length kept) → WasFound (front SPELLED bytes) cells nodes kept more f i
      by None enters h n = absurd (cc)
      by (Some j) enters h n =
          let b = front SPELLED bytes in
          let p = kept_at b key kept i (ap (slice_get (keys_of b kept)) n ∙ ap (λ (qs : List (List ℕ)). slice_get qs j) (sym k.places) ∙ enters.0) in
          let same_g : f ≡ p.0 = same_fact bytes t cells f p.0 fits (all_get (IsFact cells) kept i p.0 k.facts p.1) (sym e ∙ p.2) in
          let is : slice_get kept i ≡ Some f = p.1 ∙ ap (λ (x : FactOf T). Some x) (sym same_g) in
          record {
            within = slice_get_within kept i f is;
            is = is;
            same = ap (with_fact b kept) is ∙ rw (some_fact b f kept i is) refl;
            keeps = keeping_spelled b cells nodes kept keys k more enters.1;
          }

  -- other bytes went in at the end, and stand for the fact that comes next
  pub new_fact : key ≡ fact_bytes bytes f → Enters keys more key o → is_some o ≡ false → i ≡ unwrap_or o (length kept) → Enters keys more (fact_bytes bytes f) None × (i ≡ length kept)
  new_fact e enters h n = by o enters h n
    where
      by : (o : Option ℕ) → Enters keys more key o → is_some o ≡ false → i ≡ unwrap_or o (length kept) → Enters keys more (fact_bytes bytes f) None × (i ≡ length kept)
      by None enters h n = (subst (λ (q : List ℕ). Enters keys more q None) e enters, n)
      by (Some j) enters h n = absurd (cc)

-- ---- what contracts see

pub view_same : {T : Type 0} (kept : List (FactOf T)) (c : CertificateOf T) (cells starts : List ℕ) (nodes new : List Node) (n : Node) (f : Option (FactOf T)) → fact_of kept n.fact ≡ f → record { cells = cells; starts = starts; nodes = nodes_view kept nodes } ≡ c → new ≡ nodes ++ n ∷ []
    → record { cells = cells; starts = starts; nodes = nodes_view kept new } ≡ with_node c (record { addr = n.addr; fact = f; succ = n.succ.items; rank = n.rank })
view_same {T} kept c cells starts nodes new n f its e h =
    ap (λ (ns : List (NodeOf T)). record { cells = cells; starts = starts; nodes = ns }) (ap (nodes_view kept) h ∙ map_push (node_view kept) nodes n)
    ∙ ap (λ (d : CertificateOf T). with_node d (node_view kept n)) e
    ∙ ap (λ (o : Option (FactOf T)). with_node c (record { addr = n.addr; fact = o; succ = n.succ.items; rank = n.rank })) its

pub view_new : {T : Type 0} (kept more : List (FactOf T)) (g : FactOf T) (c : CertificateOf T) (cells starts : List ℕ) (nodes new : List Node) (n : Node) → AllByRecursion (HasNumber (length kept)) nodes → n.fact ≡ Some (length kept) → record { cells = cells; starts = starts; nodes = nodes_view kept nodes } ≡ c → new ≡ nodes ++ n ∷ [] → more ≡ kept ++ g ∷ []
    → record { cells = cells; starts = starts; nodes = nodes_view more new } ≡ with_node c (record { addr = n.addr; fact = Some g; succ = n.succ.items; rank = n.rank })
view_new {T} kept more g c cells starts nodes new n numbers number e h k =
    ap (λ (ks : List (FactOf T)). record { cells = cells; starts = starts; nodes = nodes_view ks new }) k
    ∙ view_same (kept ++ g ∷ []) c cells starts nodes new n (Some g) (ap (fact_of (kept ++ g ∷ [])) number ∙ get_last kept g) (ap (λ (ns : List (NodeOf T)). record { cells = cells; starts = starts; nodes = ns }) (view_grow kept (g ∷ []) nodes numbers) ∙ e) h

-- what the type keeps of every node
pub kept_nodes : {T : Type 0} (cells : ℕ) (kept : List (FactOf T)) (nodes : List Node) → AllByRecursion (IsFact cells) kept → AllByRecursion HasAddress nodes → AllByRecursion (IsKeptNode cells) (nodes_view kept nodes)
kept_nodes cells kept [] facts addresses = tt
kept_nodes {T} cells kept (n ∷ nodes) facts addresses = (record { addr = addresses.0; fact = its n.fact }, kept_nodes cells kept nodes facts addresses.1)
  where
    of_place : (o : Option (FactOf T)) → ((f : FactOf T) → o ≡ Some f → IsFact cells f) → IfSome o (IsFact cells)
    of_place None h = tt
    of_place (Some f) h = h f refl

    its : (o : Option ℕ) → IfSome (fact_of kept o) (IsFact cells)
    its None = tt
    its (Some i) = of_place (slice_get kept i) (λ f e. all_get (IsFact cells) kept i f facts e)

pub kept_cert : {T : Type 0} (bytes : T → List ℕ) (cells starts : List ℕ) (nodes : List Node) (kept : List (FactOf T)) (keys : List FactBytes) (c : CertificateOf T) → IsKeeping bytes (length cells) nodes kept keys → record { cells = cells; starts = starts; nodes = nodes_view kept nodes } ≡ c → IsKeptCert c
kept_cert {T} bytes cells starts nodes kept keys c k e =
    let few = k.few in
    subst (λ (d : CertificateOf T). IsKeptCert d) e (record { few_nodes = omega (arith, length-map nodes (node_view kept)); nodes = kept_nodes (length cells) kept nodes k.facts k.addresses })
