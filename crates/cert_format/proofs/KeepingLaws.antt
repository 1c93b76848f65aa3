-- What is kept after one more node.
use Rattle.std.proofs.Common.{◌≡◌, ℕ, zero, suc, ◌<◌, ◌≤◌, List, [], ◌∷◌, ◌++◌, length, take, drop, Option, Some, None, refl, sym, ap, ◌∙◌, append_assoc, arith, slice_get, IfSome}
use Rattle.std.specs.List.{AllByRecursion, flat_map}
use Rattle.std.proofs.lemmas.List.{take_at, drop_at, append-nil}
use Rattle.flag_relation.specs.Facts.{FactOf}
use Rattle.flag_relation.specs.declared.flag.Flag.{Flag}
use Rattle.flag_relation.specs.declared.link.Link.{Link}
use Rattle.flag_relation.specs.Limits.{IsLinkOf}
use Rattle.cert_format.specs.declared.cert.Node.{Node}
use Rattle.cert_format.specs.declared.spelled.TheConstants.{SPELLED}
use Rattle.cert_format.specs.Limits.{IsFact}
use Rattle.cert_format.specs.Spelling.{front, link_bytes, links_bytes, flag_bytes, fact_bytes}
use Rattle.cert_format.specs.Fields.{link_at, flag_at}
use Rattle.cert_format.specs.evidence.Numbers.{ok_is}
use Rattle.cert_format.proofs.FieldLaws.{link_again}
use Rattle.cert_format.proofs.FlagLaws.{IsFlagIn, flag_again}
use Rattle.cert_format.specs.Certificates.{NodeOf}
use Rattle.cert_format.specs.Kept.{with_fact, kept_from}
use Rattle.cert_format.specs.Keeping.{HasNumber, fact_of, node_view, nodes_view}

pub get_grow : {A : Type 0} (xs ys : List A) (i : ℕ) → i < length xs → slice_get (xs ++ ys) i ≡ slice_get xs i
get_grow [] ys i h = absurd (omega arith)
get_grow (x ∷ xs) ys zero h = refl
get_grow (x ∷ xs) ys (suc i) h = get_grow xs ys i (omega arith)

pub get_last : {A : Type 0} (xs : List A) (y : A) → slice_get (xs ++ y ∷ []) (length xs) ≡ Some y
get_last [] y = refl
get_last (x ∷ xs) y = get_last xs y

fact_grow : {T : Type 0} (kept more : List (FactOf T)) (o : Option ℕ) → IfSome o (λ i. i < length kept) → fact_of (kept ++ more) o ≡ fact_of kept o
fact_grow kept more None h = refl
fact_grow kept more (Some i) h = get_grow kept more i h

pub view_grow : {T : Type 0} (kept more : List (FactOf T)) (nodes : List Node) → AllByRecursion (HasNumber (length kept)) nodes → nodes_view (kept ++ more) nodes ≡ nodes_view kept nodes
view_grow kept more [] h = refl
view_grow {T} kept more (n ∷ nodes) h =
    ap (λ (f : Option (FactOf T)). record { addr = n.addr; fact = f; succ = n.succ.items; rank = n.rank } ∷ nodes_view (kept ++ more) nodes) (fact_grow kept more n.fact h.0)
    ∙ ap (λ (ns : List (NodeOf T)). node_view kept n ∷ ns) (view_grow kept more nodes h.1)

pub all_push : {A : Type 0} (P : A → Type 0) (xs : List A) (x : A) → AllByRecursion P xs → P x → AllByRecursion P (xs ++ x ∷ [])
all_push P [] x h p = (p, tt)
all_push P (y ∷ xs) x h p = (h.0, all_push P xs x h.1 p)

pub all_map : {A : Type 0} (P Q : A → Type 0) (xs : List A) → ((x : A) → P x → Q x) → AllByRecursion P xs → AllByRecursion Q xs
all_map P Q [] f h = tt
all_map P Q (x ∷ xs) f h = (f x h.0, all_map P Q xs f h.1)

pub numbers_grow : (m n : ℕ) (nodes : List Node) → m ≤ n → AllByRecursion (HasNumber m) nodes → AllByRecursion (HasNumber n) nodes
numbers_grow m n nodes le h = all_map (HasNumber m) (HasNumber n) nodes (λ x p. wider x.fact p) h
  where
    wider : (o : Option ℕ) → IfSome o (λ i. i < m) → IfSome o (λ i. i < n)
    wider None p = tt
    wider (Some i) p = omega arith

pub kept_push : {T : Type 0} (bytes : T → List ℕ) (kept : List (FactOf T)) (nodes : List (NodeOf T)) (n : NodeOf T) → kept_from bytes kept (nodes ++ n ∷ []) ≡ with_fact bytes (kept_from bytes kept nodes) n.fact
kept_push bytes kept [] n = refl
kept_push bytes kept (m ∷ nodes) n = kept_push bytes (with_fact bytes kept m.fact) nodes n

-- ---- facts with equal bytes

same_front : (a b x y : List ℕ) → length a ≡ length b → a ++ x ≡ b ++ y → (a ≡ b) × (x ≡ y)
same_front a b x y len e =
    (sym (take_at a x (length a) refl) ∙ ap (take (length a)) e ∙ take_at b y (length a) (sym len), sym (drop_at a x (length a) refl) ∙ ap (drop (length a)) e ∙ drop_at b y (length a) (sym len))

-- what tells values apart
pub record Tells {T : Type 0} (bytes : T → List ℕ) : Type 0 where
  pub size : (v : T) → length (bytes v) ≡ SPELLED
  pub exact : (v w : T) → bytes v ≡ bytes w → v ≡ w

front_is : {T : Type 0} (bytes : T → List ℕ) (t : Tells bytes) (v : T) → front SPELLED bytes v ≡ bytes v
front_is bytes t v = ap (take SPELLED) (sym (append-nil (bytes v))) ∙ take_at (bytes v) [] SPELLED (t.size v)

same_value : {T : Type 0} (bytes : T → List ℕ) (t : Tells bytes) (v w : T) (x y : List ℕ) → front SPELLED bytes v ++ x ≡ front SPELLED bytes w ++ y → (v ≡ w) × (x ≡ y)
same_value bytes t v w x y e =
    let p = same_front (bytes v) (bytes w) x y (t.size v ∙ sym (t.size w)) (ap (λ (b : List ℕ). b ++ x) (sym (front_is bytes t v)) ∙ e ∙ ap (λ (b : List ℕ). b ++ y) (front_is bytes t w)) in
    (t.exact v w p.0, p.1)

same_cells : {T : Type 0} (bytes : T → List ℕ) (t : Tells bytes) (vs ws : List T) (x y : List ℕ) → length vs ≡ length ws → flat_map (front SPELLED bytes) vs ++ x ≡ flat_map (front SPELLED bytes) ws ++ y → (vs ≡ ws) × (x ≡ y)
same_cells bytes t [] [] x y len e = (refl, e)
same_cells bytes t [] (w ∷ ws) x y len e = absurd (omega arith)
same_cells bytes t (v ∷ vs) [] x y len e = absurd (omega arith)
same_cells {T} bytes t (v ∷ vs) (w ∷ ws) x y len e =
    let b = front SPELLED bytes in
    let p = same_value bytes t v w (flat_map b vs ++ x) (flat_map b ws ++ y) (sym (append_assoc (b v) (flat_map b vs) x) ∙ e ∙ append_assoc (b w) (flat_map b ws) y) in
    let q = same_cells bytes t vs ws x y (omega arith) p.1 in
    (ap (λ (u : T). u ∷ vs) p.0 ∙ ap (λ (us : List T). w ∷ us) q.0, q.1)

same_link : (count : ℕ) (l m : Option Link) (x y : List ℕ) → count ≤ 32 → IfSome l (IsLinkOf count) → IfSome m (IsLinkOf count) → link_bytes l ++ x ≡ link_bytes m ++ y → (l ≡ m) × (x ≡ y)
same_link count l m x y few h k e =
    let r = ok_is (l, x) (m, y) (sym (link_again count l x few h) ∙ ap (link_at count) e ∙ link_again count m y few k) in
    (ap (λ (p : Option Link × List ℕ). p.0) r, ap (λ (p : Option Link × List ℕ). p.1) r)

same_flag : (count : ℕ) (f g : Flag) → count ≤ 32 → IsFlagIn count f → IsFlagIn count g → flag_bytes f ≡ flag_bytes g → f ≡ g
same_flag count f g few h k e =
    let r = ok_is (f, []) (g, []) (sym (flag_again count f [] few h) ∙ ap (flag_at count) (append-nil (flag_bytes f) ∙ e ∙ sym (append-nil (flag_bytes g))) ∙ flag_again count g [] few k) in
    ap (λ (p : Flag × List ℕ). p.0) r

pub same_fact : {T : Type 0} (bytes : T → List ℕ) (t : Tells bytes) (count : ℕ) (f g : FactOf T) → IsFact count f → IsFact count g → fact_bytes (front SPELLED bytes) f ≡ fact_bytes (front SPELLED bytes) g → f ≡ g
unfolding fact_bytes
same_fact {T} bytes t count f g h k e =
    let few = h.limits.few in
    let a = same_value bytes t f.a g.a _ _ e in
    let x = same_value bytes t f.x g.x _ _ a.1 in
    let y = same_value bytes t f.y g.y _ _ x.1 in
    let cs = same_cells bytes t f.cells g.cells _ _ (h.cells ∙ sym k.cells) y.1 in
    let ls = cs.1 in
    let la = same_link count f.links.a g.links.a (link_bytes f.links.x ++ (link_bytes f.links.y ++ flag_bytes f.flag)) (link_bytes g.links.x ++ (link_bytes g.links.y ++ flag_bytes g.flag)) few h.limits.linked.a k.limits.linked.a (sym (regroup f) ∙ ls ∙ regroup g) in
    let lx = same_link count f.links.x g.links.x _ _ few h.limits.linked.x k.limits.linked.x la.1 in
    let ly = same_link count f.links.y g.links.y _ _ few h.limits.linked.y k.limits.linked.y lx.1 in
    let b = same_flag count f.flag g.flag few (h.flag, h.limits.flagged) (k.flag, k.limits.flagged) ly.1 in
    rw (a.0, x.0, y.0, cs.0, la.0, lx.0, ly.0, b) refl
  where
    regroup : (f : FactOf T) → links_bytes f.links ++ flag_bytes f.flag ≡ link_bytes f.links.a ++ (link_bytes f.links.x ++ (link_bytes f.links.y ++ flag_bytes f.flag))
    regroup f = simp append_assoc
