-- Facts and nodes: what is read is spelled so, and what is spelled so is read.
use Rattle.std.proofs.Common.{◌≡◌, ℕ, ◌^◌, ◌≤◌, true, false, cond, List, [], ◌∷◌, ◌++◌, length, Option, Some, None, Ok, Err, refl, sym, ap, subst, ◌∙◌, append_assoc, arith, eqb, ⊎_elim}
use Rattle.std.specs.Prelude.{IfSome, IsSome}
use Rattle.std.specs.Int.{w8}
use Rattle.std.specs.List.{flat_map, AllByRecursion}
use Rattle.std.proofs.lemmas.Bool.{eqb-true}
use Rattle.viper_word.proofs.Booleans.{chosen}
use Rattle.val_dom.specs.declared.val.Val.{Val}
use Rattle.flag_relation.specs.declared.link.Link.{Link}
use Rattle.flag_relation.specs.Facts.{FactOf}
use Rattle.flag_relation.specs.Limits.{AreLinksOf}
use Rattle.flag_relation.specs.Values.{Regs}
use Rattle.cert_format.specs.declared.version.Version.{Version}
use Rattle.cert_format.specs.declared.version.Version.TheVariants.{One, Two}
use Rattle.cert_format.specs.declared.limits.TheConstants.{FULL, BARE, MOST_SUCCESSORS}
use Rattle.cert_format.specs.Certificates.{NodeOf}
use Rattle.cert_format.specs.Limits.{IsFact, IsNode}
use Rattle.cert_format.specs.Values.{word_bytes, value_bytes}
use Rattle.cert_format.specs.Spelling.{counted_bytes, link_bytes, links_bytes, flag_bytes, fact_bytes, rank_bytes, known_bytes, node_bytes}
use Rattle.cert_format.specs.Reading.{◌>>=◌, number_at, many_at}
use Rattle.cert_format.specs.ReadValues.{value_at}
use Rattle.cert_format.specs.Fields.{below_at, numbers_at, link_at, flag_at, rank_at}
use Rattle.cert_format.specs.ReadNodes.{links_at, fact_at, full_at, tagged_at, known_at, Placed, placed_at}
use Rattle.cert_format.specs.evidence.Numbers.{IsBytes, Takes, Takes-then, TakesOne, Reader, bind_ok, passed, ok_is, byte_takes, byte_again, many_takes, many_again}
use Rattle.cert_format.specs.evidence.ValueLaws.{IsAny, value_takes, value_again}
use Rattle.cert_format.proofs.FieldLaws.{below_takes, below_again, numbers_takes, numbers_again, link_takes, link_again}
use Rattle.cert_format.proofs.FlagLaws.{flag_takes, flag_again}
use Rattle.cert_format.proofs.RankLaws.{rank_takes, rank_again}

-- ---- links

pub links_takes : (cells : ℕ) (bytes : List ℕ) (z : Regs (Option Link) × List ℕ) → IsBytes bytes → links_at cells bytes ≡ Ok z → Takes bytes (links_bytes z.0) z.1 × AreLinksOf cells z.0
unfolding links_at
links_takes cells bytes z fits e =
    let a = bind_ok (link_at cells bytes) (λ a. link_at cells a.1 >>= λ x. link_at cells x.1 >>= λ y. Ok (record { a = a.0; x = x.0; y = y.0 }, y.1)) z e in
    let x = bind_ok (link_at cells a.0.1) (λ x. link_at cells x.1 >>= λ y. Ok (record { a = a.0.0; x = x.0; y = y.0 }, y.1)) z a.2 in
    let y = bind_ok (link_at cells x.0.1) (λ y. Ok (record { a = a.0.0; x = x.0.0; y = y.0 }, y.1)) z x.2 in
    let t0 = link_takes cells bytes a.0 fits a.1 in
    let t1 = link_takes cells a.0.1 x.0 t0.0.rest_fits x.1 in
    let t2 = link_takes cells x.0.1 y.0 t1.0.rest_fits y.1 in
    let later = Takes-then a.0.1 (link_bytes x.0.0) x.0.1 (link_bytes y.0.0) y.0.1 t1.0 t2.0 in
    let whole = Takes-then bytes (link_bytes a.0.0) a.0.1 (link_bytes x.0.0 ++ link_bytes y.0.0) y.0.1 t0.0 later in
    let made : Regs (Option Link) × List ℕ = (record { a = a.0.0; x = x.0.0; y = y.0.0 }, y.0.1) in
    subst (λ (w : Regs (Option Link) × List ℕ). Takes bytes (links_bytes w.0) w.1 × AreLinksOf cells w.0) (ok_is made z y.2) (whole, record { a = t0.1; x = t1.1; y = t2.1 })

pub links_again : (cells : ℕ) (l : Regs (Option Link)) (rest : List ℕ) → cells ≤ 32 → AreLinksOf cells l → links_at cells (links_bytes l ++ rest) ≡ Ok (l, rest)
unfolding links_at
links_again cells l rest few h =
    let y = link_bytes l.y ++ rest in
    let x = link_bytes l.x ++ y in
    let regrouped : links_bytes l ++ rest ≡ link_bytes l.a ++ x = simp append_assoc in
    ap (links_at cells) regrouped ∙ rw (link_again cells l.a x few h.a, link_again cells l.x y few h.x, link_again cells l.y rest few h.y) refl

-- ---- facts

value_takes_one : TakesOne value_at value_bytes IsAny
value_takes_one bytes x fits e = (value_takes bytes x fits e, tt)

value_reader : Reader value_at value_bytes IsAny
value_reader = record { takes = value_takes_one; again = λ v rest h. value_again v rest }

any_values : (vs : List Val) → AllByRecursion IsAny vs
any_values [] = tt
any_values (v ∷ vs) = (tt, any_values vs)

pub fact_takes : (cells : ℕ) (bytes : List ℕ) (z : FactOf Val × List ℕ) → cells ≤ 32 → IsBytes bytes → fact_at cells bytes ≡ Ok z → Takes bytes (fact_bytes value_bytes z.0) z.1 × IsFact cells z.0
unfolding fact_at fact_bytes
fact_takes cells bytes z few fits e =
    let a = bind_ok (value_at bytes) (λ a. value_at a.1 >>= λ x. value_at x.1 >>= λ y. many_at value_at cells y.1 >>= λ vs. links_at cells vs.1 >>= λ ls. flag_at cells ls.1 >>= λ f. Ok (record { a = a.0; x = x.0; y = y.0; cells = vs.0; links = ls.0; flag = f.0 }, f.1)) z e in
    let x = bind_ok (value_at a.0.1) (λ x. value_at x.1 >>= λ y. many_at value_at cells y.1 >>= λ vs. links_at cells vs.1 >>= λ ls. flag_at cells ls.1 >>= λ f. Ok (record { a = a.0.0; x = x.0; y = y.0; cells = vs.0; links = ls.0; flag = f.0 }, f.1)) z a.2 in
    let y = bind_ok (value_at x.0.1) (λ y. many_at value_at cells y.1 >>= λ vs. links_at cells vs.1 >>= λ ls. flag_at cells ls.1 >>= λ f. Ok (record { a = a.0.0; x = x.0.0; y = y.0; cells = vs.0; links = ls.0; flag = f.0 }, f.1)) z x.2 in
    let vs = bind_ok (many_at value_at cells y.0.1) (λ vs. links_at cells vs.1 >>= λ ls. flag_at cells ls.1 >>= λ f. Ok (record { a = a.0.0; x = x.0.0; y = y.0.0; cells = vs.0; links = ls.0; flag = f.0 }, f.1)) z y.2 in
    let ls = bind_ok (links_at cells vs.0.1) (λ ls. flag_at cells ls.1 >>= λ f. Ok (record { a = a.0.0; x = x.0.0; y = y.0.0; cells = vs.0.0; links = ls.0; flag = f.0 }, f.1)) z vs.2 in
    let f = bind_ok (flag_at cells ls.0.1) (λ f. Ok (record { a = a.0.0; x = x.0.0; y = y.0.0; cells = vs.0.0; links = ls.0.0; flag = f.0 }, f.1)) z ls.2 in
    let t0 = value_takes bytes a.0 fits a.1 in
    let t1 = value_takes a.0.1 x.0 t0.rest_fits x.1 in
    let t2 = value_takes x.0.1 y.0 t1.rest_fits y.1 in
    let t3 = many_takes value_at value_bytes IsAny value_takes_one cells y.0.1 vs.0 t2.rest_fits vs.1 in
    let t4 = links_takes cells vs.0.1 ls.0 t3.0.rest_fits ls.1 in
    let t5 = flag_takes cells ls.0.1 f.0 few t4.0.rest_fits f.1 in
    let e4 = Takes-then vs.0.1 (links_bytes ls.0.0) ls.0.1 (flag_bytes f.0.0) f.0.1 t4.0 t5.0 in
    let e3 = Takes-then y.0.1 (flat_map value_bytes vs.0.0) vs.0.1 _ f.0.1 t3.0 e4 in
    let e2 = Takes-then x.0.1 (value_bytes y.0.0) y.0.1 _ f.0.1 t2 e3 in
    let e1 = Takes-then a.0.1 (value_bytes x.0.0) x.0.1 _ f.0.1 t1 e2 in
    let e0 = Takes-then bytes (value_bytes a.0.0) a.0.1 _ f.0.1 t0 e1 in
    let made : FactOf Val × List ℕ = (record { a = a.0.0; x = x.0.0; y = y.0.0; cells = vs.0.0; links = ls.0.0; flag = f.0.0 }, f.0.1) in
    let within : IsFact cells made.0 = record { cells = t3.1; limits = record { few = few; linked = t4.1; flagged = t5.1.1 }; flag = t5.1.0 } in
    subst (λ (w : FactOf Val × List ℕ). Takes bytes (fact_bytes value_bytes w.0) w.1 × IsFact cells w.0) (ok_is made z f.2) (e0, within)

pub fact_again : (cells : ℕ) (f : FactOf Val) (rest : List ℕ) → IsFact cells f → fact_at cells (fact_bytes value_bytes f ++ rest) ≡ Ok (f, rest)
unfolding fact_at fact_bytes
fact_again cells f rest h =
    let few = h.limits.few in
    let flagged = flag_bytes f.flag ++ rest in
    let linked = links_bytes f.links ++ flagged in
    let listed = flat_map value_bytes f.cells ++ linked in
    let y = value_bytes f.y ++ listed in
    let x = value_bytes f.x ++ y in
    let regrouped : fact_bytes value_bytes f ++ rest ≡ value_bytes f.a ++ x = parts (value_bytes f.a) (value_bytes f.x) (value_bytes f.y) (flat_map value_bytes f.cells) (links_bytes f.links) (flag_bytes f.flag) rest in
    let many : many_at value_at cells listed ≡ Ok (f.cells, linked) = subst (λ (n : ℕ). many_at value_at n listed ≡ Ok (f.cells, linked)) h.cells (many_again value_at value_bytes IsAny value_reader f.cells linked (any_values f.cells)) in
    ap (fact_at cells) regrouped ∙ rw (value_again f.a x, value_again f.x y, value_again f.y listed, many, links_again cells f.links flagged few h.limits.linked, flag_again cells f.flag rest few (h.flag, h.limits.flagged)) refl
  where
    parts : (a x y c l f rest : List ℕ) → (a ++ (x ++ (y ++ (c ++ (l ++ f))))) ++ rest ≡ a ++ (x ++ (y ++ (c ++ (l ++ (f ++ rest)))))
    parts a x y c l f rest = simp append_assoc

-- ---- what a version has of a fact

-- version 1 has a fact
abbrev pub IsKnownIn : Version → Option (FactOf Val) → Type 0
IsKnownIn One f = IsSome f
IsKnownIn Two f = Unit {0}

-- what is read of a fact, in a version
pub record IsKnown (v : Version) (cells : ℕ) (f : Option (FactOf Val)) : Type 0 where
  pub fact : IfSome f (IsFact cells)
  pub known : IsKnownIn v f

full_takes : (cells : ℕ) (bytes : List ℕ) (z : Option (FactOf Val) × List ℕ) → cells ≤ 32 → IsBytes bytes → full_at cells bytes ≡ Ok z → (f : FactOf Val) × (z.0 ≡ Some f) × Takes bytes (fact_bytes value_bytes f) z.1 × IsFact cells f
unfolding full_at
full_takes cells bytes z few fits e =
    let f = bind_ok (fact_at cells bytes) (λ f. Ok (Some f.0, f.1)) z e in
    let t = fact_takes cells bytes f.0 few fits f.1 in
    let made = ok_is (Some f.0.0, f.0.1) z f.2 in
    (f.0.0, ap (λ (w : Option (FactOf Val) × List ℕ). w.0) (sym made), subst (λ (w : Option (FactOf Val) × List ℕ). Takes bytes (fact_bytes value_bytes f.0.0) w.1) made t.0, t.1)

tagged_takes : (cells : ℕ) (bytes : List ℕ) (z : Option (FactOf Val) × List ℕ) → cells ≤ 32 → IsBytes bytes → tagged_at cells bytes ≡ Ok z → Takes bytes (known_bytes Two z.0) z.1 × IsKnown Two cells z.0
unfolding tagged_at known_bytes
tagged_takes cells bytes z few fits e =
    let n = bind_ok (number_at w8 bytes) (λ n. cond (eqb n.0 FULL) (full_at cells n.1) (cond (eqb n.0 BARE) (Ok (None, n.1)) (Err _))) z e in
    let t = byte_takes bytes n.0 fits n.1 in
    ⊎_elim
    (λ (p : (eqb n.0.0 FULL ≡ true) × (full_at cells n.0.1 ≡ Ok z)).
    let f = full_takes cells n.0.1 z few t.0.rest_fits p.1 in
    let tag : Takes bytes (FULL ∷ []) n.0.1 = subst (λ (k : ℕ). Takes bytes (k ∷ []) n.0.1) (eqb-true n.0.0 FULL p.0) t.0 in
    let whole = Takes-then bytes (FULL ∷ []) n.0.1 (fact_bytes value_bytes f.0) z.1 tag f.2 in
    subst (λ (g : Option (FactOf Val)). Takes bytes (known_bytes Two g) z.1 × IsKnown Two cells g) (sym f.1) (whole, record { fact = f.3; known = tt }))
    (λ (p : (eqb n.0.0 FULL ≡ false) × (cond (eqb n.0.0 BARE) (Ok (None, n.0.1)) (Err _) ≡ Ok z)).
    let g = passed (eqb n.0.0 BARE) (Ok (None, n.0.1)) _ z p.1 in
    let tag : Takes bytes (BARE ∷ []) n.0.1 = subst (λ (k : ℕ). Takes bytes (k ∷ []) n.0.1) (eqb-true n.0.0 BARE g.0) t.0 in
    let made : Option (FactOf Val) × List ℕ = (None, n.0.1) in
    subst (λ (w : Option (FactOf Val) × List ℕ). Takes bytes (known_bytes Two w.0) w.1 × IsKnown Two cells w.0) (ok_is made z g.1) (tag, record { fact = tt; known = tt }))
    (chosen (eqb n.0.0 FULL) (full_at cells n.0.1) _ (Ok z) n.2)

pub known_takes : (v : Version) (cells : ℕ) (bytes : List ℕ) (z : Option (FactOf Val) × List ℕ) → cells ≤ 32 → IsBytes bytes → known_at v cells bytes ≡ Ok z → Takes bytes (known_bytes v z.0) z.1 × IsKnown v cells z.0
unfolding known_at known_bytes
known_takes One cells bytes z few fits e =
    let f = full_takes cells bytes z few fits e in
    subst (λ (g : Option (FactOf Val)). Takes bytes (known_bytes One g) z.1 × IsKnown One cells g) (sym f.1) (f.2, record { fact = f.3; known = refl })
known_takes Two cells bytes z few fits e = tagged_takes cells bytes z few fits e

pub known_again : (v : Version) (cells : ℕ) (f : Option (FactOf Val)) (rest : List ℕ) → IsKnown v cells f → known_at v cells (known_bytes v f ++ rest) ≡ Ok (f, rest)
unfolding known_at tagged_at full_at known_bytes
known_again One cells None rest h = let k = h.known in absurd (cc)
known_again One cells (Some f) rest h = rw (fact_again cells f rest h.fact) refl
known_again Two cells None rest h = rw (byte_again BARE rest) refl
known_again Two cells (Some f) rest h = rw (byte_again FULL (fact_bytes value_bytes f ++ rest), fact_again cells f rest h.fact) refl

-- ---- nodes

-- a node that a version can spell
pub record IsNodeIn (v : Version) (cells count : ℕ) (n : NodeOf Val) : Type 0 where
  pub limits : IsNode cells count n
  pub known : IsKnownIn v n.fact

pub node_takes : (v : Version) (cells count : ℕ) → cells ≤ 32 → count ≤ 2 ^ 32 → TakesOne (placed_at v cells count) (λ p. node_bytes v p.node) (λ p. IsNodeIn v cells count p.node)
unfolding placed_at node_bytes
node_takes v cells count few low bytes z fits e =
    let a = bind_ok (below_at (2 ^ 20) bytes) (λ a. known_at v cells a.1 >>= λ f. numbers_at MOST_SUCCESSORS count f.1 >>= λ s. rank_at cells s.1 >>= λ r. Ok (record { node = record { addr = a.0; fact = f.0; succ = s.0; rank = r.0 }; left = length a.1 }, r.1)) z e in
    let f = bind_ok (known_at v cells a.0.1) (λ f. numbers_at MOST_SUCCESSORS count f.1 >>= λ s. rank_at cells s.1 >>= λ r. Ok (record { node = record { addr = a.0.0; fact = f.0; succ = s.0; rank = r.0 }; left = length a.0.1 }, r.1)) z a.2 in
    let s = bind_ok (numbers_at MOST_SUCCESSORS count f.0.1) (λ s. rank_at cells s.1 >>= λ r. Ok (record { node = record { addr = a.0.0; fact = f.0.0; succ = s.0; rank = r.0 }; left = length a.0.1 }, r.1)) z f.2 in
    let r = bind_ok (rank_at cells s.0.1) (λ r. Ok (record { node = record { addr = a.0.0; fact = f.0.0; succ = s.0.0; rank = r.0 }; left = length a.0.1 }, r.1)) z s.2 in
    let t0 = below_takes (2 ^ 20) bytes a.0 fits a.1 in
    let t1 = known_takes v cells a.0.1 f.0 few t0.0.rest_fits f.1 in
    let t2 = numbers_takes MOST_SUCCESSORS count f.0.1 s.0 low t1.0.rest_fits s.1 in
    let t3 = rank_takes cells s.0.1 r.0 t2.0.rest_fits r.1 in
    let e2 = Takes-then f.0.1 (counted_bytes word_bytes s.0.0) s.0.1 (rank_bytes r.0.0) r.0.1 t2.0 t3.0 in
    let e1 = Takes-then a.0.1 (known_bytes v f.0.0) f.0.1 _ r.0.1 t1.0 e2 in
    let e0 = Takes-then bytes (word_bytes a.0.0) a.0.1 _ r.0.1 t0.0 e1 in
    let made : Placed × List ℕ = (record { node = record { addr = a.0.0; fact = f.0.0; succ = s.0.0; rank = r.0.0 }; left = length a.0.1 }, r.0.1) in
    let within : IsNodeIn v cells count made.0.node = record { limits = record { addr = t0.1; fact = t1.1.fact; few = t2.1; succ = t2.2; rank = t3.1 }; known = t1.1.known } in
    subst (λ (w : Placed × List ℕ). Takes bytes (node_bytes v w.0.node) w.1 × IsNodeIn v cells count w.0.node) (ok_is made z r.2) (e0, within)

-- the node as it is read: its tag stands after the four bytes of its address
abbrev pub placed_before : Version → NodeOf Val → List ℕ → Placed
placed_before v n rest = record { node = n; left = length (known_bytes v n.fact ++ (counted_bytes word_bytes n.succ ++ (rank_bytes n.rank ++ rest))) }

pub node_again : (v : Version) (cells count : ℕ) (n : NodeOf Val) (rest : List ℕ) → count ≤ 2 ^ 32 → IsNodeIn v cells count n → placed_at v cells count (node_bytes v n ++ rest) ≡ Ok (placed_before v n rest, rest)
unfolding placed_at node_bytes
node_again v cells count n rest low h =
    let ranked = rank_bytes n.rank ++ rest in
    let listed = counted_bytes word_bytes n.succ ++ ranked in
    let known = known_bytes v n.fact ++ listed in
    let regrouped : node_bytes v n ++ rest ≡ word_bytes n.addr ++ known = parts (word_bytes n.addr) (known_bytes v n.fact) (counted_bytes word_bytes n.succ) (rank_bytes n.rank) rest in
    ap (placed_at v cells count) regrouped ∙ rw (below_again (2 ^ 20) n.addr known (omega arith) h.limits.addr, known_again v cells n.fact listed (record { fact = h.limits.fact; known = h.known }), numbers_again MOST_SUCCESSORS count n.succ ranked low h.limits.few h.limits.succ, rank_again cells n.rank rest h.limits.rank) refl
  where
    parts : (a k s r rest : List ℕ) → (a ++ (k ++ (s ++ r))) ++ rest ≡ a ++ (k ++ (s ++ (r ++ rest)))
    parts a k s r rest = simp append_assoc
