-- The best sum over one more part, and offsets in an order in which no part leads into a later one.
use Rattle.std.proofs.Common.{◌≡◌, ℕ, ◌+◌, ◌<◌, ◌⊎◌, inl, inr, List, [], ◌∷◌, length, get_or, set, take, replicate, refl, sym, ap, subst, ◌∙◌, arith, ◌*◌, ◌^◌, ◌-◌, ◌≤◌, to_z, of_z}
use Rattle.std.specs.Prelude.{ℤ, pos, negsuc, ◌+ℤ◌, ◌≤ℤ◌}
use mir.Syntax.{w128}
use mir.Val.{SFits}
use Rattle.std.specs.Int.Signed.{mag}
use Rattle.std.specs.List.{Contains}
use Rattle.std.specs.declared.alloc.Global.{Global}
use Rattle.std.specs.declared.vec.Vec.{Vec}
use Rattle.std.proofs.lemmas.Int.{ints, to_z-of_z}
use Rattle.std.proofs.lemmas.List.{take_more, get_or-replicate, length-replicate, get_or_past, get_or-set_same, get_or-set_other, get_or-map}
use Rattle.std.proofs.lemmas.List.Elements.{Contains-push_cases, Contains-push, Contains-append_left}
use Rattle.std.proofs.lemmas.Bool.{cases_lt, cases_eq}
use Rattle.rank_numbers.specs.Offsets.{AreBounded, leads_at, number_at, IsBest, IsMost, LeadsBack}

pub none_best : (greatest offset : List ℤ) → IsBest [] greatest offset (pos 0)
none_best greatest offset = record {
  least = omega (arith, ints);
  bound = λ q c. absurd (omega (arith, c.1));
  attained = inl refl;
}

pub best_more : (leads : List ℕ) (i : ℕ) (greatest offset : List ℤ) (b sum r : ℤ) → i < length leads
    → sum ≡ number_at offset (get_or leads i 0) +ℤ number_at greatest (get_or leads i 0)
    → b ≤ℤ r → sum ≤ℤ r → (r ≡ b) ⊎ (r ≡ sum)
    → IsBest (take i leads) greatest offset b → IsBest (take (i + 1) leads) greatest offset r
best_more leads i greatest offset b sum r li is le ge one h =
    let q : ℕ = get_or leads i 0 in
    subst (λ x. IsBest x greatest offset r) (sym (take_more leads i 0 li)) (record {
      least = omega (arith, ints, h.least);
      bound = λ p c. elim (Contains-push_cases (take i leads) q p c) [
        | inl old ↦ omega (arith, ints, h.bound p old)
        | inr new ↦ subst (λ x. (number_at offset x +ℤ number_at greatest x) ≤ℤ r) new (omega (arith, ints, is))
      ];
      attained = elim one [
        | inl e ↦ elim h.attained [ inl z ↦ inl (e ∙ z) | inr a ↦ inr (a.0, Contains-append_left (take i leads) (q ∷ []) a.0 a.1, e ∙ a.2) ]
        | inr e ↦ inr (q, Contains-push (take i leads) q, e ∙ is)
      ];
    })

-- a best sum doesn't hang on the offsets of other parts
best_stays : (leads : List ℕ) (greatest offset : List ℤ) (b new : ℤ) (p : ℕ) → (Contains leads p → ⊥) → IsBest leads greatest offset b → IsBest leads greatest (set offset p new) b
best_stays leads greatest offset b new p away h =
    let same : (q : ℕ) → Contains leads q → number_at (set offset p new) q ≡ number_at offset q =
    λ q c. get_or-set_other offset p q new (pos 0) (λ e. away (subst (λ x. Contains leads x) e c)) in
    record {
      least = h.least;
      bound = λ q c. omega (arith, ints, h.bound q c, same q c);
      attained = elim h.attained [ inl z ↦ inl z | inr a ↦ inr (a.0, a.1, a.2 ∙ ap (λ x. x +ℤ number_at greatest a.0) (sym (same a.0 a.1))) ];
    }

-- one more part has its offset
pub offset_more : (leads : List (Vec ℕ Global)) (order : List ℕ) (greatest offset : List ℤ) (i : ℕ) (most : ℤ) → LeadsBack leads order → i < length order → length offset ≡ length leads
    → IsBest (leads_at leads (get_or order i 0)) greatest offset most
    → ((k : ℕ) → k < i → IsBest (leads_at leads (get_or order k 0)) greatest offset (number_at offset (get_or order k 0)))
    → (k : ℕ) → k < i + 1 → IsBest (leads_at leads (get_or order k 0)) greatest (set offset (get_or order i 0) most) (number_at (set offset (get_or order i 0) most) (get_or order k 0))
offset_more leads order greatest offset i most back li len new old k lt =
    let p : ℕ = get_or order i 0 in
    elim (cases_lt k i) [
      | inl below ↦
          let apart = back.not_later k i 0 below li in
          subst (λ x. IsBest (leads_at leads (get_or order k 0)) greatest (set offset (get_or order i 0) most) x) (sym (get_or-set_other offset p (get_or order k 0) most (pos 0) apart.0))
          (best_stays (leads_at leads (get_or order k 0)) greatest offset (number_at offset (get_or order k 0)) most p apart.1 (old k below))
      | inr ge ↦
          let is : i ≡ k = omega arith in
          let here : IsBest (leads_at leads (get_or order i 0)) greatest (set offset (get_or order i 0) most) (number_at (set offset (get_or order i 0) most) (get_or order i 0)) =
          subst (λ x. IsBest (leads_at leads (get_or order i 0)) greatest (set offset (get_or order i 0) most) x)
          (sym (get_or-set_same offset p most (pos 0) (omega (arith, back.within i 0 li, len))))
          (best_stays (leads_at leads (get_or order i 0)) greatest offset most most p (back.not_own p) new) in
          subst (λ n. IsBest (leads_at leads (get_or order n 0)) greatest (set offset (get_or order i 0) most) (number_at (set offset (get_or order i 0) most) (get_or order n 0))) is here
    ]

-- the parts that a part leads into, as they are read
pub leads_read : (leads : List (Vec ℕ Global)) (p : ℕ) (v : Vec ℕ Global) → p < length leads → v ≡ get_or leads p v → leads_at leads p ≡ v.items
leads_read leads p v lp read = get_or-map (λ (w : Vec ℕ Global). w.items) leads p v [] lp ∙ ap (λ (w : Vec ℕ Global). w.items) (sym read)

pub none_most : (greatest offset : List ℤ) (m : ℤ) → 0 < length offset → m ≡ number_at offset 0 +ℤ number_at greatest 0 → IsMost greatest offset 0 m
none_most greatest offset m some is = record { bound = λ p lp. absurd (omega arith); attained = (0, some, is) }

pub most_more : (greatest offset : List ℤ) (i : ℕ) (b sum r : ℤ) → i < length offset → sum ≡ number_at offset i +ℤ number_at greatest i
    → b ≤ℤ r → sum ≤ℤ r → (r ≡ b) ⊎ (r ≡ sum) → IsMost greatest offset i b → IsMost greatest offset (i + 1) r
most_more greatest offset i b sum r li is le ge one h = record {
  bound = λ p lp. elim (cases_lt p i) as (λ _. (number_at offset p +ℤ number_at greatest p) ≤ℤ r) [
    | inl below ↦ omega (arith, ints, h.bound p below)
    | inr above ↦ let at : i ≡ p = omega arith in subst (λ n. (number_at offset n +ℤ number_at greatest n) ≤ℤ r) at (omega (arith, ints, is))
  ];
  attained = elim one [ inl e ↦ (h.attained.0, h.attained.1, e ∙ h.attained.2) | inr e ↦ (i, li, e ∙ is) ];
}

-- a number's size by its bounds
low_of : (b : ℤ) → mag b < 2 ^ 127 → negsuc (2 ^ 127 - 1) ≤ℤ b
low_of (pos n) f = omega (arith, ints)
low_of (negsuc n) f = omega (arith, ints)

mag_of : (z : ℤ) → negsuc (2 ^ 127 - 1) ≤ℤ z → z ≤ℤ pos (2 ^ 127 - 1) → mag z < 2 ^ 127
mag_of (pos n) l h = omega (arith, ints, h)
mag_of (negsuc n) l h = omega (arith, ints, l)

-- a sum of an offset and a greatest value fits
pub sum_fits : (greatest offset : List ℤ) (q : ℕ) → AreBounded greatest offset (2 ^ 63) → SFits w128 (number_at greatest q) → SFits w128 (number_at offset q +ℤ number_at greatest q)
sum_fits greatest offset q b f = record { sfits = fits (number_at offset q) (number_at greatest q) (b.least q) (b.most q) (b.limited q) f.sfits }
  where
    fits : (a b : ℤ) → pos 0 ≤ℤ a → a ≤ℤ pos (2 ^ 63 * 2 ^ 62) → b ≤ℤ pos (2 ^ 62) → mag b < 2 ^ 127 → mag (a +ℤ b) < 2 ^ 127
    fits a b la ma mb fb = mag_of (a +ℤ b) (omega (arith, ints, low_of b fb)) (omega (arith, ints))

-- as it is read
pub sum_read : (greatest offset : List ℤ) (q : ℕ) → AreBounded greatest offset (2 ^ 63) → SFits w128 (number_at greatest q) → SFits w128 (number_at offset q)
    → to_z w128 (of_z w128 (to_z w128 (of_z w128 (number_at offset q)) +ℤ to_z w128 (of_z w128 (number_at greatest q)))) ≡ number_at offset q +ℤ number_at greatest q
sum_read greatest offset q b f g =
    let wo = to_z-of_z w128 (number_at offset q) g in
    let wg = to_z-of_z w128 (number_at greatest q) f in
    ap (λ x. to_z w128 (of_z w128 (x +ℤ to_z w128 (of_z w128 (number_at greatest q))))) wo
    ∙ ap (λ x. to_z w128 (of_z w128 (number_at offset q +ℤ x))) wg
    ∙ to_z-of_z w128 (number_at offset q +ℤ number_at greatest q) (sum_fits greatest offset q b f)

-- offsets so far are sums of so many greatest values
pub bounds_more : (leads : List ℕ) (greatest offset : List ℤ) (n p : ℕ) (new : ℤ) → p < length offset → AreBounded greatest offset n → IsBest leads greatest offset new
    → AreBounded greatest (set offset p new) (n + 1)
bounds_more leads greatest offset n p new lp b h =
    let below : new ≤ℤ pos ((n + 1) * 2 ^ 62) = elim h.attained as (λ _. new ≤ℤ pos ((n + 1) * 2 ^ 62)) [
      | inl z ↦ omega (arith, ints, z)
      | inr a ↦ omega (arith, ints, a.2, b.most a.0, b.limited a.0)
    ] in
    let read : (q : ℕ) → (number_at (set offset p new) q ≡ new) ⊎ (number_at (set offset p new) q ≡ number_at offset q) =
    λ q. elim (cases_eq p q) [
      | inl same ↦ inl (subst (λ x. number_at (set offset p new) x ≡ new) same (get_or-set_same offset p new (pos 0) lp))
      | inr ne ↦ inr (get_or-set_other offset p q new (pos 0) (λ e. ne (sym e)))
    ] in
    record {
      least = λ q. elim (read q) as (λ _. pos 0 ≤ℤ number_at (set offset p new) q) [ inl e ↦ omega (arith, ints, e, h.least) | inr e ↦ omega (arith, ints, e, b.least q) ];
      most = λ q. elim (read q) as (λ _. number_at (set offset p new) q ≤ℤ pos ((n + 1) * 2 ^ 62)) [ inl e ↦ omega (arith, ints, e, below) | inr e ↦ omega (arith, ints, e, b.most q) ];
      limited = b.limited;
    }

pub bounds_none : (greatest offset : List ℤ) → ((q : ℕ) → number_at offset q ≡ pos 0) → ((q : ℕ) → number_at greatest q ≤ℤ pos (2 ^ 62)) → AreBounded greatest offset 0
bounds_none greatest offset zero small = record {
  least = λ q. omega (arith, ints, zero q);
  most = λ q. omega (arith, ints, zero q);
  limited = small;
}

pub bounds_weaken : (greatest offset : List ℤ) (n k : ℕ) → n ≤ k → AreBounded greatest offset n → AreBounded greatest offset k
bounds_weaken greatest offset n k le b = record { least = b.least; most = λ q. omega (arith, ints, b.most q); limited = b.limited }

pub all_zero : (xs : List ℤ) (n : ℕ) → xs ≡ replicate n (pos 0) → (q : ℕ) → number_at xs q ≡ pos 0
all_zero xs n is q = elim (cases_lt q n) [
  | inl lt ↦ ap (λ x. get_or x q (pos 0)) is ∙ get_or-replicate n q (pos 0) (pos 0) lt
  | inr ge ↦ get_or_past xs q (pos 0) (omega (arith, ap length is, length-replicate n (pos 0)))
]
