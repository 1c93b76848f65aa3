-- One more form of a part is rewritten.
use Rattle.std.proofs.Common.{◌≡◌, ℕ, ◌+◌, ◌<◌, ◌≤◌, List, length, get_or, set, sym, ap, subst, ◌∙◌, inl, inr, arith, true, false, cond, Option, Some, None}
use Rattle.std.specs.List.{All, AllPairs}
use Rattle.std.proofs.lemmas.List.{get_or-set_same, get_or-set_other, get_or_default}
use Rattle.std.proofs.lemmas.Bool.{cases_lt, cases_Bool}
use Rattle.rank_numbers.specs.Forms.{Forms, in_limits}
use Rattle.rank_numbers.specs.Rows.{form_of, OthersStay}

-- the keys before one in ascending keys are others
pub others_before : (part : List ℕ) (i : ℕ) → AllPairs (λ a b. a < b) part → i < length part → (k : ℕ) → k < i → get_or part k 0 ≡ get_or part i 0 → ⊥
others_before part i h li k lt e = omega (arith, h k i 0 lt li)

module _ (Form : Type 0) (o : Forms Form) (before forms : List Form) (part : List ℕ) (i key : ℕ) (new : Form) (f : Form → Form)
    (lk : key < length forms) (at : get_or part i 0 ≡ key) (apart : (k : ℕ) → k < i → get_or part k 0 ≡ key → ⊥) (is : new ≡ f (form_of o before key)) where
  pub raise_more : ((k : ℕ) → k < i → form_of o forms (get_or part k 0) ≡ f (form_of o before (get_or part k 0)))
      → (k : ℕ) → k < i + 1 → form_of o (set forms key new) (get_or part k 0) ≡ f (form_of o before (get_or part k 0))
  raise_more old k lt = elim (cases_lt k i) [
    | inl below ↦ get_or-set_other forms key (get_or part k 0) new o.one (apart k below) ∙ old k below
    | inr ge ↦ let same : get_or part k 0 ≡ key = let e : k ≡ i = omega arith in ap (λ n. get_or part n 0) e ∙ at in
        subst (λ x. form_of o (set forms key new) x ≡ f (form_of o before x)) (sym same) (get_or-set_same forms key new o.one lk ∙ is)
  ]

  pub became_more : o.small new ≡ true
      → ((k : ℕ) → k < i → (form_of o forms (get_or part k 0) ≡ f (form_of o before (get_or part k 0))) × (o.small (form_of o forms (get_or part k 0)) ≡ true))
      → (k : ℕ) → k < i + 1 → (form_of o (set forms key new) (get_or part k 0) ≡ f (form_of o before (get_or part k 0))) × (o.small (form_of o (set forms key new) (get_or part k 0)) ≡ true)
  became_more small old k lt = (
    raise_more (λ j lj. (old j lj).0) k lt,
    elim (cases_lt k i) [
      | inl below ↦ ap o.small (get_or-set_other forms key (get_or part k 0) new o.one (apart k below)) ∙ (old k below).1
      | inr ge ↦ let same : get_or part k 0 ≡ key = let e : k ≡ i = omega arith in ap (λ n. get_or part n 0) e ∙ at in
          ap (λ x. o.small (form_of o (set forms key new) x)) same ∙ ap o.small (get_or-set_same forms key new o.one lk) ∙ small
    ],
  )

  pub raise_others : ((u : ℕ) → ((k : ℕ) → k < i → get_or part k 0 ≡ u → ⊥) → form_of o forms u ≡ form_of o before u)
      → (u : ℕ) → ((k : ℕ) → k < i + 1 → get_or part k 0 ≡ u → ⊥) → form_of o (set forms key new) u ≡ form_of o before u
  raise_others old u away = get_or-set_other forms key u new o.one (λ e. away i (omega arith) (at ∙ sym e)) ∙ old u (λ k lt. away k (omega arith))

-- what the limits say of a form
abbrev of_some : {Form : Type 0} → Form → Option Form → Form
of_some f None = f
of_some f (Some g) = g

some_same : (Form : Type 0) (f g : Form) → Some f ≡ Some g → f ≡ g
some_same Form f g h = ap (λ (x : Option Form). of_some f x) h

pub limits_some : {Form : Type 0} (o : Forms Form) (g f : Form) → Some f ≡ in_limits o g → (f ≡ g) × (o.small f ≡ true)
limits_some o g f h = elim (cases_Bool (o.small g)) [
  | inl t ↦ let e : f ≡ g = some_same _ f g (h ∙ ap (λ b. cond b (Some g) None) t) in (e, ap o.small e ∙ t)
  | inr n ↦ let none : Some f ≡ None = h ∙ ap (λ b. cond b (Some g) None) n in absurd (cc)
]

pub limits_none : {Form : Type 0} (o : Forms Form) (g : Form) → None ≡ in_limits o g → o.small g ≡ false
limits_none o g h = elim (cases_Bool (o.small g)) [
  | inl t ↦ let some : None ≡ Some g = h ∙ ap (λ b. cond b (Some g) None) t in absurd (cc)
  | inr n ↦ n
]

-- what holds of the keys so far holds of a part
pub others_stay : (Form : Type 0) (o : Forms Form) (part : List ℕ) (before after : List Form) (i : ℕ) → i ≤ length part
    → ((u : ℕ) → ((k : ℕ) → k < i → get_or part k 0 ≡ u → ⊥) → form_of o after u ≡ form_of o before u) → OthersStay o part before after
others_stay Form o part before after i le h u away = h u (λ k lt e. away (k, omega arith, get_or_default part k u 0 (omega arith) ∙ e))

pub all_raised : (P : ℕ → Type 0) (part : List ℕ) → ((k : ℕ) → k < length part → P (get_or part k 0)) → All P part
all_raised P part h k d lk = subst P (get_or_default part k 0 d lk) (h k lk)
