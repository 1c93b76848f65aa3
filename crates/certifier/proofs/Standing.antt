-- Listed nodes that stand at distinct addresses.
use Rattle.std.proofs.Common.{◌≡◌, ℕ, ◌<◌, true, false, not, ◌&&◌, ◌||◌, ◌==◌, nat_eq, if◌then◌else◌, List, [], ◌∷◌, Some, refl, sym, ap, ap₂, ◌∙◌, ⊎_elim, arith}
use Rattle.std.specs.Prelude.{slice_get}
use Rattle.std.specs.List.{AllByRecursion, list_any}
use Rattle.std.specs.List.Sorted.{IsStrictlySortedBy}
use Rattle.std.specs.Ordering.{nat_cmp}
use Rattle.std.specs.declared.cmp.Ordering.TheVariants.{Less}
use Rattle.std.proofs.lemmas.Bool.{false≢true, true≢false, eqb-true, eq-eqb, cases_Bool}
use Rattle.std.proofs.lemmas.Cmp.{ranked}
use Rattle.cert_format.specs.Certificates.{NodeOf}
use Rattle.cert_checker.specs.Nodes.{stands_at, pick, successor, is_listed_at, is_repeated, are_distinct}

pub less_is : (x y : ℕ) → nat_cmp x y ≡ Less → x < y
less_is x y h = ranked x y Less (sym h)

module _ {T : Type 0} (nodes : List (NodeOf T)) (g : ℕ → NodeOf T) (P : ℕ → Type 0)
    (there : (j : ℕ) → P j → slice_get nodes j ≡ Some (g j)) (one : (i j : ℕ) → P i → P j → (g i).addr ≡ (g j).addr → i ≡ j) where
  none_there : (i : ℕ) (js : List ℕ) → P i → AllByRecursion P js → AllByRecursion (λ j. nat_cmp i j ≡ Less) js → is_listed_at nodes js (g i).addr ≡ false
  none_there i [] p ps l = refl
  none_there i (j ∷ js) p ps l =
      ⊎_elim
      (λ (t : ((g j).addr == (g i).addr) ≡ true).
      let same = one i j p ps.0 (sym (eqb-true (g j).addr (g i).addr t)) in
      let under = less_is i j l.0 in
      absurd (omega arith))
      (λ (f : ((g j).addr == (g i).addr) ≡ false).
      ap₂ ◌||◌ (ap (λ o. stands_at o (g i).addr) (there j ps.0) ∙ f) (none_there i js p ps.1 l.1))
      (cases_Bool ((g j).addr == (g i).addr))

  pub distinct : (js : List ℕ) → AllByRecursion P js → IsStrictlySortedBy nat_cmp js → are_distinct nodes js ≡ true
  unfolding IsStrictlySortedBy
  distinct [] ps s = refl
  distinct (j ∷ js) ps s =
      ap₂ ◌&&◌ (ap not (ap (λ o. is_repeated nodes o js) (there j ps.0) ∙ none_there j js ps.0 ps.1 s.0)) (distinct js ps.1 s.1)

  pub found : (js : List ℕ) (j at : ℕ) → AllByRecursion P js → P j → list_any (nat_eq j) js ≡ true → (g j).addr ≡ at → successor nodes js at ≡ Some (g j)
  found [] j at ps p h e = absurd (false≢true h)
  found (i ∷ js) j at ps p h e =
      ap (λ o. pick at o (successor nodes js at)) (there i ps.0)
      ∙ ⊎_elim
      (λ (t : ((g i).addr == at) ≡ true).
      let same = one i j ps.0 p (eqb-true (g i).addr at t ∙ sym e) in
      ap (λ b. if b then Some (g i) else successor nodes js at) t ∙ ap (λ k. Some (g k)) same)
      (λ (f : ((g i).addr == at) ≡ false).
      ap (λ b. if b then Some (g i) else successor nodes js at) f
      ∙ found js j at ps.1 p (rest f) e)
      (cases_Bool ((g i).addr == at))
    where
      rest : ((g i).addr == at) ≡ false → list_any (nat_eq j) js ≡ true
      rest f =
          ⊎_elim
          (λ (t : nat_eq j i ≡ true). absurd (true≢false (sym (eq-eqb (g i).addr at (sym (ap (λ k. (g k).addr) (eqb-true j i t)) ∙ e)) ∙ f)))
          (λ (n : nat_eq j i ≡ false). sym (ap (λ b. b || list_any (nat_eq j) js) n) ∙ h)
          (cases_Bool (nat_eq j i))
