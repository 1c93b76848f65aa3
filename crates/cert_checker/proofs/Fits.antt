-- Where no condition fails each marker's bound fits.
use Rattle.std.proofs.Common.{◌≡◌, ℕ, ◌-◌, ◌<◌, ◌^◌, ◌==◌, ◌||◌, Bool, true, false, not, List, [], ◌∷◌, None, refl, sym, ap, subst, ℤ, pos, negsuc, int_le, unsigned_abs, ◌≤ℤ◌, arith}
use Rattle.std.specs.List.{AllByRecursion}
use Rattle.std.proofs.lemmas.Bool.Decides.{Decides-eqb}
use Rattle.std.proofs.lemmas.Int.{ints}
use Rattle.num_domain.specs.Domain.{Domain}
use Rattle.memory_plan.specs.Plans.{PlanLines, has_marker, is_marker}
use Rattle.rank_form.specs.Bounds.{upper, lower}
use Rattle.rank_form.specs.Laws.{FormLaws}
use Rattle.cert_format.specs.Certificates.{NodeOf, CertificateOf}
use Rattle.cert_checker.specs.Conditions.{known, c9, c11, node_fault}
use Rattle.cert_checker.specs.Small.{IsSmallAt, AreSmallAt}
use Rattle.std.proofs.Common.{Ok}
use Rattle.cert_checker.specs.Verdicts.{first_of, cell_refusal, start_refusal, node_refusal, first_failure, bounds_of, verdict_from, verdict_of}
use Rattle.cert_checker.proofs.First.{or_none, each_passes}
use Rattle.cert_checker.proofs.Exact.{map_none}
use Rattle.cert_checker.proofs.Nodes.{node_keeps}

-- each marker of a list passes where each that it has does
each_marker : (P : ℕ → Type 0) (ms : List ℕ) → ((m : ℕ) → has_marker ms m ≡ true → P m) → AllByRecursion P ms
each_marker P [] h = tt
each_marker P (m ∷ ms) h = (h m (first_has m), each_marker P ms (λ k e. h k (later_has m k e)))
  where
    first_has : (m : ℕ) → ((m == m) || has_marker ms m) ≡ true
    first_has m = ap (λ (b : Bool). b || has_marker ms m) ((Decides-eqb m m).1 refl)

    later_has : (m k : ℕ) → has_marker ms k ≡ true → ((m == k) || has_marker ms k) ≡ true
    later_has m k e = or_second (m == k) (has_marker ms k) e
      where
        or_second : (b c : Bool) → c ≡ true → (b || c) ≡ true
        or_second true c h = refl
        or_second false c h = h

small : (u l : ℤ) (p : ℕ) → pos p ≤ℤ l → l ≤ℤ u → u ≤ℤ pos (2 ^ 63 - 1) → unsigned_abs u < 2 ^ 64
small (pos n) l p a b e = omega (arith, ints, e)
small (negsuc n) l p a b e = absurd (omega (arith, ints, a, b))

not_other : (b c : Bool) → (not b || c) ≡ true → b ≡ true → c ≡ true
not_other true c h e = h
not_other false c h e = absurd (cc)

le_of : (r q : ℤ) → int_le r q ≡ true → r ≤ℤ q
le_of r q h = grind (arith, ints)

module _ {T : Type 0} (d : Domain T) (plan : PlanLines) (price : ℕ → ℕ) (c : CertificateOf T) (laws : FormLaws d) where
  small_at : (at : ℕ) → is_marker plan at ≡ true → (n : NodeOf T) → node_fault d plan c.cells price c.nodes n ≡ None → IsSmallAt d c.cells at n
  unfolding c9 c11
  small_at at marker n h e live =
      let k = node_keeps d plan c.cells price c.nodes n live h in
      let x = known d c.cells n in
      let fits = not_other (is_marker plan n.addr) (int_le (upper d n.rank x) (pos (2 ^ 63 - 1))) k.fits (subst (λ (a : ℕ). is_marker plan a ≡ true) (sym e) marker) in
      small (upper d n.rank x) (lower d n.rank x) (price n.addr) (le_of (pos (price n.addr)) (lower d n.rank x) k.priced) (laws.ordered n.rank x) (le_of (upper d n.rank x) (pos (2 ^ 63 - 1)) fits)

  all_small : (at : ℕ) → is_marker plan at ≡ true → (ns : List (NodeOf T)) → AllByRecursion (λ m. node_fault d plan c.cells price c.nodes m ≡ None) ns → AllByRecursion (IsSmallAt d c.cells at) ns
  all_small at marker [] h = tt
  all_small at marker (n ∷ ns) h = (small_at at marker n h.0, all_small at marker ns h.1)

  pub bounds_fit : first_failure d plan price c ≡ None → AllByRecursion (AreSmallAt d c.cells c.nodes) plan.markers
  bounds_fit h =
      let cells = or_none (first_of (cell_refusal plan) 0 c.cells) _ h in
      let starts = or_none (first_of (start_refusal d plan c) 0 plan.starts) (first_of (node_refusal d plan price c) 0 c.nodes) cells.1 in
      let nodes = each_passes (node_refusal d plan price c) (λ (n : NodeOf T). node_fault d plan c.cells price c.nodes n ≡ None) (λ k n e. map_none _ (node_fault d plan c.cells price c.nodes n) e) 0 c.nodes starts.1 in
      each_marker (AreSmallAt d c.cells c.nodes) plan.markers (λ m e. all_small m e c.nodes nodes)

  pub yes_is : first_failure d plan price c ≡ None → Ok (bounds_of d plan c) ≡ verdict_of d plan price c
  unfolding verdict_of
  yes_is h = sym (ap (verdict_from (bounds_of d plan c)) h)
