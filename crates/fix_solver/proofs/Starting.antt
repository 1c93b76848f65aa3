-- The starts are given to an empty table, one after the other.
use Rattle.std.proofs.Common.{◌≡◌, ◌≢◌, ℕ, suc, ◌+◌, ◌-◌, ◌<◌, ◌≤◌, ◌⊎◌, min, nat_eq, true, false, Option, None, Some, List, [], ◌∷◌, length, take, slice_get, refl, sym, subst, ◌∙◌, ⊎_elim, arith}
use Rattle.std.proofs.lemmas.Bool.{false≢true, eqb-true, eqb-false}
use Rattle.std.specs.List.{AllByRecursion}
use Rattle.flow_recover.specs.declared.key.Key.{Key}
use Rattle.fix_solver.specs.declared.at.At.{At}
use Rattle.fix_solver.specs.Pending.{is_pending}
use Rattle.fix_solver.specs.Rules.{Rules, RulesLaws, Fits, Included, MapBelow}
use Rattle.fix_solver.specs.Tables.{TableOf, fact_at}
use Rattle.fix_solver.specs.Work.{IsWork, IsForced, IsGiven}
use Rattle.fix_solver.proofs.Given.{all_through, included_given, grows}
use Rattle.fix_solver.proofs.Taking.{all_at, all_take}
use Rattle.fix_solver.proofs.Working.{work-given}

pub none_pending : (k : Key) → is_pending [] k ≡ false
unfolding is_pending
none_pending k = λ i. false

pub nil_from_length : (ks : List Key) → nat_eq (length ks) 0 ≡ true → ks ≡ []
nil_from_length [] h = refl
nil_from_length (k ∷ ks) h = let e = eqb-true (suc (length ks)) 0 h in absurd (omega arith)

-- with a round a key is new, or nothing is pending any more
pub round_falls : (n m p q : ℕ) → m ≤ 65536 → nat_eq p 0 ≡ false → (n < m) ⊎ ((m ≡ n) × (q ≡ 0)) → 65536 - m + min 1 q < 65536 - n + min 1 p
round_falls n m p q few some h =
    let apart : p ≢ 0 = eqb-false p 0 some in
    ⊎_elim (λ a. omega arith) (λ a. let e = a.0 in let z = a.1 in omega arith) h

module _ {F : Type 0} (r : Rules F) (laws : RulesLaws r) where
  pub work_first : IsWork r (record { known = []; succ = [] }) (is_pending [])
  work_first = record {
    fit = tt;
    listed = λ k h. absurd (false≢true (sym (none_pending k) ∙ h));
    least = λ n c k. tt;
    done = λ k f h e. absurd (none_some None f refl e);
  }
    where
      none_some : (o : Option F) (f : F) → o ≡ None → o ≡ Some f → ⊥
      none_some o f d e = cc

  pub work_gives : (t : TableOf F) (p : List Key) (e : At F) (u : TableOf F) (q : List Key) (n : ℕ) → IsWork r t (is_pending p) → Fits r e.fact → IsForced r e → IsGiven r t p e u q n → IsWork r u (is_pending q)
  work_gives t p e u q n w fits forced gives =
      ⊎_elim
      (λ a. subst (λ l. IsWork r l (is_pending q)) (sym a.0) (subst (λ l. IsWork r t (is_pending l)) (sym a.1) w))
      (λ b. let made = work-given r laws t (is_pending p) (is_pending q) e u.succ w fits forced gives.succ b in
      subst (λ l. IsWork r (record { known = l; succ = u.succ }) (is_pending q)) (sym gives.known) made)
      gives.puts

  -- the first i starts are given
  pub record IsStarting (t : TableOf F) (p : List Key) (i : ℕ) : Type 0 where
    pub work : IsWork r t (is_pending p)
    pub starts : AllByRecursion (Included r (fact_at t.known)) (take i r.starts)

  pub start_forced : (i : ℕ) (e : At F) → slice_get r.starts i ≡ Some e → IsForced r e
  start_forced i e at = λ n c. all_at (Included r n) r.starts i e c.starts at

  pub start_fits : (i : ℕ) (e : At F) → slice_get r.starts i ≡ Some e → Fits r e.fact
  start_fits i e at = all_at (λ o. Fits r o.fact) r.starts i e laws.starts_fit at

  pub starting_more : (t : TableOf F) (p : List Key) (i : ℕ) (e : At F) (u : TableOf F) (q : List Key) (n : ℕ) → IsStarting t p i → slice_get r.starts i ≡ Some e → IsGiven r t p e u q n → IsStarting u q (suc i)
  starting_more t p i e u q n h at gives =
      let fits = start_fits i e at in
      let grown : MapBelow r (fact_at t.known) (fact_at u.known) = subst (λ l. MapBelow r (fact_at t.known) (fact_at l)) (sym gives.known) (grows r laws t.known e h.work.fit fits) in
      record {
        work = work_gives t p e u q n h.work fits (start_forced i e at) gives;
        starts = all_take (Included r (fact_at u.known)) r.starts i e (all_through r laws (fact_at t.known) (fact_at u.known) grown (take i r.starts) h.starts) (subst (λ l. Included r (fact_at l) e) (sym gives.known) (included_given r laws t.known e h.work.fit fits)) at;
      }
