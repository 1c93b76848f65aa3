-- Where there is a small solution, no fault but want of memory can be true.
use Rattle.std.proofs.Common.{◌≡◌, ◌≤◌, true, false, ◌||◌, Option, None, Some, IfSome, IsSomeAnd, List, [], ◌∷◌, length, sym, ap, subst, ◌∙◌, arith}
use Rattle.std.proofs.lemmas.Bool.{false≢true}
use Rattle.std.proofs.lemmas.Map.Made.{length-le_from_is_member}
use Rattle.std.specs.List.{AllByRecursion, list_any}
use Rattle.abs_step.specs.declared.outcome.Cond.{Cond}
use Rattle.flow_recover.specs.declared.key.Key.{Key}
use Rattle.flow_recover.specs.Keys.{same_key}
use Rattle.flow_recover.proofs.KeyLemmas.{same_key-true, same_key_equiv}
use Rattle.fix_solver.specs.declared.fault.SolveFault.{SolveFault}
use Rattle.fix_solver.specs.declared.fault.SolveFault.TheVariants.{Undischarged, Nodes, Memory}
use Rattle.fix_solver.specs.Rules.{Rules}
use Rattle.fix_solver.specs.Solutions.{IsSolution, IsEverywhere, HasKeys}
use Rattle.fix_solver.specs.Faults.{IsTrueFault, IsMemory}
use Rattle.fix_solver.proofs.Given.{by_bool}

-- what holds of all keys of a list holds of each that is in it
held_of : (P : Key → Type 0) (ks : List Key) (k : Key) → AllByRecursion P ks → list_any (same_key k) ks ≡ true → P k
held_of P [] k h e = absurd (false≢true e)
held_of P (l ∷ ls) k h e =
    by_bool (same_key k l) (λ t. subst P (sym (same_key-true k l t)) h.0)
    (λ t. held_of P ls k h.1 (sym (ap (λ b. b || list_any (same_key k) ls) t) ∙ e))

module _ {F : Type 0} (r : Rules F) where
  pub only_memory : (m : Key → Option F) (ks : List Key) → IsSolution r m → HasKeys m ks → length ks ≤ 65536 → (x : SolveFault) → IsTrueFault r x → IsMemory x
  only_memory m ks s h few (Undischarged k c) x = by (m k) (x m s.candidate) (s.keeps k)
    where
      by : (o : Option F) → IsSomeAnd o (λ f. r.keeps k f c ≡ false) → IfSome o (λ f. (d : Cond) → r.keeps k f d ≡ true) → ⊥
      by None a b = a
      by (Some f) a b = false≢true (sym a ∙ b c)
  only_memory m ks s h few (Nodes ls) x =
      let most = length-le_from_is_member same_key_equiv ls.items ks x.distinct (λ q e. h q (held_of (λ k. IsEverywhere r k) ls.items q x.everywhere e m s.candidate)) in
      let count = x.count in
      absurd (omega arith)
  only_memory m ks s h few Memory x = tt
