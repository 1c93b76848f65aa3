-- How a certification is refused, and how a sample ends.
use Rattle.std.proofs.Common.{◌≡◌, ◌≢◌, ◌∙◌, ap, ℕ, ◌≤◌, List, length, Option, Result, Ok, Err, subst, inl, inr}
use Rattle.std.specs.Prelude.{IfOk}
use Rattle.memory_plan.specs.Plans.{PlanLines}
use Rattle.viper_word.specs.declared.memory.Memory.{Memory}
use Rattle.flag_relation.specs.Facts.{FactOf}
use Rattle.flow_recover.specs.declared.key.Key.{Key}
use Rattle.fix_solver.specs.Solutions.{IsSolution, HasKeys, plan_rules}
use Rattle.val_dom.specs.declared.val.Val.{Val}
use Rattle.val_dom.specs.Vals.{vals}
use Rattle.cert_format.specs.declared.limits.TheConstants.{MOST_NODES}
use Rattle.certifier.specs.declared.fault.CertifyFault.{CertifyFault}
use Rattle.certifier.specs.declared.fault.CertifyFault.TheVariants as faults
use Rattle.certifier.specs.Faults.{IsCertifyFault, IsPastSolving}
use Rattle.certifier.specs.Made.{IsMade}
use Rattle.viper_top.specs.declared.answer.Answer.{Answer}
use Rattle.sample_program.specs.Samples.{sample_plan}
use Rattle.viper_top.specs.Certificates.{Certificate, Local, bounds_of}
use Rattle.viper_top.specs.Certify.{Certifies, EndsRefused, refusal_text}
use Rattle.viper_top.specs.Sample.{EndsSampled, Samples, sample_text}
use Rattle.viper_top.specs.Endings.{done, refused}
use Rattle.viper_top.specs.Stages.{ending_of}

-- a cause that is true of the plan, and its text
pub refused_so : (plan : PlanLines) (cause : CertifyFault) (r : Result Answer Memory) → IsCertifyFault vals plan cause
    → ((m : Key → Option (FactOf Val)) (ks : List Key) → IsSolution (plan_rules vals plan) m → HasKeys m ks → length ks ≤ MOST_NODES → IsPastSolving cause)
    → IfOk r (λ a. ending_of a ≡ refused (refusal_text cause)) → IfOk r (λ a. cause ≢ faults.Memory) → IfOk r (λ a. Certifies plan (ending_of a))
refused_so plan cause (Ok a) t s is other = inr (record { cause = cause; is_true = t; not_memory = other; solvable = s; is = is })
refused_so plan cause (Err e) t s is other = tt

-- and of a sample
pub sample_refused : (loops : ℕ) (plan : PlanLines) (cause : CertifyFault) (r : Result Answer Memory) → plan ≡ sample_plan loops → IsCertifyFault vals plan cause
    → ((m : Key → Option (FactOf Val)) (ks : List Key) → IsSolution (plan_rules vals plan) m → HasKeys m ks → length ks ≤ MOST_NODES → IsPastSolving cause)
    → IfOk r (λ a. ending_of a ≡ refused (refusal_text cause)) → IfOk r (λ a. cause ≢ faults.Memory) → IfOk r (λ a. Samples loops (ending_of a))
sample_refused loops plan cause (Ok a) e t s is other =
    let ends : EndsRefused plan (ending_of a) = record { cause = cause; is_true = t; not_memory = other; solvable = s; is = is } in
    inr (subst (λ (p : PlanLines). EndsRefused p (ending_of a)) e ends)
sample_refused loops plan cause (Err m) e t s is other = tt

-- the numbers of a certificate that was made for a sample's plan, and holds
pub sample_made : (loops : ℕ) (plan : PlanLines) (c : Certificate) (text : List ℕ) → plan ≡ sample_plan loops → IsMade vals plan c → Local plan c
    → text ≡ sample_text loops (length plan.image) (length c.nodes) (bounds_of plan c) → Samples loops (done text)
sample_made loops plan c text e made local is =
    let ends : EndsSampled loops (done text) = record {
      certificate = c;
      made_of = subst (λ (p : PlanLines). IsMade vals p c) e made;
      local = subst (λ (p : PlanLines). Local p c) e local;
      is = ap done (is ∙ ap (λ (p : PlanLines). sample_text loops (length p.image) (length c.nodes) (bounds_of p c)) e);
    } in
    inl ends
