-- What local conditions over a plan that was read say of its runs.
use Rattle.std.proofs.Common.{◌≡◌, ℕ, ◌+◌, ◌<◌, ◌≤◌, true, false, List, [], ◌∷◌, length, sym, ap, subst, ◌∙◌, arith}
use Rattle.memory_plan.specs.Images.{ImageWords, IsImage}
use Rattle.memory_plan.specs.Plans.{PlanLines}
use Rattle.memory_plan.specs.PlanText.{IsPlan, has_some}
use Rattle.memory_plan.specs.Runs.{CanRun}
use Rattle.memory_plan.specs.WellFormed.{IsWellFormed}
use Rattle.memory_plan.specs.declared.start.Start.{Start}
use Rattle.memory_plan.proofs.ImageFits.{image_fits}
use Rattle.memory_plan.proofs.RunsExist.{well_formed_runs}
use Rattle.memory_plan.proofs.WholePlans.{plan_well}
use Rattle.viper_word.specs.Machine.{State}
use Rattle.peripheral_run.specs.Runs.{Outcome}
use Rattle.peripheral_run.specs.ScriptRuns.{IsRunOver, has_stopped}
use Rattle.val_dom.specs.Vals.{vals}
use Rattle.val_dom.specs.evidence.ValLaws.{val_laws}
use Rattle.flag_relation.proofs.AllLaws.{fact_laws}
use Rattle.abs_step.specs.StepLaws.{Ascend}
use Rattle.abs_step.proofs.AllStepLaws.{step_laws}
use Rattle.rank_form.proofs.StateLaws.{bound_laws}
use Rattle.cert_format.specs.Limits.{AreCells}
use Rattle.cert_checker.specs.Claims.{Suffices}
use Rattle.cert_checker.proofs.Filled.{filled_cells}
use Rattle.cert_checker.proofs.Runs.{suffices}
use Rattle.viper_top.specs.Certificates.{Certificate, IsCertificate, Local, Holds, bounds_of, full, once}
use Rattle.viper_top.specs.Headlines.{IsUnstopped}

-- ---- the plan

pub plan_is_well : (image_bytes : List ℕ) (words : ImageWords) (plan_bytes : List ℕ) (lines : PlanLines) → IsImage image_bytes words → IsPlan words plan_bytes lines → IsWellFormed lines
plan_is_well image_bytes words plan_bytes lines image plan = plan_well words plan_bytes lines (image_fits image_bytes words image) plan

some_start : (starts : List Start) → has_some starts ≡ true → 0 < length starts
some_start [] e = absurd (cc)
some_start (s ∷ ss) e = omega arith

pub plan_can_run : (words : ImageWords) (plan_bytes : List ℕ) (lines : PlanLines) → IsWellFormed lines → IsPlan words plan_bytes lines → CanRun lines
plan_can_run words plan_bytes lines well plan =
    well_formed_runs lines well (some_start lines.starts (subst (λ (p : PlanLines). has_some p.starts ≡ true) (sym plan.is) plan.whole.whole))

-- ---- the certificate

ascending : (from : ℕ) (cells : List ℕ) → AreCells from cells → Ascend cells
ascending from [] h = tt
ascending from (c ∷ []) h = tt
ascending from (c ∷ b ∷ cells) h =
    let rest : AreCells (c + 1) (b ∷ cells) = h.2 in
    let above : c + 1 ≤ b = rest.0 in
    (omega (arith, above), ascending (c + 1) (b ∷ cells) rest)

pub cells_ascend : (bytes : List ℕ) (c : Certificate) → IsCertificate bytes c → Ascend c.cells
cells_ascend bytes c (v, is) = ascending 0 c.cells is.limits.cells

-- ---- its runs

pub local_suffices : (lines : PlanLines) (c : Certificate) → IsWellFormed lines → Ascend c.cells → Local lines c → Suffices vals lines once (full lines c)
local_suffices lines c well up local =
    let whole = full lines c in
    let ascend : Ascend whole.cells = subst (λ (cells : List ℕ). Ascend cells) (sym (filled_cells vals lines c)) up in
    suffices vals lines once whole (fact_laws vals val_laws) (bound_laws vals val_laws) (step_laws vals val_laws lines whole.cells) well ascend (λ at. omega arith) local

pub local_holds : (lines : PlanLines) (c : Certificate) → IsWellFormed lines → Ascend c.cells → Local lines c → Holds lines (bounds_of lines c)
local_holds lines c well up local = (local_suffices lines c well up local).holds

-- a run of a safe plan isn't stopped
pub never_stopped : (lines : PlanLines) (steps : ℕ) (answers : List ℕ) (start : State) (o : Outcome) → IsWellFormed lines → IsRunOver lines steps answers start o → IsUnstopped lines o
never_stopped lines steps answers start o well runs = λ c up local.
    let safe = (local_holds lines c well up local).safe runs.states runs.answers runs.run in
    sym runs.stop ∙ safe.running (length runs.answers) o.last runs.last
