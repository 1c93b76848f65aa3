use Rattle.std.proofs.Common.{ℕ, List, sym, subst}
use Rattle.flag_relation.proofs.AllLaws.{fact_laws}
use Rattle.rank_form.proofs.StateLaws.{bound_laws}
use Rattle.abs_step.specs.StepLaws.{Ascend}
use Rattle.abs_step.proofs.AllStepLaws.{step_laws}
use Rattle.cert_checker.specs.Filling.{filled}
use Rattle.cert_checker.proofs.Filled.{filled_cells}
use Rattle.cert_checker.proofs.Runs.{suffices}
use Rattle.cert_checker.proofs.laws.local_conditions_suffice.Goals as goal

pub returns : goal.returns
returns g c = λ plan price cert well up priced local.
    let d = g.D.NumDomain.domain in
    let laws = g.met.D.NumDomain.laws in
    let full = filled d plan cert in
    let ascend : Ascend full.cells = subst (λ (cells : List ℕ). Ascend cells) (sym (filled_cells d plan cert)) up in
    suffices d plan price full (fact_laws d laws) (bound_laws d laws) (step_laws d laws plan full.cells) well ascend priced local
