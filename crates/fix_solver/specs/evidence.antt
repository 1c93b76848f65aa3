-- That the rules of a plan keep the laws: for the prover alone.
pub mod OutcomeCells
pub mod PlanLaws
