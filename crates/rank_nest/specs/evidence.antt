-- That the forms of a solution keep the laws of ranks: for the prover alone.
pub mod FormsLaws
pub mod Steps
