pub mod ThresholdLemmas
pub mod EndsLaws
