pub mod CellLemmas
pub mod KeyLemmas
pub mod OrderLemmas
pub mod ReturnLemmas
pub mod ThresholdLemmas
