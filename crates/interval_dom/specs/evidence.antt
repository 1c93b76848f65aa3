-- What is proved of the definitions: no reader need believe it.
pub mod Forms
pub mod IntervalOrder
pub mod IntervalRows
pub mod IntervalRefine
pub mod IntervalLaws
