pub mod IntervalCode
pub mod IntervalExact
