pub mod Placed
pub mod PlanReading
