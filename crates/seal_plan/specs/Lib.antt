pub mod Grouped
pub mod Plan
