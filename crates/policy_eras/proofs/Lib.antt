pub mod Reaching
pub mod Histories
pub mod Payloads
