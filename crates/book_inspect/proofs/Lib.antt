pub mod Booking
pub mod Filing
pub mod Turning
pub mod Comparing
pub mod Looking
