pub mod EraPlaces
pub mod EraClashes
pub mod Leaves
pub mod LawProofs
pub mod Answered
pub mod Entries
pub mod FileTold
pub mod Written
