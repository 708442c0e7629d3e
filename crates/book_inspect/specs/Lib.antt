pub mod Entries
pub mod KnownEntries
pub mod Order
pub mod KnownOrder
pub mod Book
pub mod Seen
pub mod Copies
pub mod KnownCopies
