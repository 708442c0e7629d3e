pub mod Places
pub mod Texts
pub mod Examining
pub mod Fails
pub mod Judging
pub mod Asking
pub mod Laws
