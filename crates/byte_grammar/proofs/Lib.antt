pub mod Parts
pub mod Fields
pub mod Fronts
pub mod Skips
pub mod Tags
pub mod Wholes
pub mod GatedLaws
