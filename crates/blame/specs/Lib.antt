pub mod Marking
pub mod Parts
pub mod Shrinking
