pub mod Decides
pub mod Solves
