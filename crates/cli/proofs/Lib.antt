pub mod Named
pub mod Leaving
