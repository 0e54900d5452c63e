pub mod Fuse
pub mod Burning
pub mod FuseLemmas
