pub mod AmongLemmas
pub mod LaunchLemmas
pub mod TakingLemmas
pub mod ThereLemmas
pub mod EndLemmas
pub mod OwnLemmas
pub mod FileLemmas
pub mod LockLemmas
