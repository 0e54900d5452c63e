pub mod Arguments
pub mod Output
pub mod Parts
pub mod Sending
pub mod SendingLemmas
pub mod DigitsLemmas
pub mod Gathering
pub mod GatheringLemmas
