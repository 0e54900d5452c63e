pub mod ErrorLine
pub mod FaultRefusal
pub mod Pages
pub mod ReadFaults
pub mod Readings
pub mod RefusalLine
pub mod StoppedReads
pub mod TakingLemmas
