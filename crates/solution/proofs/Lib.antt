pub mod DecidingLemmas
pub mod Solutions
