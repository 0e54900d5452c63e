pub mod MarkingLemmas
pub mod PartLemmas
pub mod ShortLemmas
pub mod OwnerLemmas
pub mod OwnedLemmas
pub mod ShrinkingLemmas
