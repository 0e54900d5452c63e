pub mod Listing
pub mod SetTexts
pub mod Entries
pub mod Seen
pub mod ContainerLines
pub mod NamedLines
pub mod Serving
pub mod LastTold
