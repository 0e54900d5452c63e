pub mod Words
pub mod VersionErrors
