pub mod KnownBytes
pub mod Taking
