pub mod Bits
pub mod Combined
pub mod Finding
pub mod Counted
pub mod OneWord
pub mod Last
pub mod Told
