pub mod GuardState
pub mod Guarded
pub mod Told
pub mod Within
pub mod KeptOff
