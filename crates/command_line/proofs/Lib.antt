pub mod Leaves
pub mod PlainWords
pub mod ReadWords
pub mod RunWords
