pub mod Asked
pub mod CommandLine
pub mod Mistakes
pub mod Spellings
