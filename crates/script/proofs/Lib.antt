pub mod Feeds
pub mod Lines
pub mod Replying
pub mod Words
mod CpuLineLemmas
