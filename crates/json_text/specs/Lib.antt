pub mod Flaws
pub mod JsonOf
pub mod Members
pub mod Numbers
