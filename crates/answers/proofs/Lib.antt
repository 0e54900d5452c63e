pub mod CheckAnswers
pub mod Named
pub mod Rows
pub mod Solutions
