pub mod First
pub mod FirstLaws
pub mod Answers
pub mod Calls
pub mod FaultTitle
pub mod TestLaws
