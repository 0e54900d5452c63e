pub mod CountingLaws
pub mod Asking
pub mod HallsTheorem
pub mod Needed
pub mod AskingLaws
pub mod OthersLaws
