pub mod Configs
pub mod Defects
pub mod Program
pub mod Ready
pub mod Roots
pub mod RunAnswer
pub mod Start
