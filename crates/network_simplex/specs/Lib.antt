pub mod HasRoom
pub mod IsProposal
