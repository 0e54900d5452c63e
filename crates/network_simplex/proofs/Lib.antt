pub mod Proposals
