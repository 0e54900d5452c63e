pub mod Sets
pub mod Kept
pub mod Left
pub mod Pieces
