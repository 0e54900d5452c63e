pub mod Left
pub mod Ends
pub mod Taking
pub mod Restarts
pub mod Files
pub mod Locks
pub mod Worked
