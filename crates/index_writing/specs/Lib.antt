pub mod Writing
pub mod Code
pub mod Examples
