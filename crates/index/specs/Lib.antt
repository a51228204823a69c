pub mod Index
pub mod Formed
pub mod Code
pub mod Examples
