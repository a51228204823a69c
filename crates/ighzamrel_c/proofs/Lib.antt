pub mod Once
pub mod Demands
pub mod FontDemands
pub mod Strict
pub mod Edited
