pub mod Holds
pub mod Joins
pub mod Windows
