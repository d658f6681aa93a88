pub mod Lines
pub mod Verbs
pub mod Refusals
pub mod Readings
pub mod Parts
pub mod Names
