pub mod Stacks
pub mod Links
pub mod Scans
pub mod Sweeps
pub mod Histories
