pub mod Words
pub mod Faults
pub mod Banks
