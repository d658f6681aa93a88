pub mod Bound
pub mod Table
