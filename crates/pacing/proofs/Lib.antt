pub mod Made
pub mod Pace
