pub mod Lines
pub mod Listings
pub mod Answers
pub mod Tallies
