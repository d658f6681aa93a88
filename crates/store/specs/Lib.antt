pub mod Stacks
pub mod Meaning
pub mod Steps
pub mod Passing
pub mod Answers
pub mod Halves
pub mod Pairs
pub mod Results
