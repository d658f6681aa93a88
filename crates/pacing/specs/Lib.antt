pub mod Rules
pub mod Floors
pub mod Paced
pub mod Shares
pub mod Efforts
pub mod Refusals
