pub mod Kinds
pub mod Bounds
pub mod Zones
pub mod Refusals
pub mod Aspects
pub mod Laws
