pub mod Memories
pub mod Packing
pub mod Elements
