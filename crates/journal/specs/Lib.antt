pub mod Kinds
pub mod Appending
pub mod Bounds
