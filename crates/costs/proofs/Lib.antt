pub mod Nearing
pub mod Parts
