pub mod Calls
pub mod Figures
