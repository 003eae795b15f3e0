pub mod Figures
pub mod Questions
