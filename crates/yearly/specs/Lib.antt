pub mod Histories
pub mod Entries
pub mod YearRules
pub mod Runs
