pub mod First
pub mod Checked
