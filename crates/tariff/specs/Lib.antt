pub mod Limits
pub mod Made
pub mod LineNumbers
pub mod Lines
pub mod Amounts
pub mod Bills
