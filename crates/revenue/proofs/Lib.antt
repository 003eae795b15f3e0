pub mod Nearing
pub mod Shares
pub mod Turns
pub mod Replacing
pub mod Owners
