pub mod Traits
pub mod Sizes
pub mod Prices
pub mod Weights
pub mod Rules
pub mod Limits
