pub mod Frac
pub mod Rounding
pub mod Sums
pub mod Nearness
