pub mod Firsts
pub mod Lawful
pub mod Charging
pub mod Nearing
