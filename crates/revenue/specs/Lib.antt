pub mod Owners
pub mod Billed
pub mod Served
pub mod Recognised
pub mod Ug1
pub mod Gs
