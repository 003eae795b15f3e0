pub mod Registers
pub mod Orders
pub mod Payments
pub mod ClosedLists
pub mod Laws
