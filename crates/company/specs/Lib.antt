pub mod Terms
pub mod Made
pub mod Instalments
pub mod Events
