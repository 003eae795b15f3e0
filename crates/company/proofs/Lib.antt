pub mod Lawful
pub mod Instalments
pub mod Making
