pub mod HalfLaw
pub mod Nears
pub mod SumLaws
