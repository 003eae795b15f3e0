pub mod OrderLaws
pub mod Events
pub mod PaidLaw
