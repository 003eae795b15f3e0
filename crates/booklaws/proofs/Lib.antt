pub mod Events
pub mod Noting
pub mod ConfirmLaw
pub mod QuietLaws
pub mod Bills
pub mod BillLaw
pub mod CloseLaw
