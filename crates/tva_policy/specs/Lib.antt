pub mod Grants
pub mod Notes
