pub mod Charges
pub mod Verdicts
pub mod Stands
pub mod Budget
pub mod Steps
pub mod Hash
pub mod Index
pub mod Places
