mod Common
pub mod Joins
pub mod Printables
pub mod Widths
