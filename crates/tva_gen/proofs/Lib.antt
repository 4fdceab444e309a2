mod Common
pub mod Lines
pub mod RowsPut
pub mod Whole
