pub mod Draws
pub mod Hosts
pub mod Rows
pub mod Text
