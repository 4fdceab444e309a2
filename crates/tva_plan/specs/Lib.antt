pub mod Counts
pub mod Names
pub mod Numbers
pub mod Valid
pub mod Wiring
