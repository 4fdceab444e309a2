mod Common
pub mod Links
pub mod Ports
pub mod Answers
pub mod Queueing
pub mod Handled
pub mod Changed
pub mod Copies
pub mod InForce
pub mod Known
pub mod Stocked
pub mod Ways
pub mod Tables
pub mod Fates
pub mod Rerouted
