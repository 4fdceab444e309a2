mod Common
pub mod Named
pub mod Wired
