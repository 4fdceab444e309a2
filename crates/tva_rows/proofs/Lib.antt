mod Common
pub mod Packing
