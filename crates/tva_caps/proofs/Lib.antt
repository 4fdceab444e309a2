mod Common
pub mod Bytes
pub mod Lasts
pub mod Stamps
