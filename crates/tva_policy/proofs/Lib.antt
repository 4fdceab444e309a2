mod Common
pub mod Compared
pub mod Keeping
pub mod Noted
