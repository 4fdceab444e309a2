mod Common
pub mod Places
pub mod Compared
pub mod Knowing
pub mod Due
pub mod Standing
pub mod Acts
pub mod History
pub mod Sent
pub mod Between
