mod Common
pub mod Queues
pub mod Finding
pub mod Held
