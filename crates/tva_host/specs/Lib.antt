pub mod History
pub mod Sending
pub mod Receiving
pub mod Calls
pub mod Stands
pub mod Sound
pub mod Claims
