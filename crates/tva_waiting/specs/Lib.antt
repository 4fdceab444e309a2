pub mod Inputs
pub mod Flights
pub mod Noted
pub mod Queues
pub mod Lanes
pub mod Kept
pub mod Behind
