mod Common
pub mod Standing
mod Making
mod Hearing
pub mod Calls
pub mod Played
pub mod Lengths
pub mod Shown
