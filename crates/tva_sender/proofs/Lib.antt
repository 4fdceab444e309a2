mod Common
pub mod Bounds
pub mod Pushes
pub mod Keeping
pub mod Playing
pub mod Standing
pub mod Showing
pub mod Taking
pub mod Tree
pub mod Growing
pub mod Placed
pub mod Recent
