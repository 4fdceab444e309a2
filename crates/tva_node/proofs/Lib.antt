mod Common
pub mod Sorting
pub mod Making
pub mod Finding
pub mod Roles
pub mod Rows
pub mod Left
pub mod Waits
pub mod Works
pub mod Taking
pub mod Asked
pub mod Decides
pub mod Forgets
pub mod Zips
pub mod Posts
pub mod Crosses
