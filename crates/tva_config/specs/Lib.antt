pub mod Changes
pub mod Links
pub mod Nodes
pub mod Read
pub mod Routes
pub mod Stages
pub mod Views
