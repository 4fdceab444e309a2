mod Common
pub mod Homes
pub mod Chains
pub mod Nodes
pub mod Places
pub mod Paths
pub mod Grown
pub mod Pruned
pub mod Rooted
pub mod Ringed
