pub mod Buckets
pub mod Lowest
pub mod KeyRing
pub mod Links
pub mod Tree
pub mod Bits
pub mod Numbers
pub mod Alone
