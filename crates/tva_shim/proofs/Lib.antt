mod Common
pub mod Sizes
pub mod Paired
pub mod Lengths
pub mod Tags
pub mod NumberBytes
pub mod Reading
pub mod RightsRead
pub mod Wholes
pub mod Readable
pub mod Nothing
