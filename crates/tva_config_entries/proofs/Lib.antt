mod Common
pub mod Answered
pub mod Bytes
pub mod Documents
pub mod EntriesValid
pub mod InTurn
pub mod Items
pub mod KindsValid
pub mod Listed
pub mod Prefixes
pub mod Ranges
pub mod ReadingValid
pub mod Seen
pub mod Staged
pub mod Turns
