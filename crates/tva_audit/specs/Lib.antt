pub mod Sums
pub mod Audit
pub mod Answers
pub mod Worked
pub mod Chunks
pub mod Deciding
pub mod Tallies
pub mod Followed
