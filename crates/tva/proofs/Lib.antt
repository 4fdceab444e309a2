mod Common
pub mod Fronts
pub mod Settled
pub mod Reported
pub mod Wants
pub mod Each
pub mod Given
pub mod Found
pub mod Texts
pub mod Pieces
pub mod Replays
pub mod HexWords
pub mod Windowed
pub mod SumLines
pub mod Audits
