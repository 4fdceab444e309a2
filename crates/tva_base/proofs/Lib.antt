mod Common
pub mod Digits
pub mod Dotted
pub mod Each
pub mod Lives
pub mod Prefixes
pub mod Widths
