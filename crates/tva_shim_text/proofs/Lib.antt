mod Common
pub mod Joins
pub mod OneText
