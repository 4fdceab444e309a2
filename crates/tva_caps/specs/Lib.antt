pub mod Check
pub mod Formula
pub mod Known
pub mod Kept
pub mod Minting
