mod Common
pub mod Texts
pub mod Told
pub mod Tallied
pub mod Parts
pub mod Worked
pub mod Windowed
pub mod Budgets
pub mod OneAnswer
