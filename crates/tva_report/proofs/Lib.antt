mod Common
pub mod Cuts
pub mod Comparing
pub mod LinesBack
pub mod Differing
pub mod Passing
pub mod Feeds
pub mod Boots
pub mod Keys
pub mod Adding
pub mod Placing
pub mod Worse
