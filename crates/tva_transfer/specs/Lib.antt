pub mod Files
pub mod Stands
pub mod Couriers
pub mod Sound
