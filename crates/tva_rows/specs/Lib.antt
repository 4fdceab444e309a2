pub mod Valid
pub mod Raw
pub mod Brief
