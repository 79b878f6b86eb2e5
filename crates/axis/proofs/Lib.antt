-- Laws of one axis, for the crates above.
pub mod Flag
pub mod Table
pub mod Wide
pub mod Shift
pub mod Bounds
pub mod Once
