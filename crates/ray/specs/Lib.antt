-- The ray through the volume.
pub mod Side
pub mod Axes
pub mod Length
pub mod Codes
