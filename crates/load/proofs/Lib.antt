-- Laws of the loader.
pub mod Refusals
pub mod Taking
pub mod Fields
pub mod Cutting
pub mod Loading
pub mod Due
pub mod Once
