-- One axis.
pub mod Leg
pub mod Refusal
pub mod Codes
