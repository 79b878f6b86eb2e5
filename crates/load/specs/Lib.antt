-- What a program reads of its grid and densities.
pub mod Loaded
pub mod Refusal
pub mod Numbers
pub mod Line
pub mod Cut
pub mod Read
pub mod Sound
