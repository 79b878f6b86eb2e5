-- The text job.
pub mod Stand
pub mod Rays
pub mod Line
pub mod Job
pub mod Sound
pub mod Move
pub mod InAll
pub mod Read
