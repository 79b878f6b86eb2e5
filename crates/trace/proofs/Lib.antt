-- Laws of the program.
pub mod Draining
