-- What is said of a line and of a scene. The meaning is ray's: a scene is a volume and a ray whose coordinates have no sign.
pub mod Scene
pub mod Reach
pub mod Beyond
pub mod Quotient
pub mod Raised
