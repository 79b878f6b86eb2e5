-- Laws of lines and scenes.
pub mod Units
pub mod Stretch
pub mod Beyond
pub mod Steps
pub mod Spots
pub mod Rounded
pub mod Ahead
pub mod Middle
pub mod Equation12
pub mod Crossing
pub mod Sizes
pub mod Three
pub mod Scenes
pub mod Raised
pub mod Tenths
pub mod Once
