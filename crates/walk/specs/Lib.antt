-- What the walk's functions say of a scene.
pub mod Model
pub mod Plan
pub mod Walked
pub mod Order
