-- The name shown for a layer.
pub mod Layers
