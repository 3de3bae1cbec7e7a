-- The loaded volumes: what they tell of their namings.
pub mod Told
pub mod Parts
pub mod Laws
