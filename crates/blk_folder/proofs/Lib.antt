pub mod Held
mod Examples
