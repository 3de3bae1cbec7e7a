pub mod Fields
pub mod Records
pub mod Resolve
pub mod Search
pub mod Features
pub mod Maps
pub mod Loading
pub mod Gathered
