pub mod Items
pub mod Put
pub mod Memory
pub mod Places
pub mod Edge
