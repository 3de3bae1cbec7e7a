pub mod StreamFaults
pub mod Laws
pub mod Examples
pub mod Givens
pub mod Searched
pub mod Named
pub mod Parted
