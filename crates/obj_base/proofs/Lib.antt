pub mod Numbers
pub mod Sums
pub mod SoundLemmas
pub mod StopLemmas
pub mod Lanes
