-- What the words say, what a line asks for, and the lines; then the same by clap.
pub mod Said
pub mod Asked
pub mod Lent
pub mod Lines
pub mod Commands
pub mod ByClap
