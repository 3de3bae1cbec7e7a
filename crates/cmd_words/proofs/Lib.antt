mod Shapes
mod Rows
mod Walks
mod Taken
mod Found
mod Grammars
mod WholeLines
mod ByParts
