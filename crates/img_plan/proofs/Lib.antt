pub mod FilesSteps
pub mod Fronts
pub mod Kept
pub mod PackingSteps
