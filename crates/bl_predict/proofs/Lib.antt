pub mod CacheLemmas
pub mod ChoiceLemmas
pub mod DriveLemmas
pub mod LeastPlaces
pub mod OutlineLemmas
pub mod DrivePairs
pub mod ReadObservations
pub mod EnabledChoices
