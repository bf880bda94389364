pub mod ParsedContents
pub mod ModuleWords
pub mod CallWords
pub mod ClapWalks
pub mod WordKinds
pub mod WordsLemmas
