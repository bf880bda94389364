pub mod Bodies
pub mod InterpreterAnswers
pub mod Jumps
pub mod Machines
pub mod MatchStates
pub mod Transitions
