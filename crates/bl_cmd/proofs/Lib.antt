mod Commands
mod EntrantLemmas
mod Faults
mod TableLemmas
